-- Each place is asked whether it has the watch, of bytes that still re-encode to themselves.
use mathlib.Core.Path.{◌≡◌, ap, ◌∙◌}
use mathlib.Core.Option.{none}
use native.Mathlib.Omega.{arith}
use lib.ListN.{get_or}
use Rattle.std.proofs.Common.{rules, tests}
use Rattle.rules.specs.Octets.{Octets}
use Rattle.rules.specs.Layout.{watches_of}
use Rattle.rules.specs.Sound.{twin}
use Rattle.watches.specs.Watch.{KeptWatches}
use Rattle.domains.specs.Entry.{passes}
use Rattle.watches.proofs.Written.{freed-kept, freed-watches}
use Rattle.watches.proofs.changes.remove_twin.Goals as goal

pub free_where-requires-clause-asked : goal.free_where-requires-clause-asked
free_where-requires-clause-asked c = λ x answers h e.
    let kept : KeptWatches x.now = rw e (freed-kept c.args.s.now c.requires answers (omega arith)) in
    search (rules, tests)

pub returns : goal.returns
returns c =
    let test = twin c.args.c c.args.p.now c.args.t.now in
    freed-watches c.args.s.now c.requires test _
    (λ t i b kept h p.
    let said : b ≡ passes test (get_or (watches_of p.0.now) i none) = search (rules, tests) in
    said ∙ ap (λ (s : Octets). passes test (get_or (watches_of s) i none)) p.1)
    _ c.free_where.ensures
