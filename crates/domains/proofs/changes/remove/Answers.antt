-- Each place is asked whether it has the domain, of bytes that still re-encode to themselves.
use mathlib.Core.Path.{◌≡◌, ap, ◌∙◌}
use mathlib.Core.Option.{none}
use native.Mathlib.Omega.{arith}
use lib.Dec.{eqb}
use lib.ListN.{get_or}
use Rattle.std.proofs.Common.{rules, tests}
use Rattle.rules.specs.Octets.{Octets}
use Rattle.rules.specs.Layout.{domains_of}
use Rattle.domains.specs.Entry.{passes}
use Rattle.domains.specs.Kept.{KeptDomains}
use Rattle.domains.proofs.Laws.{freed-kept, freed-domains}
use Rattle.domains.proofs.changes.remove.Goals as goal

pub free_where-requires-clause-asked : goal.free_where-requires-clause-asked
free_where-requires-clause-asked c = λ x answers h e.
    let kept : KeptDomains x.now = rw e (freed-kept c.args.s.now c.requires answers (omega arith)) in
    let whole = kept.whole in
    search (rules, tests)

pub returns : goal.returns
returns c =
    let test = eqb c.args.d in
    freed-domains c.args.s.now c.requires test _
    (λ t i b kept h p.
    let said : b ≡ passes test (get_or (domains_of p.0.now) i none) = search (rules, tests) in
    said ∙ ap (λ (s : Octets). passes test (get_or (domains_of s) i none)) p.1)
    _ c.free_where.ensures
