-- Some place from there on has the watch.
use mathlib.Core.Path.{refl, ◌∙◌}
use mathlib.Core.Option.{none}
use Prim.Native.Nat.{◌-◌}
use native.Mathlib.Omega.{arith}
use lib.ListN.{get_or}
use Rattle.std.proofs.Common.{rules, tests}
use Rattle.std.proofs.lemmas.Iterator.{YieldsList-from_range}
use Rattle.std.proofs.lemmas.Iterator.Search.{any_from_yields_List}
use Rattle.rules.specs.Size.{most_watches}
use Rattle.rules.specs.Layout.{watches_of}
use Rattle.rules.specs.Sound.{twin, watched}
use Rattle.domains.specs.Entry.{passes}
use Rattle.domains.proofs.Search.{has_any}
use Rattle.watches.proofs.Bytes.{length-watches_of}
use Rattle.watches.proofs.places.watched_from.Goals as goal

pub returns : goal.returns
unfolding watched
returns c =
    let args = c.args in
    let ws = watches_of args.s.now in
    let test = twin args.c args.p.now args.t.now in
    let rest = most_watches - args.from in
    any_from_yields_List (λ k. passes test (get_or ws k none)) _ _ c.any.result c.any.ensures.ran
    (YieldsList-from_range args.from most_watches rest refl refl) (λ x b q k. search (rules, tests))
    ∙ has_any test ws args.from rest (omega (arith, length-watches_of args.s.now))
