-- Some place from there on has the domain.
use mathlib.Core.Path.{refl, ◌∙◌}
use Prim.Native.Nat.{◌-◌}
use native.Mathlib.Omega.{arith}
use lib.Dec.{eqb}
use lib.ListN.{get_or}
use mathlib.Core.Option.{none}
use Rattle.std.proofs.Common.{rules, tests}
use Rattle.std.proofs.lemmas.Iterator.{YieldsList-from_range}
use Rattle.std.proofs.lemmas.Iterator.Search.{any_from_yields_List}
use Rattle.rules.specs.Size.{most_domains}
use Rattle.rules.specs.Layout.{domains_of}
use Rattle.domains.specs.Entry.{passes}
use Rattle.domains.proofs.Search.{has_any}
use Rattle.domains.proofs.Laws.{length-domains_of}
use Rattle.domains.proofs.places.introduced_from.Goals as goal

pub returns : goal.returns
returns c =
    let args = c.args in
    let ds = domains_of args.s.now in
    let test = eqb args.d in
    let rest = most_domains - args.from in
    any_from_yields_List (λ k. passes test (get_or ds k none)) _ _ c.any.result c.any.ensures.ran
    (YieldsList-from_range args.from most_domains rest refl refl) (λ x b q k. search (rules, tests))
    ∙ has_any test ds args.from rest (omega (arith, length-domains_of args.s.now))
