-- The tests are those of a good domain, in its order.
use mathlib.Core.Path.{sym, ap, ◌∙◌}
use mathlib.Core.Bool.{not}
use Prim.Native.Nat.{◌+◌}
use native.Mathlib.Omega.{arith}
use lib.ListN.{drop}
use Rattle.rules.specs.Layout.{domains_of}
use Rattle.rules.specs.Sound.{introduced}
use Rattle.domains.proofs.Laws.{good_free, good-zero, good_large, good_ranged}
use Rattle.domains.proofs.checks.place_good.Goals as goal

pub returns-then-not-used : goal.returns-then-not-used
returns-then-not-used c = sym (good_free _ _ (sym c.used.ensures ∙ c.if-not-used.true))

pub returns-then-d-lt1 : goal.returns-then-d-lt1
returns-then-d-lt1 c =
    let taken = sym c.used.ensures ∙ c.if-not-used.false in
    sym (good-zero _ _ taken (omega (arith, c.if-d-lt1.true, c.domain-d.ensures)))

pub returns-then-d-gt-LAST_DOMAIN : goal.returns-then-d-gt-LAST_DOMAIN
returns-then-d-gt-LAST_DOMAIN c =
    let d = c.domain-d.ensures in
    let taken = sym c.used.ensures ∙ c.if-not-used.false in
    sym (good_large _ _ taken (omega (arith, c.if-d-lt1.false, d)) (omega (arith, c.if-d-gt-LAST_DOMAIN.true, d)))

pub returns : goal.returns
unfolding introduced
returns c =
    let args = c.args in
    let d = c.domain-d.ensures in
    let taken = sym c.used.ensures ∙ c.if-not-used.false in
    let good = good_ranged _ _ taken (omega (arith, c.if-d-lt1.false, d)) (omega (arith, c.if-d-gt-LAST_DOMAIN.false, d)) in
    ap not c.introduced_from.ensures ∙ sym (good ∙ ap (λ d. not (introduced d (drop (args.k + 1) (domains_of args.s.now)))) (sym d))
