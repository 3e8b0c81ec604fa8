-- The places before the one in turn were asked, and freed where the answer was true.
use mathlib.Core.Path.{◌≡◌, refl, sym, ap, ◌∙◌}
use mathlib.Core.Bool.{Bool}
use Rattle.domains.proofs.FreeLaws.{freed_at, freed_next}
use Rattle.domains.proofs.freeing.free_where.Goals as goal
use Rattle.domains.proofs.freeing.free_where.Goals.{then-test, else-test}

pub loop-k-preserved : goal.loop-k-preserved
loop-k-preserved g c =
    let made : c.if-test.s ≡ freed_at c.args.size c.test.result c.loop-k.k c.loop-k.s =
    elim c.if-test.branch [
      | then-test w ↦ w.s-is ∙ w.clear.ensures ∙ sym (ap (λ (b : Bool). freed_at c.args.size b c.loop-k.k c.loop-k.s) w.if-test.true)
      | else-test w ↦ w.s-is ∙ sym (ap (λ (b : Bool). freed_at c.args.size b c.loop-k.k c.loop-k.s) w.if-test.false)
    ] in
    freed_next _ _ _ _ _ c.loop-k.invariant _ (_, refl, c.test.ensures) _ made
