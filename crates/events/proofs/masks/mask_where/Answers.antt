-- After k turns the number has the first k bits of the mask.
use mathlib.Core.Path.{ap}
use Prim.Native.Nat.{ℕ, ◌+◌, ◌*◌}
use Rattle.events.proofs.MaskLaws.{built_none, built_next}
use Rattle.events.proofs.masks.mask_where.Goals as goal

pub loop-k-init : goal.loop-k-init
loop-k-init g c = built_none _

pub loop-k-preserved : goal.loop-k-preserved
loop-k-preserved g c =
    built_next _ _ _ c.loop-k.invariant c.loop-k-test.true _ c.test.ensures _ (ap (λ (b : ℕ). c.loop-k.mask * 2 + b) c.from.ensures)
