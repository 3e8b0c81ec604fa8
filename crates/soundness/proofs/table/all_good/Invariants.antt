-- The slots before i are good, so those from i on decide.
use mathlib.Core.Path.{◌≡◌}
use Prim.Native.Nat.{◌-◌}
use Rattle.rules.specs.Size.{slots}
use Rattle.soundness.specs.Parts.{good_slot}
use Rattle.soundness.specs.Parts.{every}
use Rattle.soundness.proofs.table.all_good.Given as goal

abbrev pub invariant-loop-i : goal.invariant-loop-i
invariant-loop-i l = every (good_slot l.t) slots 0 ≡ every (good_slot l.t) (slots - l.i) l.i
