-- The slots before i reach the root in time, and what is known of them is the length of their ways.
use mathlib.Core.Path.{◌≡◌}
use Prim.Native.Nat.{◌-◌}
use Rattle.rules.specs.Size.{slots}
use Rattle.soundness.specs.Parts.{every}
use Rattle.soundness.specs.Walks.{chained}
use Rattle.soundness.proofs.TableLaws.{Levels}
use Rattle.soundness.proofs.chain.all_chained.Given as goal

abbrev pub invariant-loop-i : goal.invariant-loop-i
invariant-loop-i l = (every (chained l.t) slots 0 ≡ every (chained l.t) (slots - l.i) l.i) × Levels l.t l.known
