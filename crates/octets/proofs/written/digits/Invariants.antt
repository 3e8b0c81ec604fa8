-- A number of two digits or more has one digit more than its tenth.
use mathlib.Core.Path.{◌≡◌}
use Prim.Native.Nat.{◌+◌, ◌-◌, ◌^◌, ◌≤◌, ◌<◌}
use lib.ListN.{length}
use Rattle.rules.specs.Octets.{decimal}
use Rattle.rules.proofs.Decimals.{digit_count}
use Rattle.octets.proofs.written.digits.Given as goal

abbrev pub invariant-loop-left : goal.invariant-loop-left
invariant-loop-left l = (l.count ≤ 20) × ((l.left < 10 ^ (21 - l.count)) × (length (decimal l.n) + 1 ≡ l.count + digit_count (21 - l.count) l.left))

abbrev pub decreases-loop-left : goal.decreases-loop-left
decreases-loop-left l = l.left
