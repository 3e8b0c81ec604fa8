-- The xor of two bytes is 0 where they agree, and the or of the xors is 0 where all of them do; texts of two lengths differ.
use mathlib.Core.Path.{sym}
use native.Mathlib.Omega.{arith}
use Rattle.rules.proofs.Compare.{same_length}
use Rattle.octets.proofs.Gather.{same_turn, same_end}
use Rattle.octets.proofs.compare.same.Goals as goal

pub returns-then-a-b : goal.returns-then-a-b
returns-then-a-b c = sym (same_length _ _ c.if-a-b.true)

pub loop-i-preserved : goal.loop-i-preserved
loop-i-preserved c = same_turn _ _ c.loop-i.i c.loop-i.differ c.loop-i-test.true (omega arith) c.loop-i.invariant

pub returns : goal.returns
returns c = same_end _ _ c.loop-i.i c.loop-i.differ (omega arith) (omega arith) c.loop-i.invariant
