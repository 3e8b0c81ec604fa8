-- The or of bytes is 0 where each of them is; after so many turns the first bytes are gathered so.
use Rattle.octets.proofs.Gather.{zero_turn, zero-end}
use Rattle.octets.proofs.compare.all_zero.Goals as goal

pub loop-b-preserved : goal.loop-b-preserved
loop-b-preserved c = zero_turn _ _ c.loop-b.all c.loop-b-test.true c.loop-b.invariant

pub returns : goal.returns
returns c = zero-end _ _ c.loop-b.all c.loop-b-test.false c.loop-b.invariant
