-- A walk goes on by one step less than it had.
use Prim.Native.Nat.{◌+◌}
use Rattle.soundness.proofs.chain.+walk_walk_up.Given as goal

abbrev pub decreases-walk : goal.decreases-walk
decreases-walk l = l.steps + l.steps + 1

abbrev pub decreases-walk_up : goal.decreases-walk_up
decreases-walk_up l = l.steps + l.steps
