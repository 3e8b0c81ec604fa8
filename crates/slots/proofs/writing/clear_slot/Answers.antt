-- The bytes of a free slot are zeros, and the other slots keep theirs.
use Rattle.slots.proofs.Put.{free_put}
use Rattle.slots.proofs.writing.clear_slot.Goals as goal

pub returns : goal.returns
returns c =
    free_put _ c.requires.1 c.args.i c.requires.0 c.clear.ensures
