-- The type, the two numbers that are copied and the length stand one behind the other.
use mathlib.Core.Path.{refl}
use Rattle.replies.proofs.FrameLaws.{header_put}
use Rattle.replies.proofs.frame.put_header.Goals as goal

pub returns : goal.returns
returns c = (
  refl,
  header_put _ _ _ _ _ _ _ c.requires.0 c.put_number32.ensures c.copy.ensures
      c.put_number32-2.ensures,
)
