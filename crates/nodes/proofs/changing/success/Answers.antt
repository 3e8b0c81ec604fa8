-- The reply is `okay`'s, and the effect the one given.
use mathlib.Core.Path.{refl}
use Rattle.nodes.proofs.changing.success.Goals as goal

pub returns : goal.returns
returns c = (refl, c.okay.ensures)
