-- `OK` and its nul stand behind the header, and are three bytes.
use Rattle.rules.specs.Octets.{text}
use Rattle.rules.specs.Answer.{OK}
use mathlib.Core.Path.{refl}
use Rattle.replies.proofs.kinds.okay.Goals as goal

pub returns : goal.returns
unfolding OK text
returns c = (refl, c.copy.ensures)
