-- The name of an event, and no control domain.
use mathlib.Core.Path.{ap}
use mathlib.Core.Bool.{not}
use Rattle.requests.proofs.place.is_foreign.Goals as goal

pub returns-then-special : goal.returns-then-special
returns-then-special c = rw c.if-special.true (ap not c.is_control.ensures)
