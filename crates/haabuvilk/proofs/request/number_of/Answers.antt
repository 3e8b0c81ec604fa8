-- What is handled has the number 0.
use mathlib.Core.Path.{refl}
use Rattle.rules.specs.Call.{call_number}
use Rattle.haabuvilk.proofs.request.number_of.Goals as goal

pub returns-in-Ok : goal.returns-in-Ok
unfolding call_number
returns-in-Ok c = rw c.in-Ok.is refl
