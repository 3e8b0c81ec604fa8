-- The control domain is domain 0.
use mathlib.Core.Path.{sym}
use Rattle.rules.proofs.Senders.{control_test}
use Rattle.senders.proofs.is_control.Goals as goal

pub returns : goal.returns
returns c = sym (control_test _)
