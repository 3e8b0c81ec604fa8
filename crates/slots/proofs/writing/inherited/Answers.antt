-- The control domain leaves the number; any other domain stands in the place of the owner's.
use mathlib.Core.Path.{sym, ◌∙◌}
use native.Mathlib.Omega.{arith}
use Rattle.slots.proofs.writing.inherited.Goals as goal

pub returns-then-is_control : goal.returns-then-is_control
returns-then-is_control c = (rw (sym c.is_control.ensures ∙ c.if-is_control.true), omega arith)

pub returns : goal.returns
returns c = (rw (sym c.is_control.ensures ∙ c.if-is_control.false), omega arith)
