-- The nearest ancestor that is there may be read, or not.
use mathlib.Core.Path.{sym, ◌∙◌}
use Rattle.nodes.proofs.Outcomes.{known-absent, hidden_absent}
use Rattle.nodes.proofs.looking.absent.Goals as goal

pub returns-then-may_read : goal.returns-then-may_read
returns-then-may_read c = λ ns. known-absent _ ns _ _ (sym c.may_read.ensures ∙ c.if-may_read.true)

pub returns : goal.returns
returns c = λ ns. hidden_absent _ ns _ _ (sym c.may_read.ensures ∙ c.if-may_read.false)
