-- The payload is a nul alone.
use mathlib.Core.Path.{sym, ◌∙◌}
use Rattle.payload.proofs.DomainLaws.{reset_means, reset_not}
use Rattle.payload.proofs.bare.reset.Goals as goal

pub returns-then-same : goal.returns-then-same
returns-then-same c = reset_means _ (sym c.same.ensures ∙ c.if-same.true)

pub returns : goal.returns
returns c = reset_not _ (sym c.same.ensures ∙ c.if-same.false)
