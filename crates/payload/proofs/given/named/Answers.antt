-- A node's path is a place that is no event's name.
use mathlib.Core.Path.{ap, sym, ◌∙◌}
use Rattle.payload.proofs.Forms.{no_event, named-form}
use Rattle.payload.proofs.given.named.Goals as goal

pub returns-in_err-path : goal.returns-in_err-path
returns-in_err-path c = c.from_residual.ensures ∙ (ap no_event c.in_err-path.ensures ∙ sym (named-form _ _))

pub returns-then-eq : goal.returns-then-eq
returns-then-eq c = sym (rw (sym c.eq.ensures ∙ c.if-eq.true)) ∙ (ap no_event c.in_ok-path.ensures ∙ sym (named-form _ _))

pub returns : goal.returns
returns c = sym (rw (sym c.eq.ensures ∙ c.if-eq.false)) ∙ (ap no_event c.in_ok-path.ensures ∙ sym (named-form _ _))
