-- The rule has a limit for an event's name alone, and that is the depth 1.
use mathlib.Core.Path.{sym, ◌∙◌}
use Rattle.payload.proofs.Forms.{fits-form}
use Rattle.payload.proofs.given.depth_fits.Goals as goal

pub returns-then-ne : goal.returns-then-ne
returns-then-ne c = c.if-ne.true ∙ sym (fits-form _ _ ∙ rw (sym c.ne.ensures ∙ c.if-ne.true))

pub returns-else-ne : goal.returns-else-ne
returns-else-ne c = sym (fits-form _ _ ∙ rw (sym c.ne.ensures ∙ c.if-ne.false))
