-- The root is the absolute path of one byte.
use mathlib.Core.Path.{sym, ◌∙◌}
use Rattle.payload.proofs.Forms.{root-form}
use Rattle.payload.proofs.given.is_root.Goals as goal

pub returns-then-eq : goal.returns-then-eq
returns-then-eq c = sym (root-form _ ∙ rw (sym c.eq.ensures ∙ c.if-eq.true))

pub returns-else-eq : goal.returns-else-eq
returns-else-eq c = c.if-eq.false ∙ sym (root-form _ ∙ rw (sym c.eq.ensures ∙ c.if-eq.false))
