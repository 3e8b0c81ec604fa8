-- A place is a path or an event's name.
use mathlib.Core.Path.{ap, sym, ◌∙◌}
use Rattle.payload.specs.Answers.{placed_of}
use Rattle.payload.proofs.Forms.{placed-form}
use Rattle.payload.proofs.given.placed.Goals as goal

pub returns-then-eq : goal.returns-then-eq
returns-then-eq c = sym (placed-form _ _ ∙ rw (sym c.eq.ensures ∙ c.if-eq.true)) ∙ ap (placed_of _) c.form-form.ensures

pub returns : goal.returns
returns c = sym (placed-form _ _ ∙ rw (sym c.eq.ensures ∙ c.if-eq.false)) ∙ ap (placed_of _) c.form-form.ensures
