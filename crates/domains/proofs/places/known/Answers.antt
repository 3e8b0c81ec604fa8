-- The control domain is known; of the others those that are introduced.
use mathlib.Core.Path.{sym, ◌∙◌}
use Rattle.rules.specs.Sound.{known}
use Rattle.domains.proofs.places.known.Goals as goal

pub returns-then-is_control : goal.returns-then-is_control
unfolding known
returns-then-is_control c =
    c.if-is_control.true ∙ sym (rw (sym c.is_control.ensures ∙ c.if-is_control.true))

pub returns-else-is_control : goal.returns-else-is_control
unfolding known
returns-else-is_control c =
    c.introduced.ensures ∙ sym (rw (sym c.is_control.ensures ∙ c.if-is_control.false))
