-- The form says it.
use mathlib.Core.Path.{◌≡◌, refl, sym, ◌∙◌}
use denote.Enum.Bare.{sameb}
use Rattle.paths.specs.contracts.answer.Form.{the_type}
use Rattle.paths.specs.declared.answer.Form.{Form}
use Rattle.paths.specs.declared.answer.Form.TheVariants.{Absolute, Relative, Special, Malformed}
use Rattle.requests.specs.Place.{is_relative}
use Rattle.requests.proofs.place.is_relative.Goals as goal

by-form : (f : Form) → is_relative f ≡ sameb the_type f Relative
unfolding is_relative
by-form Absolute = refl
by-form Relative = refl
by-form Special = refl
by-form Malformed = refl

pub returns : goal.returns
returns c = c.eq.ensures ∙ sym (by-form c.args.form)
