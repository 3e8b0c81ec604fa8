-- What each form says of a text.
use mathlib.Core.Path.{◌≡◌, refl, ap, subst, ◌∙◌}
use mathlib.Core.Bool.{true}
use Rattle.rules.specs.Octets.{Octets}
use Rattle.rules.specs.Path.{split, Given, malformed, absolute, relative, special, given, is_full}
use Rattle.rules.proofs.PathLaws.{given_is_full, given_below, given-event}
use Rattle.paths.specs.Form.{form_of}
use Rattle.paths.specs.declared.answer.Form.{Form}
use Rattle.paths.specs.declared.answer.Form.TheVariants.{Absolute, Relative, Special, Malformed}

abbrev Says : Octets → Form → Type 0
Says s Absolute = is_full s ≡ true
Says s Relative = given s ≡ relative (split s)
Says s Special = given s ≡ special s
Says s Malformed = given s ≡ malformed

says_by : (s : Octets) (g : Given) → given s ≡ g → Says s (form_of g)
unfolding form_of
says_by s malformed e = e
says_by s (absolute ns) e = given_is_full s ns e
says_by s (relative ns) e = e ∙ ap relative (given_below s ns e).pieces
says_by s (special t) e = e ∙ ap special (given-event s t e).text

module _ (s : Octets) where
  says : (f : Form) → form_of (given s) ≡ f → Says s f
  says f e = subst (Says s) e (says_by s (given s) refl)

  pub form-absolute : form_of (given s) ≡ Absolute → is_full s ≡ true
  form-absolute = says Absolute

  pub form-relative : form_of (given s) ≡ Relative → given s ≡ relative (split s)
  form-relative = says Relative

  pub form-special : form_of (given s) ≡ Special → given s ≡ special s
  form-special = says Special

  pub form-malformed : form_of (given s) ≡ Malformed → given s ≡ malformed
  form-malformed = says Malformed
