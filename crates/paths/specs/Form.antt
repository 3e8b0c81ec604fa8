-- The form of a path in a payload, and what the machine's last state says of it.
use Rattle.std.specs.Prelude.{Bool, cond, ◌||◌, ℕ, eqb, leb, length}
use Rattle.rules.specs.Size.{longest_absolute, longest_relative}
use Rattle.rules.specs.Octets.{Octets, same}
use Rattle.rules.specs.Path.{Given, malformed, absolute, relative, special, introduce_name, release_name}
use Rattle.paths.specs.declared.answer.Form.{Form}
use Rattle.paths.specs.declared.answer.Form.TheVariants.{Absolute, Relative, Special, Malformed}

unfoldable pub form_of : Given → Form
form_of malformed = Malformed
form_of (absolute ns) = Absolute
form_of (relative ns) = Relative
form_of (special e) = Special

unfoldable pub is_event : Octets → Bool
is_event s = same s introduce_name || same s release_name

-- what a text is that led to a state
unfoldable pub verdict_of : ℕ → Octets → Form
verdict_of state s =
    cond (eqb state 1 || eqb state 2) (cond (leb (length s) longest_absolute) Absolute Malformed)
    (cond (eqb state 4) (cond (leb (length s) longest_relative) Relative Malformed)
    (cond (eqb state 6) (cond (is_event s) Special Malformed) Malformed))
