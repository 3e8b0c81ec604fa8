-- The form of a place.
use Rattle.std.specs.Prelude.{Bool, true, false}
use Rattle.paths.specs.declared.answer.Form.{Form}
use Rattle.paths.specs.declared.answer.Form.TheVariants.{Absolute, Relative, Special, Malformed}

unfoldable pub is_special : Form → Bool
is_special Absolute = false
is_special Relative = false
is_special Special = true
is_special Malformed = false

unfoldable pub is_relative : Form → Bool
is_relative Absolute = false
is_relative Relative = true
is_relative Special = false
is_relative Malformed = false
