-- Where a new watch stands.
use Rattle.std.specs.Prelude.{◌≡◌, Bool, true, false}
use Rattle.rules.specs.Octets.{Octets}
use Rattle.rules.specs.Path.{special, given, is_full}

-- an event's name, or a full path's text
abbrev pub PlacedAs : Bool → Octets → Type 0
PlacedAs true path = given path ≡ special path
PlacedAs false path = is_full path ≡ true

-- an event's name is never relative
abbrev pub NamedSo : Bool → Bool → Type 0
NamedSo true relative = relative ≡ false
NamedSo false relative = Unit {0}
