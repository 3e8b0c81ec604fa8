-- The strings of a payload that has up to three, by their ends.
use Rattle.std.specs.Prelude.{List, [], ◌∷◌, ◌+◌, length}
use Rattle.std.proofs.Math.Option.{Option, none, some}
use Rattle.rules.specs.Octets.{Octets}
use Rattle.payload.specs.declared.parts.Parts.{Parts}
use Rattle.payload.specs.declared.parts.Parts.TheVariants.{One, Two, Three, Other}

-- the ends of one, two or three strings, each with its nul after it
unfoldable pub parts_of : Option (List Octets) → Parts
parts_of none = Other
parts_of (some []) = Other
parts_of (some (a ∷ [])) = One (length a)
parts_of (some (a ∷ b ∷ [])) = Two (length a) (length a + 1 + length b)
parts_of (some (a ∷ b ∷ c ∷ [])) = Three (length a) (length a + 1 + length b) (length a + 1 + length b + 1 + length c)
parts_of (some (a ∷ b ∷ c ∷ d ∷ ds)) = Other
