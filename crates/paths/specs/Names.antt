-- Where the names of a path's text end.
use Rattle.std.specs.Prelude.{◌≡◌, [], ◌∷◌, ℕ, ◌+◌, ◌-◌, ◌≤◌, length, take, drop}
use Rattle.rules.specs.Octets.{Octets}
use Rattle.rules.specs.Path.{Names, split, names_in, path_text}

-- the first piece of a text, which ends at its first slash, and the others
unfoldable pub first_piece : Octets → Octets
first_piece s = elim (split s) [ [] ↦ [] | n ∷ ns ↦ n ]

unfoldable pub other_pieces : Octets → Names
other_pieces s = elim (split s) [ [] ↦ [] | n ∷ ns ↦ ns ]

-- the index of the first slash from an index on, or the length
unfoldable pub name_end : Octets → ℕ → ℕ
name_end s at = at + length (first_piece (drop at s))

-- the path that lies k levels above a full path ends at an index of its text
pub record Above (s : Octets) (k end : ℕ) : Type 0 where
  pub within : end ≤ length s
  pub text : take end s ≡ path_text (take (length (names_in s) - k) (names_in s))
