-- Bytes of a slice read as one number, most significant first.
use Rattle.std.specs.Prelude.{◌≡◌, ℕ, ◌<◌, get_or}
use Rattle.rules.specs.Octets.{Octets, field}

-- the numbers of a slice are bytes
abbrev pub Bytes : Octets → Type 0
Bytes s = (j : ℕ) → get_or s j 0 < 256

-- r is the number in the n bytes from `at` on
pub record Read (s : Octets) (at n r : ℕ) : Type 0 where
  pub value : r ≡ field s at n
  pub bytes : Bytes s
