-- The strings of a payload by their places.
use Rattle.std.specs.Prelude.{List, ◌∷◌, ℕ, ◌-◌, take, drop}
use Rattle.std.proofs.Math.Option.{Option, none, some}
use Rattle.rules.specs.Octets.{Octets}

-- the bytes from a to e
abbrev pub part : ℕ → ℕ → Octets → Octets
part a e s = take (e - a) (drop a s)

-- a string put before others, where none is left over
unfoldable pub prepended : Octets → Option (List Octets) → Option (List Octets)
prepended t none = none
prepended t (some ts) = some (t ∷ ts)
