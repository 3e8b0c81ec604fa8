-- Places of one width: a place is used where the top bit of its first byte is set.
use Rattle.std.specs.Prelude.{cond, map, ℕ, leb, get_or}
use Rattle.std.proofs.Math.Option.{Option, none, some}
use Rattle.rules.specs.Octets.{Octets, chunks}
use Rattle.rules.specs.Entries.{lowest}

-- the bytes of a place, or none where it is free
unfoldable pub used_in : Octets → Option Octets
used_in p = cond (leb 128 (get_or p 0 0)) (some p) none

-- the lowest free one of so many places of `size` bytes, or their number where none is free
abbrev pub lowest_free : Octets → ℕ → ℕ → ℕ
lowest_free s size count = lowest (map used_in (chunks count size s))
