-- The numbers that a used slot's fields and entries are packed into, and entries given in arrays.
use Rattle.std.specs.Prelude.{List, [], ◌∷◌, ℕ, zero, suc, ◌+◌, ◌*◌, ◌-◌, ◌≤◌, ◌<◌, length, get_or, take}
use Rattle.rules.specs.Size.{entries_size, most_entries, longest_name, longest_value}
use Rattle.rules.specs.Octets.{Octets, big_endian, pack}
use Rattle.rules.specs.Node.{Entry}
use Rattle.rules.specs.Layout.{entry_bits}

-- used; parent, name length, value length and entry count
unfoldable pub fields_of : ℕ → ℕ → ℕ → ℕ → ℕ
fields_of parent name value entries = (((128 + parent) * 64 + name) * 128 + value) * 8 + entries

-- four entries of 18 bits, the owner's first
unfoldable pub entries_of : ℕ → ℕ → ℕ → ℕ → ℕ
entries_of a b c d = ((a * 262144 + b) * 262144 + c) * 262144 + d

-- the 18 bits of entry k, which are 0 where there is none
unfoldable pub entry_number : List Entry → ℕ → ℕ
entry_number [] k = 0
entry_number (e ∷ es) zero = e.access * 65536 + e.domain
entry_number (e ∷ es) (suc k) = entry_number es k

-- the bytes of a slot's entries, the owner's first
unfoldable pub entries_bytes : Entry → List Entry → Octets
entries_bytes o es = big_endian entries_size (pack (entry_bits most_entries (o ∷ es)))

-- ── entries given as two arrays, of their accesses and of their domains ──

unfoldable pub entry_in : List ℕ → List ℕ → ℕ → Entry
entry_in access domain k = record { access = get_or access k 0; domain = get_or domain k 0 }

-- those behind the owner's, of count in all
unfoldable pub others_in : ℕ → List ℕ → List ℕ → List Entry
others_in count access domain = take (count - 1) (entry_in access domain 1 ∷ entry_in access domain 2 ∷ entry_in access domain 3 ∷ [])

-- one to four entries that fit their fields
pub record Given (count : ℕ) (access domain : List ℕ) : Type 0 where
  pub least : 1 ≤ count
  pub few : count ≤ most_entries
  pub accesses : count ≤ length access
  pub domains : count ≤ length domain
  pub kinds : (k : ℕ) → k < count → get_or access k 0 < 4
  pub ids : (k : ℕ) → k < count → get_or domain k 0 < 65536

-- a new node's name, value and owner are within their sizes
pub record RoomForNode (n v d : ℕ) : Type 0 where
  pub name : n ≤ longest_name
  pub value : v ≤ longest_value
  pub domain : d < 65536
