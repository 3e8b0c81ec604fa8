-- What the accessors of a slot give, whatever bytes the table has.
use Rattle.std.specs.Prelude.{◌≡◌, Bool, true, false, ℕ, ◌+◌, ◌*◌, ◌-◌, length, get_or}
use Rattle.std.proofs.Math.Option.{Option, none, some}
use Rattle.rules.specs.Size.{slot_size, fields_size, entries_size, table_size, most_entries}
use Rattle.rules.specs.Octets.{Octets, field, bits_at}
use Rattle.rules.specs.Node.{Entry, Node}
use Rattle.rules.specs.Layout.{table_of, table_bytes, entry_at}

-- slot i of a table's bytes
abbrev pub slot_at : Octets → ℕ → Option Node
slot_at t i = get_or (table_of t) i none

abbrev pub is_used : Option Node → Bool
is_used none = false
is_used (some n) = true

-- the first fields of slot i, as one number
unfoldable pub head : Octets → ℕ → ℕ
head t i = field t (i * slot_size) fields_size

-- the lengths and the count as the fields have them, which a sound table keeps within the sizes
unfoldable pub name_length : Octets → ℕ → ℕ
name_length t i = bits_at (head t i) 10 6

unfoldable pub value_length : Octets → ℕ → ℕ
value_length t i = bits_at (head t i) 3 7

unfoldable pub entry_count : Octets → ℕ → ℕ
entry_count t i = bits_at (head t i) 0 3

-- entry k of slot i, the owner's first
unfoldable pub entry_of : Octets → ℕ → ℕ → Entry
entry_of t i k = entry_at (field t (i * slot_size + fields_size) entries_size) (most_entries - 1 - k)

-- a table whose bytes are those of what they mean, as a sound one's are
pub record Canonical (t : Octets) : Type 0 where
  pub whole : length t ≡ table_size
  pub kept : table_bytes (table_of t) ≡ t
