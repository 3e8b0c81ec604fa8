-- What the check of a node table asks of each slot by itself.
use Rattle.std.specs.Prelude.{Bool, true, not, ◌&&◌, ◌||◌, [], ◌∷◌, ◌≡◌, ℕ, zero, suc, ◌+◌, ◌*◌, ◌/◌, ◌%◌, ◌^◌, ◌<◌, length, take, drop, eqb, leb}
use Rattle.std.proofs.Math.Option.{Option, none, some}
use Rattle.rules.specs.Size.{slots, slot_size, table_size, fields_size, entries_size, longest_name, longest_value, most_entries, last_domain, name_at, value_at}
use Rattle.rules.specs.Octets.{Octets, same, all_zero, field, pack}
use Rattle.rules.specs.Path.{is_name}
use Rattle.rules.specs.Node.{Node, node_at}
use Rattle.rules.specs.Layout.{slot_bytes, entry_bits, table_of}
use Rattle.rules.specs.Sound.{good_name, good_entries}
use Rattle.slots.specs.Slot.{slot_at, is_used, name_length, value_length, entry_count}

-- slot 0 is used; a used slot has a good name and good entries
unfoldable pub fair : ℕ → Option Node → Bool
fair i none = not (eqb i 0)
fair i (some n) = good_name i n.name && good_entries (n.owner ∷ n.others)

-- slot i by itself: its bytes are those of what they mean
unfoldable pub good_slot : Octets → ℕ → Bool
good_slot t i = same (slot_bytes (slot_at t i)) (take slot_size (drop (i * slot_size) t)) && fair i (slot_at t i)

-- the lengths and the count are within the sizes
unfoldable pub sized : Octets → ℕ → Bool
sized t i = leb (name_length t i) longest_name && (leb (value_length t i) longest_value && (leb 1 (entry_count t i) && leb (entry_count t i) most_entries))

-- the entries that count are good, and what is past them is zero
unfoldable pub kept_entries : Octets → ℕ → Bool
kept_entries t i =
    let n = node_at (table_of t) i in
    eqb (pack (entry_bits most_entries (n.owner ∷ n.others))) (field t (i * slot_size + fields_size) entries_size) && good_entries (n.owner ∷ n.others)

-- a used slot of a whole table
pub record Used (t : Octets) (i : ℕ) : Type 0 where
  pub below : i < slots
  pub whole : length t ≡ table_size
  pub used : is_used (slot_at t i) ≡ true

-- p holds of k numbers from i on
unfoldable pub every : (ℕ → Bool) → ℕ → ℕ → Bool
every p zero i = true
every p (suc k) i = p i && every p k (suc i)

-- the first byte and the last eight of a slot's entries: no domain is above the last
unfoldable pub low_domains : ℕ → ℕ → Bool
low_domains first rest =
    leb ((first * 1024 + rest / 2 ^ 54) % 65536) last_domain
    && (leb (rest / 2 ^ 36 % 65536) last_domain && (leb (rest / 2 ^ 18 % 65536) last_domain && leb (rest % 65536) last_domain))

-- what stands behind the value is zero
unfoldable pub zero_behind : Octets → ℕ → Bool
zero_behind t i = all_zero (drop (value_length t i) (take longest_value (drop (i * slot_size + value_at) t)))

-- half of a name's field
abbrev pub half_name : ℕ
half_name = longest_name / 2

-- each byte is a small letter, or 0 where its last is 0; a byte's last is the greatest that may stand in its place
unfoldable pub small_letters : Octets → Octets → Bool
small_letters [] ls = true
small_letters (c ∷ cs) [] = true
small_letters (c ∷ cs) (l ∷ ls) = (leb c l && (leb 97 c || eqb l 0)) && small_letters cs ls

-- n bytes from `at` on are a name, with zeros behind it in its field
unfoldable pub kept_name : Octets → ℕ → ℕ → Bool
kept_name t at n = all_zero (drop n (take longest_name (drop at t))) && is_name (take n (drop at t))

-- the name of slot i is good, with zeros behind it
unfoldable pub name_kept : Octets → ℕ → Bool
name_kept t i = all_zero (drop (name_length t i) (take longest_name (drop (i * slot_size + name_at) t))) && good_name i (node_at (table_of t) i).name
