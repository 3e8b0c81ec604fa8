-- What a slot's bytes say of the node that they mean, whatever bytes the table has.
use mathlib.Core.Path.{◌≡◌, refl, sym, ap, ◌∙◌}
use mathlib.Core.Bool.{Bool, true, false, cond}
use mathlib.Core.Option.{Option, none, some}
use Prim.Native.Nat.{ℕ, zero, suc, ◌+◌, ◌*◌, ◌-◌, ◌/◌, ◌%◌, ◌^◌, ◌≤◌, ◌<◌}
use native.Mathlib.Nat.{add-zero, add-sub_cancel_left}
use native.Mathlib.Omega.{arith}
use lib.ListN.{length, get_or, take, drop}
use lib.Dec.{eqb, leb}
use borrow.Author.Tests.{eq-eqb, ne_eqb, leb-true, leb-false}
use lib.Seq.{drop-drop, take-take}
use Rattle.rules.specs.Size.{slots, slot_size, table_size, name_at, value_at, longest_name, longest_value, fields_size, entries_size}
use Rattle.rules.specs.Octets.{Octets, field, bits_at}
use Rattle.rules.specs.Node.{Node, Table, root, node_at}
use Rattle.rules.specs.Layout.{table_of, slot_of, node_of, text_at, entry_at}
use Rattle.rules.proofs.Fields.{field-part, field_three, field-split, field_bound, take-drop-take}
use Rattle.rules.proofs.Slots.{slot_at_lem}
use Rattle.octets.specs.Read.{Bytes}
use Rattle.octets.proofs.Bytes.{agree}
use Rattle.slots.specs.Slot.{slot_at, is_used, head, name_length, value_length, entry_count, entry_of}

-- the bytes of slot i
abbrev pub chunk : Octets → ℕ → Octets
chunk t i = take slot_size (drop (i * slot_size) t)

-- the node that slot i means where it is used
abbrev pub meant : Octets → ℕ → Node
meant t i = node_of (chunk t i) (head t i) (field t (i * slot_size + fields_size) entries_size)

pub slot_is : (t : Octets) (i : ℕ) → i < slots → slot_at t i ≡ cond (eqb (bits_at (head t i) 23 1) 1) (some (meant t i)) none
unfolding slot_of head
slot_is t i h = slot_at_lem t i h
    ∙ rw (field-part t (i * slot_size) slot_size 0 3 (omega arith), field-part t (i * slot_size) slot_size 3 9 (omega arith), add-zero)

pub head_bytes : (t : Octets) (i : ℕ) → i * slot_size + 2 < length t →
    head t i ≡ (get_or t (i * slot_size) 0 * 256 + get_or t (i * slot_size + 1) 0) * 256 + get_or t (i * slot_size + 2) 0
unfolding head
head_bytes t i h = field_three t (i * slot_size) h

is_used_lem : (b : Bool) (n : Node) → is_used (cond b (some n) none) ≡ b
is_used_lem true n = refl
is_used_lem false n = refl

-- the node in a used slot
pub node-some : (ts : Table) (i : ℕ) (n : Node) → get_or ts i none ≡ some n → node_at ts i ≡ n
unfolding node_at
node-some ts i n e = ap (λ (o : Option Node). elim o as (λ (x : Option Node). Node) [ none ↦ root | some m ↦ m ]) e

module _ (t : Octets) (i : ℕ) (h : i < slots) where
  pub used-slot : is_used (slot_at t i) ≡ true → slot_at t i ≡ some (meant t i)
  used-slot u = slot_is t i h ∙ ap (λ (b : Bool). cond b (some (meant t i)) none)
      (sym (is_used_lem (eqb (bits_at (head t i) 23 1) 1) (meant t i)) ∙ ap is_used (sym (slot_is t i h)) ∙ u)

  pub used-node : is_used (slot_at t i) ≡ true → node_at (table_of t) i ≡ meant t i
  used-node u = node-some (table_of t) i (meant t i) (used-slot u)

  -- a text of the slot, as the part of the table that the code returns
  text-part : (j k n : ℕ) → n ≤ k → j + k ≤ slot_size → take n (drop (i * slot_size + j) t) ≡ text_at (chunk t i) j k n
  unfolding text_at
  text-part j k n hn hk =
      ap (take n) (sym (drop-drop j (i * slot_size) t))
      ∙ sym (take-take n k _ hn ∙ take-drop-take n j slot_size (drop (i * slot_size) t) (omega arith))

  pub name-part : is_used (slot_at t i) ≡ true → name_length t i ≤ longest_name →
      take (i * slot_size + name_at + name_length t i - (i * slot_size + name_at)) (drop (i * slot_size + name_at) t) ≡ (node_at (table_of t) i).name
  unfolding node_of name_length
  name-part u l = rw (used-node u, add-sub_cancel_left) (text-part name_at longest_name (name_length t i) l (omega arith))

  pub value-part : is_used (slot_at t i) ≡ true → value_length t i ≤ longest_value →
      take (i * slot_size + value_at + value_length t i - (i * slot_size + value_at)) (drop (i * slot_size + value_at) t) ≡ (node_at (table_of t) i).value
  unfolding node_of value_length
  value-part u l = rw (used-node u, add-sub_cancel_left) (text-part value_at longest_value (value_length t i) l (omega arith))

module _ (t : Octets) (bytes : Bytes t) (whole : length t ≡ table_size) (i : ℕ) (h : i < slots) where
  bound : head t i < 16777216
  bound = omega (arith, head_bytes t i (omega arith), bytes (i * slot_size), bytes (i * slot_size + 1), bytes (i * slot_size + 2))

  first_byte : head t i / 65536 ≡ get_or t (i * slot_size) 0
  first_byte = omega (arith, head_bytes t i (omega arith), bytes (i * slot_size), bytes (i * slot_size + 1), bytes (i * slot_size + 2))

  pub used_byte : leb 128 (get_or t (i * slot_size) 0) ≡ is_used (slot_at t i)
  unfolding bits_at
  used_byte =
      let n = bits_at (head t i) 23 1 in
      let b = get_or t (i * slot_size) 0 in
      rw (slot_is t i h, is_used_lem)
      (agree (λ p. eq-eqb n 1 (omega (arith, leb-true 128 b p, first_byte, bound)))
      (λ p. ne_eqb n 1 (λ q. omega (arith, leb-false 128 b p, q, first_byte, bound))))

  pub parent_byte : is_used (slot_at t i) ≡ true → get_or t (i * slot_size) 0 % 128 ≡ (node_at (table_of t) i).parent
  unfolding node_of bits_at
  parent_byte u = rw (used-node t i h u) (omega (arith, first_byte, bound))

  pub name-length_byte : get_or t (i * slot_size + 1) 0 / 4 ≡ name_length t i
  unfolding name_length bits_at
  name-length_byte = omega (arith, head_bytes t i (omega arith), bytes (i * slot_size), bytes (i * slot_size + 1), bytes (i * slot_size + 2))

  pub value-length-bytes : get_or t (i * slot_size + 1) 0 % 4 * 32 + get_or t (i * slot_size + 2) 0 / 8 ≡ value_length t i
  unfolding value_length bits_at
  value-length-bytes = omega (arith, head_bytes t i (omega arith), bytes (i * slot_size), bytes (i * slot_size + 1), bytes (i * slot_size + 2))

  pub entry-count_byte : get_or t (i * slot_size + 2) 0 % 8 ≡ entry_count t i
  unfolding entry_count bits_at
  entry-count_byte = omega (arith, head_bytes t i (omega arith), bytes (i * slot_size), bytes (i * slot_size + 1), bytes (i * slot_size + 2))

  -- the entries' nine bytes with three of them apart, after the first a
  apart : (a b : ℕ) → a + (3 + b) ≡ 9 →
      let at = i * slot_size + fields_size in
      (field t at 9 ≡ field t at a * 256 ^ (3 + b) + (field t (at + a) 3 * 256 ^ b + field t (at + a + 3) b))
      × (field t (at + a) 3 < 256 ^ 3)
      × (field t (at + a + 3) b < 256 ^ b)
  apart a b e =
      let at = i * slot_size + fields_size in (
        ap (field t at) (sym e) ∙ field-split t at a (3 + b) (omega arith)
            ∙ ap (λ (n : ℕ). field t at a * 256 ^ (3 + b) + n) (field-split t (at + a) 3 b (omega arith)),
        field_bound t bytes 3 (at + a) (omega arith),
        field_bound t bytes b (at + a + 3) (omega arith),
      )

  -- entry k by the three bytes that hold it
  pub entry_three : (k : ℕ) → k < 4 →
      let bits = field t (i * slot_size + fields_size + 2 * k) 3 in
      (bits / 2 ^ (6 - 2 * k) / 65536 % 4 ≡ (entry_of t i k).access) × (bits / 2 ^ (6 - 2 * k) % 65536 ≡ (entry_of t i k).domain)
  unfolding entry_of entry_at bits_at
  entry_three zero h = omega (arith, apart 0 6 refl)
  entry_three (suc zero) h = omega (arith, apart 2 4 refl)
  entry_three (suc (suc zero)) h = omega (arith, apart 4 2 refl)
  entry_three (suc (suc (suc zero))) h = omega (arith, apart 6 0 refl)
  entry_three (suc (suc (suc (suc k)))) h = absurd (omega arith)
