-- Canonical tables: what the fields of a used slot say of its node. A sound table is canonical.
use mathlib.Core.Path.{◌≡◌, refl, sym, ap, ◌∙◌}
use mathlib.Core.Bool.{Bool, true, false, ◌&&◌, true≢false}
use mathlib.Core.Option.{Option, none, some}
use mathlib.Core.List.{List, [], ◌∷◌}
use Prim.Native.Nat.{ℕ, zero, suc, ◌*◌, ◌-◌, ◌≤◌, ◌<◌}
use native.Mathlib.Nat.{add-zero, min-le_left, min-le_right}
use native.Mathlib.Omega.{arith}
use lib.ListN.{length, get_or, take, length-take}
use lib.Seq.{get_or-take}
use lib.Dec.{eqb, lit<}
use borrow.Author.Tests.{eqb-true}
use Rattle.rules.specs.Size.{slots, slot_size, table_size, longest_name, longest_value}
use Rattle.rules.specs.Octets.{Octets, same, field, bits_at, pack, pack_from}
use Rattle.rules.specs.Node.{Entry, Node}
use Rattle.rules.specs.Layout.{table_of, table_bytes, slot_bytes, node_bits, node_of}
use Rattle.rules.specs.Sound.{sound_table, good_table}
use Rattle.rules.proofs.Compare.{both_true, same_eq}
use Rattle.rules.proofs.Tables.{encoded_at, each_map}
use Rattle.rules.proofs.Fields.{field-part, field-first}
use Rattle.rules.proofs.Slots.{SlotFits, NodeFits, slot-width, head_bound, length-table_of}
use Rattle.rules.proofs.Places.{some_is}
use Rattle.rules.proofs.GoodTables.{Good, good_of}
use Rattle.rules.proofs.Fitting.{decoded_fits, slot_at-fits}
use Rattle.slots.specs.Slot.{slot_at, is_used, head, name_length, value_length, entry_count, entry_of, Canonical}
use Rattle.slots.proofs.Reading.{chunk, meant, used-slot}

-- ── what a sound table is ──

pub sound_canonical : (t : Octets) → sound_table t ≡ true → Canonical t
unfolding sound_table
sound_canonical t s =
    let parts = both_true (eqb (length t) table_size) (same (table_bytes (table_of t)) t && good_table (table_of t)) s in
    let inner = both_true (same (table_bytes (table_of t)) t) (good_table (table_of t)) parts.1 in
    record { whole = eqb-true (length t) table_size parts.0; kept = same_eq (table_bytes (table_of t)) t inner.0 }

pub sound-good : (t : Octets) → sound_table t ≡ true → good_table (table_of t) ≡ true
unfolding sound_table
sound-good t s =
    let parts = both_true (eqb (length t) table_size) (same (table_bytes (table_of t)) t && good_table (table_of t)) s in
    (both_true (same (table_bytes (table_of t)) t) (good_table (table_of t)) parts.1).1

-- ── the bytes of a slot ──

module _ (t : Octets) (k : Canonical t) (i : ℕ) (h : i < slots) where
  pub chunk_bytes : chunk t i ≡ slot_bytes (slot_at t i)
  unfolding table_bytes
  chunk_bytes =
      ap (λ (s : Octets). chunk s i) (sym k.kept)
      ∙ encoded_at slot_bytes slot_size (table_of t) i none (each_map SlotFits _ slot-width (table_of t) (decoded_fits t).all) (rw (length-table_of t) h)

  module _ (n : Node) (e : slot_at t i ≡ some n) where
    pub node-fits : NodeFits n
    node-fits = rw e at (slot_at-fits (table_of t) i (decoded_fits t).all)

    pub head_is : head t i ≡ pack (node_bits n)
    unfolding head slot_bytes
    head_is =
        ap (λ (p : ℕ). field t p 3) (sym (add-zero (i * slot_size)))
        ∙ sym (field-part t (i * slot_size) slot_size 0 3 (omega arith))
        ∙ ap (λ (s : Octets). field s 0 3) (chunk_bytes ∙ ap slot_bytes e)
        ∙ field-first 3 (pack (node_bits n)) _ (head_bound n node-fits)

    pub name-length_is : name_length t i ≡ length n.name
    unfolding name_length bits_at pack pack_from node_bits
    name-length_is = rw head_is (omega (arith, node-fits))

    pub value-length_is : value_length t i ≡ length n.value
    unfolding value_length bits_at pack pack_from node_bits
    value-length_is = rw head_is (omega (arith, node-fits))

    pub entry-count_is : entry_count t i ≡ suc (length n.others)
    unfolding entry_count bits_at pack pack_from node_bits
    entry-count_is = rw head_is (omega (arith, node-fits))

-- ── the entries of a used slot, on any bytes ──

all_entries : Octets → ℕ → List Entry
all_entries t i = entry_of t i 0 ∷ entry_of t i 1 ∷ entry_of t i 2 ∷ entry_of t i 3 ∷ []

listed : (t : Octets) (i k : ℕ) (d : Entry) → k < 4 → get_or (all_entries t i) k d ≡ entry_of t i k
unfolding all_entries
listed t i zero d h = refl
listed t i (suc zero) d h = refl
listed t i (suc (suc zero)) d h = refl
listed t i (suc (suc (suc zero))) d h = refl
listed t i (suc (suc (suc (suc k)))) d h = absurd (omega arith)

pub is_meant : (t : Octets) (i : ℕ) → i < slots → (n : Node) → slot_at t i ≡ some n → n ≡ meant t i
is_meant t i h n e = some_is (sym e ∙ used-slot t i h (ap is_used e))

meant_entries : (t : Octets) (i : ℕ) → (meant t i).owner ∷ (meant t i).others ≡ take (suc (entry_count t i - 1)) (all_entries t i)
unfolding node_of all_entries entry_of entry_count
meant_entries t i = refl

node-few : (t : Octets) (i : ℕ) → length (meant t i).others ≤ 3
unfolding node_of
node-few t i = rw length-take (min-le_right _ _)

few : (t : Octets) (i : ℕ) → length (meant t i).others ≤ entry_count t i - 1
unfolding node_of entry_count
few t i = rw length-take (min-le_left _ _)

-- entry k, the owner's first
pub entry_is : (t : Octets) (i : ℕ) → i < slots → (n : Node) → slot_at t i ≡ some n → (k : ℕ) (d : Entry) → k < suc (length n.others) →
    entry_of t i k ≡ get_or (n.owner ∷ n.others) k d
entry_is t i h n e k d hk =
    let m : n ≡ meant t i = is_meant t i h n e in
    let hm : k < suc (length (meant t i).others) = rw m at hk in
    let hf = few t i in
    rw m
    (sym (listed t i k d (omega (arith, node-few t i)))
    ∙ sym (get_or-take (suc (entry_count t i - 1)) (all_entries t i) k d (omega arith))
    ∙ ap (λ (es : List Entry). get_or es k d) (sym (meant_entries t i)))

-- ── a sound table's used slots ──

pub used-some : (x : Option Node) → is_used x ≡ true → (n : Node) × (x ≡ some n)
used-some none u = absurd (let z : ◌≡◌ {A = Bool} false true = u in true≢false (sym z))
used-some (some n) u = (n, refl)

module _ (t : Octets) (s : sound_table t ≡ true) (i : ℕ) (h : i < slots) (u : is_used (slot_at t i) ≡ true) where
  node : (n : Node) × (slot_at t i ≡ some n)
  node = used-some (slot_at t i) u

  pub name-short : name_length t i ≤ longest_name
  name-short = rw (name-length_is t (sound_canonical t s) i h node.0 node.1) (node-fits t (sound_canonical t s) i h node.0 node.1).name

  pub value-short : value_length t i ≤ longest_value
  value-short = rw (value-length_is t (sound_canonical t s) i h node.0 node.1) (node-fits t (sound_canonical t s) i h node.0 node.1).value

-- what holds of a sound table, slot by slot
pub sound-slots : (t : Octets) → sound_table t ≡ true → Good (table_of t)
sound-slots t s = good_of (table_of t) (rw (length-table_of t) (lit< tt)) (sound-good t s)

pub root-used : (t : Octets) → sound_table t ≡ true → is_used (slot_at t 0) ≡ true
root-used t s = ap is_used (sound-slots t s).used
