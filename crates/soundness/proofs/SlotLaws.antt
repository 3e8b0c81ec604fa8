-- What is asked of a slot by itself, part by part.
use mathlib.Core.Path.{◌≡◌, refl, sym, ap, ◌∙◌}
use mathlib.Core.Bool.{Bool, true, false, true≢false, not, ◌&&◌, and-true, and-false, and_comm, and_assoc}
use mathlib.Core.List.{◌∷◌, ◌++◌}
use mathlib.Core.Option.{Option, none, some}
use Prim.Native.Nat.{ℕ, suc, ◌+◌, ◌*◌, ◌-◌, ◌/◌, ◌%◌, ◌^◌, ◌≤◌, ◌<◌, min}
use native.Mathlib.Nat.{mod-lt, min-eq_left, min-le_right, add-sub_cancel_left}
use native.Mathlib.Omega.{arith}
use lib.ListN.{length, get_or, take, drop, length-take, length-drop, take-append-drop}
use lib.Seq.{take-take, drop-drop, take_all, length-take-le, get_or-drop}
use lib.Dec.{eqb, leb}
use borrow.Author.Tests.{eq-eqb, ne_eqb, eqb-true, le-leb, leb-true}
use Rattle.rules.specs.Size.{slots, table_size, slot_size, name_at, value_at, longest_name, longest_value, fields_size, entries_size, most_entries}
use Rattle.rules.specs.Octets.{Octets, same, all_zero, padded, big_endian, big_from, field, bits_at, pack, pack_from}
use Rattle.rules.specs.Node.{Node}
use Rattle.rules.specs.Layout.{slot_bytes, node_bits, entry_bits, node_of, text_at, table_of}
use Rattle.rules.specs.Sound.{good_name, good_entries}
use Rattle.rules.proofs.Compare.{both_true}
use Rattle.rules.proofs.Fields.{length_big, take-drop-take, field-part, field-split, field_one, field_bound}
use Rattle.rules.proofs.Slots.{NodeFits, head_bound, length-padded}
use Rattle.rules.proofs.Fitting.{node_at-fits, decoded_fits}
use Rattle.rules.proofs.Reencoding.{both_ways, same_append, same-padded, same_zeros, same_big, bytes_take}
use Rattle.octets.specs.Read.{Bytes}
use Rattle.slots.specs.Slot.{slot_at, is_used, head, name_length, value_length, entry_count}
use Rattle.slots.proofs.Reading.{chunk, meant, head_bytes, used-slot, used-node, used_byte}
use Rattle.soundness.specs.Parts.{fair, good_slot, sized, kept_entries, low_domains, zero_behind, name_kept}
use Rattle.soundness.proofs.Tests.{both}
use Rattle.soundness.proofs.EntryLaws.{counted, packed_bound, entries_low}

-- ── sizes ──

pub record Sizes (t : Octets) (i : ℕ) : Type 0 where
  pub name : name_length t i ≤ longest_name
  pub value : value_length t i ≤ longest_value
  pub least : 1 ≤ entry_count t i
  pub few : entry_count t i ≤ 4

pub sizes_of : (t : Octets) (i : ℕ) → sized t i ≡ true → Sizes t i
unfolding sized
sizes_of t i e =
    let n = name_length t i in
    let v = value_length t i in
    let c = entry_count t i in
    let p = both_true (leb n longest_name) (leb v longest_value && (leb 1 c && leb c most_entries)) e in
    let q = both_true (leb v longest_value) (leb 1 c && leb c most_entries) p.1 in
    let r = both_true (leb 1 c) (leb c most_entries) q.1 in
    record { name = leb-true n longest_name p.0; value = leb-true v longest_value q.0; least = leb-true 1 c r.0; few = leb-true c most_entries r.1 }

of_sizes : (t : Octets) (i : ℕ) → Sizes t i → sized t i ≡ true
unfolding sized
of_sizes t i s = both (le-leb (name_length t i) longest_name s.name) (both (le-leb (value_length t i) longest_value s.value)
    (both (le-leb 1 (entry_count t i) s.least) (le-leb (entry_count t i) most_entries s.few)))

bytes_drop : (n : ℕ) (t : Octets) → Bytes t → Bytes (drop n t)
bytes_drop n t b k = rw (get_or-drop n t k 0) (b (n + k))

-- lengths and a count that were cut to the sizes, and are the same all the same
uncut : (n v c : ℕ) → n < 64 → v < 128 → c < 8 → min n longest_name * 1024 + min v longest_value * 8 + suc (min (c - 1) 3) ≡ n * 1024 + v * 8 + c
    → (n ≤ longest_name) × (v ≤ longest_value) × (1 ≤ c) × (c ≤ most_entries)
uncut n v c hn hv hc e = (omega arith, omega arith, omega arith, omega arith)

-- the fields of a used slot's first number
fields_of_lem : (m : ℕ) → m < 16777216 → 128 ≤ m / 65536 → m ≡ (128 + m / 65536 % 128) * 65536 + bits_at m 10 6 * 1024 + bits_at m 3 7 * 8 + bits_at m 0 3
unfolding bits_at
fields_of_lem m b u = joined m (m / 65536) (m / 65536 % 128) (m % 65536) _ (m % 1024) _ _ (omega arith) (omega arith) (omega arith) (omega arith)
  where
    joined : (m q p r n l v c : ℕ) → m ≡ q * 65536 + r → q ≡ 128 + p → r ≡ n * 1024 + l → l ≡ v * 8 + c → m ≡ (128 + p) * 65536 + n * 1024 + v * 8 + c
    joined m q p r n l v c e f g h = omega arith

aligned : (p n v c a b d x m : ℕ) → m ≡ (128 + p) * 65536 + n * 1024 + v * 8 + c → x ≡ (((128 + p) * 64 + a) * 128 + b) * 8 + suc d → x ≡ m
    → a * 1024 + b * 8 + suc d ≡ n * 1024 + v * 8 + c
aligned p n v c a b d x m e f g = omega arith

module _ (t : Octets) (bytes : Bytes t) (whole : length t ≡ table_size) (i : ℕ) (h : i < slots) where
  length_chunk : length (chunk t i) ≡ slot_size
  length_chunk = length-take-le slot_size (drop (i * slot_size) t) (rw (length-drop (i * slot_size) t) (omega arith))

  bytes_chunk : Bytes (chunk t i)
  bytes_chunk = bytes_take slot_size (drop (i * slot_size) t) (bytes_drop (i * slot_size) t bytes)

  module _ (u : is_used (slot_at t i) ≡ true) where
    -- the lengths that the node has
    name-long : length (meant t i).name ≡ min (name_length t i) longest_name
    unfolding node_of text_at name_length
    name-long = length-take _ _ ∙ ap (min (name_length t i)) (length-take-le longest_name (drop name_at (chunk t i))
        (rw (length-drop name_at (chunk t i), length_chunk) (omega arith)))

    value-long : length (meant t i).value ≡ min (value_length t i) longest_value
    unfolding node_of text_at value_length
    value-long = length-take _ _ ∙ ap (min (value_length t i)) (length-take-le longest_value (drop value_at (chunk t i))
        (rw (length-drop value_at (chunk t i), length_chunk) (omega arith)))

    others-few : length (meant t i).others ≡ min (entry_count t i - 1) 3
    unfolding node_of entry_count
    others-few = length-take _ _

    number : pack (node_bits (meant t i))
        ≡ (((128 + head t i / 65536 % 128) * 64 + min (name_length t i) longest_name) * 128 + min (value_length t i) longest_value)
        * 8 + suc (min (entry_count t i - 1) 3)
    unfolding node_of bits_at pack pack_from node_bits
    number = rw (name-long, value-long, others-few) refl

    bound : head t i < 16777216
    unfolding head
    bound = field_bound t bytes 3 (i * slot_size) (omega arith)

    first : 128 ≤ head t i / 65536
    first =
        omega (
          arith,
          head_bytes t i (omega arith),
          bytes (i * slot_size + 1),
          bytes (i * slot_size + 2),
          leb-true 128 (get_or t (i * slot_size) 0) (used_byte t bytes whole i h ∙ u),
        )

    kept-number : Sizes t i → pack (node_bits (meant t i)) ≡ head t i
    unfolding name_length value_length entry_count
    kept-number s = number ∙ rw (min-eq_left s.name, min-eq_left s.value, min-eq_left {n = entry_count t i - 1} {m = 3} (omega (arith, s.few)))
        (omega (arith, fields_of_lem (head t i) bound first, s.least))

    -- the fields that the node has are the slot's where they are within the sizes
    head-part : eqb (pack (node_bits (meant t i))) (head t i) ≡ sized t i
    unfolding name_length value_length entry_count bits_at
    head-part =
        both_ways
        (λ p.
        let e : pack (node_bits (meant t i)) ≡ head t i = eqb-true (pack (node_bits (meant t i))) (head t i) p in
        let u = uncut (name_length t i) (value_length t i) (entry_count t i) (mod-lt _ (omega arith)) (mod-lt _ (omega arith)) (mod-lt _ (omega arith))
        (aligned (head t i / 65536 % 128) (name_length t i) (value_length t i) (entry_count t i) (min (name_length t i) longest_name)
        (min (value_length t i) longest_value) (min (entry_count t i - 1) 3) (pack (node_bits (meant t i))) (head t i)
        (fields_of_lem (head t i) bound first) number
        e) in
        of_sizes t i (record { name = u.0; value = u.1; least = u.2; few = u.3 }))
        (λ p.
        let s = sizes_of t i p in
        eq-eqb (pack (node_bits (meant t i))) (head t i) (kept-number s))

    -- the slot's four parts
    parted : chunk t i ≡ take fields_size (chunk t i) ++ (take entries_size
        (drop fields_size (chunk t i)) ++ (take longest_name (drop name_at (chunk t i)) ++ take longest_value (drop value_at (chunk t i))))
    parted =
        let s = chunk t i in
        let last : take longest_value (drop value_at s) ≡ drop value_at s =
        take_all longest_value (drop value_at s) (rw (length-drop value_at s, length_chunk) (omega arith)) in
        let third : drop name_at s ≡ take longest_name (drop name_at s) ++ take longest_value (drop value_at s) =
        sym (rw (last, ← drop-drop longest_name name_at s) (take-append-drop 32 (drop name_at s))) in
        let second : drop fields_size s ≡ take entries_size (drop fields_size s) ++ drop name_at s =
        sym (rw (← drop-drop entries_size fields_size s) (take-append-drop entries_size (drop fields_size s))) in
        sym (take-append-drop fields_size s) ∙ ap (λ (l : Octets). take fields_size s ++ l)
        (second ∙ ap (λ (l : Octets). take entries_size (drop fields_size s) ++ l) third)

    part_length : (j k : ℕ) → j + k ≤ slot_size → length (take k (drop j (chunk t i))) ≡ k
    part_length j k l = length-take-le k (drop j (chunk t i)) (rw (length-drop j (chunk t i), length_chunk) (omega arith))

    part_bytes : (j k : ℕ) → Bytes (take k (drop j (chunk t i)))
    part_bytes j k = bytes_take k (drop j (chunk t i)) (bytes_drop j (chunk t i) bytes_chunk)

    first_part : same (big_endian fields_size (pack (node_bits (meant t i)))) (take fields_size (chunk t i)) ≡ sized t i
    unfolding head field
    first_part =
        same_big 3 (pack (node_bits (meant t i))) (take fields_size (chunk t i)) (part_bytes 0 3) (part_length 0 3 (omega arith)) (head_bound (meant t i) fits)
        ∙ ap (λ (l : Octets). eqb (pack (node_bits (meant t i))) (big_from 0 l)) (take-take fields_size slot_size (drop (i * slot_size) t) (omega arith))
        ∙ head-part
      where
        fits : NodeFits (meant t i)
        fits = rw (used-node t i h u) at (node_at-fits (table_of t) i (decoded_fits t).all)

    -- the entries' number
    entries : ℕ
    entries = field t (i * slot_size + fields_size) entries_size

    entries_bound : entries < 256 ^ 9
    unfolding entries
    entries_bound = field_bound t bytes 9 (i * slot_size + fields_size) (omega arith)

    counted_is : (meant t i).owner ∷ (meant t i).others ≡ counted (field t (i * slot_size + fields_size) entries_size) (entry_count t i)
    unfolding node_of entry_count
    counted_is = refl

    second-part : Sizes t i → same (big_endian entries_size (pack (entry_bits 4 ((meant t i).owner ∷ (meant t i).others))))
        (take entries_size (drop fields_size (chunk t i)))
        ≡ eqb (pack (entry_bits 4 ((meant t i).owner ∷ (meant t i).others))) (field t (i * slot_size + fields_size) entries_size)
    unfolding entries field
    second-part s =
        same_big 9 _ (take entries_size (drop fields_size (chunk t i))) (part_bytes 3 9) (part_length 3 9 (omega arith))
        (rw counted_is (packed_bound (field t (i * slot_size + fields_size) entries_size) (entry_count t i) entries_bound s.least s.few))
        ∙ ap (eqb (pack (entry_bits 4 ((meant t i).owner ∷ (meant t i).others)))) (field-part t (i * slot_size) slot_size 3 9 (omega arith))

    -- a part of the slot is one of the table
    part_of : (j k : ℕ) → j + k ≤ slot_size → take k (drop j (chunk t i)) ≡ take k (drop (i * slot_size + j) t)
    part_of j k l = take-drop-take k j slot_size (drop (i * slot_size) t) l ∙ ap (take k) (drop-drop j (i * slot_size) t)

    padding : (j k n : ℕ) → j + k ≤ slot_size → n ≤ k → same (padded k (text_at (chunk t i) j k n)) (take k (drop j (chunk t i)))
        ≡ all_zero (drop n (take k (drop (i * slot_size + j) t)))
    unfolding text_at
    padding j k n l m = same-padded k n (take k (drop j (chunk t i))) (part_length j k l) m ∙ ap (λ (x : Octets). all_zero (drop n x)) (part_of j k l)

    -- a used slot by itself, part by part
    all-parts : good_slot t i
        ≡ same (big_endian fields_size (pack (node_bits (meant t i)))) (take fields_size (chunk t i))
        && (same (big_endian entries_size (pack (entry_bits 4 ((meant t i).owner ∷ (meant t i).others)))) (take entries_size (drop fields_size (chunk t i)))
        && (same (padded longest_name (meant t i).name) (take longest_name (drop name_at (chunk t i)))
        && same (padded longest_value (meant t i).value) (take longest_value (drop value_at (chunk t i)))))
        && (good_name i (meant t i).name && good_entries ((meant t i).owner ∷ (meant t i).others))
    unfolding good_slot fair slot_bytes
    all-parts =
        let n = meant t i in
        let fields = big_endian fields_size (pack (node_bits n)) in
        let perms = big_endian entries_size (pack (entry_bits 4 (n.owner ∷ n.others))) in
        let s = chunk t i in
        ap (λ (x : Option Node). same (slot_bytes x) s && fair i x) (used-slot t i h u)
        ∙ ap (λ (b : Bool). b && (good_name i n.name && good_entries (n.owner ∷ n.others)))
        (ap (same (slot_bytes (some n))) parted
        ∙ same_append fields (perms ++ (padded longest_name n.name ++ padded longest_value n.value)) (take fields_size s) _
        (length_big 3 _ ∙ sym (part_length 0 3 (omega arith)))
        ∙ ap (λ (b : Bool). same fields (take fields_size s) && b)
        (same_append perms (padded longest_name n.name ++ padded longest_value n.value) (take entries_size (drop fields_size s)) _
        (length_big 9 _ ∙ sym (part_length 3 9 (omega arith)))
        ∙ ap (λ (b : Bool). same perms (take entries_size (drop fields_size s)) && b)
        (same_append (padded longest_name n.name) (padded longest_value n.value) (take longest_name (drop name_at s)) _
        (length-padded longest_name n.name (rw name-long (min-le_right _ 32)) ∙ sym (part_length 12 32 (omega arith))))))

    -- what is not within the sizes is not good
    pub unsized : sized t i ≡ false → false ≡ good_slot t i
    unsized e = sym (all-parts ∙ rw (first_part, e) refl)

    -- what is within them is good by its entries, its padding and its name
    pub within_sizes : sized t i ≡ true → good_slot t i ≡ kept_entries t i && (zero_behind t i && name_kept t i)
    unfolding kept_entries zero_behind name_kept node_of name_length value_length
    within_sizes e =
        let s = sizes_of t i e in
        rw (used-node t i h u)
        (all-parts
        ∙ rw (first_part, e, second-part s, name_padding s, value_padding s)
        (regroup
        (eqb (pack (entry_bits 4 ((meant t i).owner ∷ (meant t i).others))) (field t (i * slot_size + fields_size) entries_size))
        (all_zero (drop (name_length t i) (take longest_name (drop (i * slot_size + name_at) t))))
        (all_zero (drop (value_length t i) (take longest_value (drop (i * slot_size + value_at) t))))
        (good_name i (meant t i).name) (good_entries ((meant t i).owner ∷ (meant t i).others))))
      where
        regroup : (p q r g e : Bool) → (p && (q && r)) && (g && e) ≡ (p && e) && (r && (q && g))
        regroup true q r g e = sym (and_assoc (q && r) g e) ∙ and_comm ((q && r) && g) e
            ∙ ap (◌&&◌ e) (ap (λ (b : Bool). b && g) (and_comm q r) ∙ and_assoc r q g)
        regroup false q r g e = refl

        name_padding : Sizes t i → same (padded longest_name (meant t i).name) (take longest_name (drop name_at (chunk t i)))
            ≡ all_zero (drop (name_length t i) (take longest_name (drop (i * slot_size + name_at) t)))
        name_padding s = padding name_at longest_name (name_length t i) (omega arith) s.name

        value_padding : Sizes t i → same (padded longest_value (meant t i).value) (take longest_value (drop value_at (chunk t i)))
            ≡ all_zero (drop (value_length t i) (take longest_value (drop (i * slot_size + value_at) t)))
        value_padding s = padding value_at longest_value (value_length t i) (omega arith) s.value

    -- the entries, as the code has them
    pub entries_by : sized t i ≡ true → (first rest c : ℕ) → first ≡ get_or t (i * slot_size + fields_size) 0 → rest
        ≡ field t (i * slot_size + fields_size + 1) 8 →
        c ≡ entry_count t i →
        kept_entries t i ≡ low_domains first rest && eqb (rest % 2 ^ (18 * (4 - c))) 0
    unfolding kept_entries entries
    entries_by e first rest c ef er ec =
        let s = sizes_of t i e in
        let split : field t (i * slot_size + fields_size) entries_size
        ≡ field t (i * slot_size + fields_size) 1 * 256 ^ 8 + field t (i * slot_size + fields_size + 1)
        8 = field-split t (i * slot_size + fields_size) 1 8 (omega arith) in
        let m : field t (i * slot_size + fields_size) entries_size ≡ first * 256 ^ 8 + rest = split
        ∙ rw (field_one t (i * slot_size + fields_size) (omega arith), ← ef, ← er) refl in
        let r : rest < 256 ^ 8 = rw er (field_bound t bytes 8 (i * slot_size + fields_size + 1) (omega arith)) in
        rw (used-node t i h u, counted_is, ec)
        (entries_low (field t (i * slot_size + fields_size) entries_size) (entry_count t i) first rest entries_bound s.least s.few r m)

  -- an unused slot
  module _ (u : is_used (slot_at t i) ≡ false) where
    unused : slot_at t i ≡ none
    unused = by (slot_at t i) u
      where
        by : (x : Option Node) → is_used x ≡ false → x ≡ none
        by none e = refl
        by (some n) e = absurd (true≢false e)

    pub unused_slot : good_slot t i ≡ all_zero (take (i * slot_size + slot_size - i * slot_size) (drop (i * slot_size) t)) && not (eqb i 0)
    unfolding good_slot fair slot_bytes
    unused_slot =
        ap (λ (x : Option Node). same (slot_bytes x) (chunk t i) && fair i x) unused
        ∙ rw (add-sub_cancel_left (i * slot_size) slot_size, same_zeros slot_size (chunk t i) length_chunk) refl

    pub unused_root : i ≡ 0 → false ≡ good_slot t i
    unused_root e = sym (unused_slot ∙ rw (eq-eqb i 0 e) (and-false (all_zero (take (i * slot_size + slot_size - i * slot_size) (drop (i * slot_size) t)))))

    pub unused_other : (i ≡ 0 → ⊥) → {b : Bool} → b ≡ all_zero (take (i * slot_size + slot_size - i * slot_size) (drop (i * slot_size) t)) → b ≡ good_slot t i
    unused_other n e = e ∙ sym
        (unused_slot ∙ rw (ne_eqb i 0 n) (and-true (all_zero (take (i * slot_size + slot_size - i * slot_size) (drop (i * slot_size) t)))))
