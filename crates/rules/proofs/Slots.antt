-- Node slots as bytes: a node that fits its fields is written in one slot's width and read back.
use mathlib.Core.Path.{◌≡◌, refl, sym, ap, ap₂, ◌∙◌}
use mathlib.Core.List.{List, [], ◌∷◌, ◌++◌, map, flat_map, append-nil, append_assoc}
use mathlib.Core.Option.{Option, none, some}
use Prim.Native.Nat.{ℕ, ◌+◌, ◌*◌, ◌-◌, ◌^◌, ◌≤◌, ◌<◌}
use native.Mathlib.Omega.{arith}
use lib.ListN.{length, get_or, take, drop, set, replicate, length-append, length-replicate, length-map, length-take}
use lib.Seq.{take-append_seam, take_at, drop_at}
use Rattle.rules.specs.Size.{slots, slot_size}
use Rattle.rules.specs.Octets.{Octets, padded, paste, chunks, big_endian, field, big_from, pack, pack_from, bits_at}
use Rattle.rules.specs.Node.{Entry, Node, Table}
use Rattle.rules.specs.Layout.{entry_bits, node_bits, slot_bytes, slot_of, node_of, entry_at, text_at, table_bytes, table_of}
use Rattle.rules.proofs.Tables.{Each, each_map, length-chunks, length_encoded, written, decoded, decoded_at}
use Rattle.rules.proofs.Fields.{length_big, field-first, field_at}

pub record EntryFits (e : Entry) : Type 0 where
  pub access : e.access < 4
  pub domain : e.domain < 65536

-- the node's parts are within their fields
pub record NodeFits (n : Node) : Type 0 where
  pub parent : n.parent < 128
  pub name : length n.name ≤ 32
  pub value : length n.value ≤ 64
  pub owner : EntryFits n.owner
  pub few : length n.others ≤ 3
  pub others : Each EntryFits n.others

abbrev pub SlotFits : Option Node → Type 0
SlotFits none = Unit {0}
SlotFits (some n) = NodeFits n

pub length-padded : (k : ℕ) (xs : Octets) → length xs ≤ k → length (padded k xs) ≡ k
unfolding padded
length-padded k xs h = length-append xs (replicate (k - length xs) 0) ∙ rw length-replicate (omega arith)

take-padded : (k : ℕ) (xs : Octets) → take (length xs) (padded k xs) ≡ xs
unfolding padded
take-padded k xs = take-append_seam xs (replicate (k - length xs) 0)

-- ── the width ──

pub slot-width : (x : Option Node) → SlotFits x → length (slot_bytes x) ≡ slot_size
unfolding slot_bytes
slot-width none f = length-replicate {A = ℕ} slot_size 0
slot-width (some n) f =
    simp (length-append, length_big)
    (rw (length-padded 32 n.name f.name, length-padded 64 n.value f.value))

-- ── the fields ──

pub head_bound : (n : Node) → NodeFits n → pack (node_bits n) < 256 ^ 3
unfolding pack pack_from node_bits
head_bound n f = omega arith

entry_is : (m k : ℕ) (e : Entry) → bits_at m (18 * k + 16) 2 ≡ e.access → bits_at m (18 * k) 16 ≡ e.domain → entry_at m k ≡ e
unfolding entry_at
entry_is m k e p q = λ i. record { access = p i; domain = q i }

-- what four entries' fields give back: the owner's, and the others'
record EntriesRead (o : Entry) (es : List Entry) (m : ℕ) : Type 0 where
  bound : m < 256 ^ 9
  first : entry_at m 3 ≡ o
  later : take (length es) (entry_at m 2 ∷ entry_at m 1 ∷ entry_at m 0 ∷ []) ≡ es

entries_read : (o : Entry) (es : List Entry) → EntryFits o → Each EntryFits es → length es ≤ 3 → EntriesRead o es (pack (entry_bits 4 (o ∷ es)))
unfolding pack pack_from entry_bits bits_at
entries_read o [] f g h =
    let m = pack (entry_bits 4 (o ∷ [])) in
    record { bound = omega arith; first = entry_is m 3 o (omega arith) (omega arith); later = refl }
entries_read o (a ∷ []) f g h =
    let m = pack (entry_bits 4 (o ∷ a ∷ [])) in
    record {
      bound = omega arith;
      first = entry_is m 3 o (omega arith) (omega arith);
      later = ap (λ (e : Entry). e ∷ []) (entry_is m 2 a (omega arith) (omega arith));
    }
entries_read o (a ∷ b ∷ []) f g h =
    let m = pack (entry_bits 4 (o ∷ a ∷ b ∷ [])) in
    record {
      bound = omega arith;
      first = entry_is m 3 o (omega arith) (omega arith);
      later = ap₂ (λ (e e' : Entry). e ∷ e' ∷ []) (entry_is m 2 a (omega arith) (omega arith)) (entry_is m 1 b (omega arith) (omega arith));
    }
entries_read o (a ∷ b ∷ c ∷ []) f g h =
    let m = pack (entry_bits 4 (o ∷ a ∷ b ∷ c ∷ [])) in
    record {
      bound = omega arith;
      first = entry_is m 3 o (omega arith) (omega arith);
      later = ap₂ ◌∷◌ (entry_is m 2 a (omega arith) (omega arith))
          (ap₂ (λ (e e' : Entry). e ∷ e' ∷ []) (entry_is m 1 b (omega arith) (omega arith)) (entry_is m 0 c (omega arith) (omega arith)));
    }
entries_read o (a ∷ b ∷ c ∷ d ∷ es) f g h = absurd (omega arith)

-- a text is no longer than its room, and than is said
pub text-short : (s : Octets) (i k n : ℕ) → length (text_at s i k n) ≤ k
unfolding text_at
text-short s i k n = simp length-take (omega arith)

pub text-few : (s : Octets) (i k n : ℕ) → length (text_at s i k n) ≤ n
unfolding text_at
text-few s i k n = simp length-take (omega arith)

-- a text between a first part of i bytes and the rest, padded to k bytes
pub text-padded : (p xs r : Octets) (i k m : ℕ) → length p ≡ i → length xs ≤ k → m ≡ length xs → text_at (p ++ (padded k xs ++ r)) i k m ≡ xs
unfolding text_at
text-padded p xs r i k m hp hx hm =
    ap (λ (l : Octets). take m (take k l)) (drop_at p (padded k xs ++ r) i hp)
    ∙ ap (take m) (take_at (padded k xs) r k (length-padded k xs hx))
    ∙ ap (λ (j : ℕ). take j (padded k xs)) hm
    ∙ take-padded k xs

-- a slot whose fields say that it is used
used : (s : Octets) (head es : ℕ) → field s 0 3 ≡ head → field s 3 9 ≡ es → bits_at head 23 1 ≡ 1 → slot_of s ≡ some (node_of s head es)
unfolding slot_of
used s head es h e u = rw (h, e, u)

module _ (n : Node) (f : NodeFits n) where
  fields : Octets
  fields = big_endian 3 (pack (node_bits n))

  entries : Octets
  entries = big_endian 9 (pack (entry_bits 4 (n.owner ∷ n.others)))

  name : Octets
  name = padded 32 n.name

  value : Octets
  value = padded 64 n.value

  -- the slot's bytes, with a seam before the name and one before the value
  before-name : slot_bytes (some n) ≡ (fields ++ entries) ++ (name ++ value)
  unfolding slot_bytes fields entries name value
  before-name = sym (append_assoc fields entries (name ++ value))

  before-value : slot_bytes (some n) ≡ ((fields ++ entries) ++ name) ++ (value ++ [])
  before-value = before-name ∙ sym (append_assoc (fields ++ entries) name (value ++ []) ∙ rw append-nil)

  length_front : length (fields ++ entries) ≡ 12
  unfolding fields entries
  length_front = simp (length-append, length_big)

  length_middle : length ((fields ++ entries) ++ name) ≡ 44
  unfolding name
  length_middle = length-append (fields ++ entries) name ∙ rw (length_front, length-padded 32 n.name f.name)

  read : EntriesRead n.owner n.others (pack (entry_bits 4 (n.owner ∷ n.others)))
  read = entries_read n.owner n.others f.owner f.others f.few

  head : ℕ
  head = pack (node_bits n)

  name-read : text_at (slot_bytes (some n)) 12 32 (bits_at head 10 6) ≡ n.name
  unfolding head name bits_at pack pack_from node_bits
  name-read = rw before-name (text-padded (fields ++ entries) n.name value 12 32 _ length_front f.name (omega arith))

  value_read : text_at (slot_bytes (some n)) 44 64 (bits_at head 3 7) ≡ n.value
  unfolding head value bits_at pack pack_from node_bits
  value_read = rw before-value (text-padded ((fields ++ entries) ++ name) n.value [] 44 64 _ length_middle f.value (omega arith))

  parent-read : bits_at head 16 7 ≡ n.parent
  unfolding head bits_at pack pack_from node_bits
  parent-read = omega arith

  count-read : bits_at head 0 3 - 1 ≡ length n.others
  unfolding head bits_at pack pack_from node_bits
  count-read = omega arith

  node-read : node_of (slot_bytes (some n)) head (pack (entry_bits 4 (n.owner ∷ n.others))) ≡ n
  unfolding node_of
  node-read =
      let es = entry_at (pack (entry_bits 4 (n.owner ∷ n.others))) in
      λ i. record {
        parent = parent-read i;
        name = name-read i;
        value = value_read i;
        owner = read.first i;
        others = (ap (λ (k : ℕ). take k (es 2 ∷ es 1 ∷ es 0 ∷ [])) count-read ∙ read.later) i;
      }

  head_read : field (slot_bytes (some n)) 0 3 ≡ head
  unfolding slot_bytes head entries name value
  head_read = field-first 3 (pack (node_bits n)) (entries ++ (name ++ value)) (head_bound n f)

  entries_field : field (slot_bytes (some n)) 3 9 ≡ pack (entry_bits 4 (n.owner ∷ n.others))
  unfolding slot_bytes fields entries name value
  entries_field = field_at fields (entries ++ (name ++ value)) 3 9 (length_big 3 (pack (node_bits n)))
      ∙ field-first 9 (pack (entry_bits 4 (n.owner ∷ n.others))) (name ++ value) read.bound

  used-read : bits_at head 23 1 ≡ 1
  unfolding head bits_at pack pack_from node_bits
  used-read = omega arith

  some_read : slot_of (slot_bytes (some n)) ≡ some n
  some_read =
      used (slot_bytes (some n)) head (pack (entry_bits 4 (n.owner ∷ n.others))) head_read entries_field used-read
      ∙ ap some node-read

pub slot_read : (x : Option Node) → SlotFits x → slot_of (slot_bytes x) ≡ x
unfolding slot_of slot_bytes bits_at field big_from
slot_read none f = refl
slot_read (some n) f = some_read n f

-- ── the table ──

abbrev pub TableFits : Table → Type 0
TableFits t = Each SlotFits t

wide : (t : Table) → TableFits t → Each (λ (x : Option Node). length (slot_bytes x) ≡ slot_size) t
wide t f = each_map SlotFits _ slot-width t f

pub length-table : (t : Table) → TableFits t → length (table_bytes t) ≡ length t * slot_size
unfolding table_bytes
length-table t f = length_encoded slot_bytes slot_size t (wide t f)

-- decoding what was encoded gives it back
pub table-read : (t : Table) → length t ≡ slots → TableFits t → table_of (table_bytes t) ≡ t
unfolding table_bytes table_of
table-read t h f =
    ap (λ (n : ℕ). map slot_of (chunks n slot_size (flat_map slot_bytes t))) (sym h)
    ∙ decoded slot_bytes slot_size slot_of t (wide t f) (each_map SlotFits _ slot_read t f)

-- a written slot changes that slot's bytes alone
pub slot-written : (t : Table) (i : ℕ) (x : Option Node) → TableFits t → SlotFits x → i < length t →
    table_bytes (set t i x) ≡ paste (i * slot_size) (slot_bytes x) (table_bytes t)
unfolding table_bytes
slot-written t i x f g h = written slot_bytes slot_size t i x (wide t f) (slot-width x g) h

pub length-table_of : (s : Octets) → length (table_of s) ≡ slots
unfolding table_of
length-table_of s = length-map (chunks slots slot_size s) slot_of ∙ length-chunks slots slot_size s

-- what stands in slot i
pub slot_at_lem : (s : Octets) (i : ℕ) → i < slots → get_or (table_of s) i none ≡ slot_of (take slot_size (drop (i * slot_size) s))
unfolding table_of
slot_at_lem s i h = decoded_at slot_of slots slot_size i s none h
