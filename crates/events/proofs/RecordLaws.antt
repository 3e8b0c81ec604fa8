-- Event records as bytes: one record as it is put and as it is read, and records one behind the other.
use mathlib.Core.Path.{◌≡◌, refl, sym, ap, ap₂, ◌∙◌}
use mathlib.Core.Bool.{Bool}
use mathlib.Core.List.{List, [], ◌∷◌, ◌++◌, flat_map, append-nil}
use Prim.Native.Nat.{ℕ, ◌+◌, ◌*◌, ◌-◌, ◌/◌, ◌%◌, ◌≤◌, ◌<◌}
use native.Mathlib.Nat.{add-zero}
use native.Mathlib.Omega.{arith}
use lib.ListN.{length, set, replicate, take, drop, length-append}
use lib.Dec.{lit≤}
use Rattle.rules.specs.Size.{longest_path, mask_size, record_path_at, record_size, most_records, events_size}
use Rattle.rules.specs.Octets.{Octets, ◌bits◌, pack, pack_from, big_endian, padded, paste, field, bits_at}
use Rattle.rules.specs.Event.{Record, kept}
use Rattle.rules.specs.Layout.{mask_bits, record_bytes}
use Rattle.rules.specs.Message.{record_at, mask_bit, path_length, path_in}
use Rattle.rules.proofs.Fields.{field-part}
use Rattle.rules.proofs.Paste.{paste_four, paste_append, paste_nil, length-paste}
use Rattle.rules.proofs.Joined.{paste-behind}
use Rattle.rules.proofs.Slots.{length-padded}
use Rattle.rules.proofs.Tables.{flat_append}
use Rattle.octets.specs.Read.{Read}
use Rattle.octets.proofs.Bytes.{read_bound}
use Rattle.domains.proofs.Rows.{text-part}
use Rattle.events.specs.Records.{record_of, Recorded, Room, Mask, number_bit}
use Rattle.events.proofs.MaskLaws.{pack_append, empty_mask, some-mask}

-- ── one record, as it is put ──

-- the four bytes of its fields: mask, path length
abbrev pub four_of : ℕ → ℕ → Octets
four_of mask size = (mask / 256 % 256) ∷ (mask % 256) ∷ (size / 2 % 256) ∷ (size % 2 * 128) ∷ []

four : (mask size : ℕ) → size ≤ longest_path → big_endian record_path_at (pack_from mask (9 bits size ∷ 7 bits 0 ∷ [])) ≡ four_of mask size
unfolding big_endian pack_from
four mask size h =
    let n = pack_from mask (9 bits size ∷ 7 bits 0 ∷ []) in
    let a : n / 256 / 256 / 256 % 256 ≡ mask / 256 % 256 = omega arith in
    let b : n / 256 / 256 % 256 ≡ mask % 256 = omega arith in
    let c : n / 256 % 256 ≡ size / 2 % 256 = omega arith in
    let d : n % 256 ≡ size % 2 * 128 = omega arith in
    λ i. a i ∷ b i ∷ c i ∷ d i ∷ []

module _ (m : List Bool) (p : Octets) (short : length p ≤ longest_path) where
  pub record-parts : (mask : ℕ) → Mask m mask → record_bytes (record_of m p) ≡ four_of mask (length p) ++ padded longest_path p
  unfolding record_bytes pack
  record-parts mask f =
      let size = 9 bits length p ∷ 7 bits 0 ∷ [] in
      let fields = pack_append 0 (mask_bits m) size ∙ ap (λ (n : ℕ). pack_from n size) (sym f.value) in
      ap (λ (n : ℕ). big_endian record_path_at n ++ padded longest_path p) fields
      ∙ ap (λ (l : Octets). l ++ padded longest_path p) (four mask (length p) short)

  pub record-wide : (mask : ℕ) → Mask m mask → length (record_bytes (record_of m p)) ≡ record_size
  record-wide mask f =
      ap length (record-parts mask f)
      ∙ length-append (four_of mask (length p)) (padded longest_path p)
      ∙ ap (λ (n : ℕ). record_path_at + n) (length-padded longest_path p short)

-- ── one record, as it is read from the bytes of all ──

module _ (s : Octets) (i : ℕ) (below : i < most_records) (whole : length s ≡ events_size) where
  two_read : (at r : ℕ) → at + 2 ≤ record_path_at → Read s (i * record_size + at) 2 r → field (record_at s i) at 2 ≡ r
  unfolding record_at
  two_read at r h t =
      field-part s (i * record_size) record_size at 2 (omega arith) ∙ sym t.value

  pub mask-read : (k r : ℕ) → Read s (i * record_size) 2 r → number_bit r k ≡ mask_bit (record_at s i) k
  unfolding mask_bit
  mask-read k r t = ap (λ (n : ℕ). number_bit n k) (sym (two_read 0 r (omega arith) (rw add-zero t)))

  pub length-read : (r : ℕ) → Read s (i * record_size + mask_size) 2 r → r / 128 ≡ path_length (record_at s i)
  unfolding path_length bits_at
  length-read r t =
      rw (two_read mask_size r (omega arith) t) (omega (arith, read_bound t (omega (arith, whole, below))))

pub path-read : (s : Octets) (i n : ℕ) → n ≡ path_length (record_at s i) → n ≤ longest_path
    → take (i * record_size + record_path_at + n - (i * record_size + record_path_at)) (drop (i * record_size + record_path_at) s) ≡ path_in (record_at s i)
unfolding record_at path_in
path-read s i n e h = text-part s (i * record_size) record_size record_path_at longest_path n h (lit≤ tt) ∙ rw e

-- ── records behind others ──

pub recorded-none : (n : ℕ) (l : Octets) → Recorded n [] l l n
unfolding flat_map
recorded-none n l = record { bytes = sym (paste_nil (n * record_size) l); count = sym (add-zero n); wide = refl }

pub recorded_one : (n : ℕ) (x : Record) (before after : Octets) → length (record_bytes x) ≡ record_size
    → after ≡ paste (n * record_size) (record_bytes x) before → Recorded n (x ∷ []) before after (n + 1)
unfolding flat_map
recorded_one n x before after w e =
    record {
      bytes = e ∙ ap (λ (b : Octets). paste (n * record_size) b before) (sym (append-nil (record_bytes x)));
      count = refl;
      wide = ap length (append-nil (record_bytes x)) ∙ w;
    }

pub recorded_as : {n r : ℕ} {before after : Octets} (xs ys : List Record) → xs ≡ ys → Recorded n xs before after r → Recorded n ys before after r
recorded_as xs ys e f = rw (← e) f

-- some records, and then more
pub recorded_more : (n : ℕ) (xs ys : List Record) (before middle after : Octets) (r q : ℕ) → n * record_size ≤ length before
    → Recorded n xs before middle r → Recorded r ys middle after q → Recorded n (xs ++ ys) before after q
recorded_more n xs ys before middle after r q h f g =
    let a = flat_map record_bytes xs in
    let b = flat_map record_bytes ys in
    let at : r * record_size ≡ n * record_size + length a = omega (arith, f.count, f.wide) in
    let joined : flat_map record_bytes (xs ++ ys) ≡ a ++ b = flat_append record_bytes xs ys in
    let long = length-append xs ys in
    let sum : length xs * record_size + length ys * record_size ≡ length (xs ++ ys) * record_size = omega arith in
    record {
      bytes =
          g.bytes
          ∙ ap (paste (r * record_size) b) f.bytes
          ∙ paste-behind (n * record_size) (r * record_size) a b before h at
          ∙ ap (λ (l : Octets). paste (n * record_size) l before) (sym joined);
      count = omega (arith, f.count, g.count);
      wide = ap length joined ∙ length-append a b ∙ ap₂ ◌+◌ f.wide g.wide ∙ sum;
    }

-- the buffer keeps its length
pub recorded-length : (n : ℕ) (xs : List Record) (before after : Octets) (r : ℕ) → (n + length xs) * record_size ≤ length before
    → Recorded n xs before after r → length after ≡ length before
recorded-length n xs before after r h f =
    ap length f.bytes ∙ length-paste (n * record_size) (flat_map record_bytes xs) before (omega (arith, f.wide))

-- ── what the code puts ──

-- the four bytes of the fields, stored one by one from `at` on
abbrev fields_set : ℕ → ℕ → ℕ → Octets → Octets
fields_set at mask size l =
    set (set (set (set l at (mask / 256 % 256)) (at + 1) (mask % 256)) (at + mask_size) (size / 2 % 256)) (at + mask_size + 1) (size % 2 * 128)

fields_set_lem : (at mask size : ℕ) (l : Octets) → at + 4 ≤ length l → fields_set at mask size l ≡ paste at (four_of mask size) l
fields_set_lem at mask size l h =
    let last : at + mask_size + 1 ≡ at + 3 = omega arith in
    let three = set (set (set l at (mask / 256 % 256)) (at + 1) (mask % 256)) (at + mask_size) (size / 2 % 256) in
    ap (λ (i : ℕ). set three i (size % 2 * 128)) last ∙ paste_four at _ _ _ _ l h

module _ (events p : Octets) (n mask : ℕ) (room : Room events n 1) (short : length p ≤ longest_path) (m : List Bool) (f : Mask m mask) where
  -- the fields, after the path and the zeros behind it
  pub put_record : (l : Octets)
      → l ≡ paste (n * record_size + record_path_at) p (paste (n * record_size + record_path_at + length p) (replicate (longest_path - length p) 0) events)
      → Recorded n (record_of m p ∷ []) events (fields_set (n * record_size) mask (length p) l) (n + 1)
  unfolding padded
  put_record l e =
      let at = n * record_size in
      let w = room.whole in
      let k = room.few in
      let zeros : Octets = replicate (longest_path - length p) 0 in
      let pad : l ≡ paste (at + record_path_at) (padded longest_path p) events =
      e ∙ sym (paste_append (at + record_path_at) p zeros events (omega arith)) in
      let wide = length-padded longest_path p short in
      let long : length l ≡ length events =
      ap length pad ∙ length-paste (at + record_path_at) (padded longest_path p) events (rw wide (omega arith)) in
      recorded_one n (record_of m p) events _ (record-wide m p short mask f)
      (fields_set_lem at mask (length p) l (omega arith)
      ∙ ap (paste at (four_of mask (length p))) pad
      ∙ sym (paste_append at (four_of mask (length p)) (padded longest_path p) events (omega arith))
      ∙ ap (λ (b : Octets). paste at b events) (sym (record-parts m p short mask f)))

module _ (n : ℕ) (p before : Octets) (m : List Bool) (mask : ℕ) (f : Mask m mask) where
  -- a record with an empty mask is left out
  pub left_out : mask ≡ 0 → Recorded n (kept m p) before before n
  unfolding kept
  left_out e = rw (empty_mask m (sym f.value ∙ e)) (recorded-none n before)

  pub kept_so : (after : Octets) (r : ℕ) → (mask ≡ 0 → ⊥) → Recorded n (record_of m p ∷ []) before after r
      → Recorded n (kept m p) before after r
  unfolding kept
  kept_so after r e g = rw (some-mask m (λ z. e (f.value ∙ z))) g
