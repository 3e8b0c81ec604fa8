-- The changes of an open transaction, as bytes.
use mathlib.Core.Path.{◌≡◌, refl, sym, ap, ◌∙◌}
use mathlib.Core.Bool.{Bool, true, false}
use mathlib.Core.List.{[], ◌∷◌, ◌++◌, flat_map}
use Prim.Native.Nat.{ℕ, ◌+◌, ◌*◌, ◌-◌, ◌/◌, ◌%◌, ◌≤◌, ◌<◌}
use native.Mathlib.Nat.{add_assoc, add-sub_cancel_left}
use native.Mathlib.Omega.{arith}
use lib.ListN.{length, get_or, take, drop, replicate, length-append, length-drop}
use lib.Seq.{drop_at, take-append-le, drop-append-le, drop-drop, take-append_seam}
use lib.Dec.{leb, lit≤}
use borrow.Author.Tests.{le-leb, lt-leb}
use Rattle.rules.specs.Size.{changes_at, transaction_size, change_fields_size, change_size, changes_size, longest_path}
use Rattle.rules.specs.Octets.{Octets, padded, big_endian, bit, pack, pack_from, ◌bits◌}
use Rattle.rules.specs.Path.{path_text}
use Rattle.rules.specs.Answer.{Change}
use Rattle.rules.specs.Layout.{Transaction, change_bits, change_bytes}
use Rattle.rules.proofs.Fields.{take-drop-take, field_two, bit_small}
use Rattle.rules.proofs.Tables.{Each, each_at, each_map, Wide, encoded_at, length_encoded}
use Rattle.rules.proofs.TransactionLayouts.{ChangeFits, TransactionFits}
use Rattle.octets.specs.Read.{Read}
use Rattle.transactions.specs.Transaction.{no_change, transaction_of, change_of, HasChange}
use Rattle.rules.proofs.Slots.{length-padded}
use Rattle.domains.proofs.Rows.{first-listed, part_at}
use Rattle.transactions.proofs.Laws.{three_of, row_parts, open_fits}

-- ── the bytes of a change ──

-- the two bytes of the fields: removed, new parents, path length
abbrev pub two_bytes : ℕ → ℕ → ℕ → Octets
two_bytes r k l = (128 * r + 2 * k + l / 256) ∷ (l % 256) ∷ []

pair : (r k l : ℕ) → r < 2 → k < 8 → l ≤ longest_path → big_endian change_fields_size (pack (1 bits r ∷ 3 bits 0 ∷ 3 bits k ∷ 9 bits l ∷ [])) ≡ two_bytes r k l
unfolding big_endian pack pack_from
pair r k l hr hk hl =
    let p = pack (1 bits r ∷ 3 bits 0 ∷ 3 bits k ∷ 9 bits l ∷ []) in
    let a : p / 256 % 256 ≡ 128 * r + 2 * k + l / 256 = omega arith in
    let b : p % 256 ≡ l % 256 = omega arith in
    λ i. a i ∷ b i ∷ []

abbrev pub two_of : Change → Octets
two_of c = two_bytes (bit c.removal) c.parents (length (path_text c.names))

pub change-parts : (c : Change) → ChangeFits c → change_bytes c ≡ two_of c ++ padded longest_path (path_text c.names)
unfolding change_bytes change_bits
change-parts c f =
    ap (λ (a : Octets). a ++ padded longest_path (path_text c.names))
    (pair (bit c.removal) c.parents (length (path_text c.names)) (bit_small c.removal) f.parents f.short)

pub change-wide : (c : Change) → ChangeFits c → length (change_bytes c) ≡ change_size
change-wide c f =
    ap length (change-parts c f)
    ∙ length-append (two_of c) (padded longest_path (path_text c.names))
    ∙ ap (λ (n : ℕ). change_fields_size + n) (length-padded longest_path (path_text c.names) f.short)

number_back : (x y r k l : ℕ) → x ≡ 128 * r + 2 * k + l / 256 → y ≡ l % 256 → r < 2 → k < 8 → l ≤ longest_path → (x * 256 + y) % 512 ≡ l
number_back x y r k l hx hy hr hk hl = omega arith

removal_is : (x k l : ℕ) (b : Bool) → x ≡ 128 * bit b + 2 * k + l / 256 → k < 8 → l ≤ longest_path → leb 128 x ≡ b
removal_is x k l true e hk hl = le-leb 128 x (omega arith)
removal_is x k l false e hk hl = lt-leb 128 x (omega arith)

parents_are : (x r k l : ℕ) → x ≡ 128 * r + 2 * k + l / 256 → r < 2 → k < 8 → l ≤ longest_path → x / 2 % 8 ≡ k
parents_are x r k l e hr hk hl = omega arith

-- ── change j of place k ──

module _ (s : Octets) (k j : ℕ) (h : HasChange s k j) where
  -- where the change begins
  abbrev at : ℕ
  at = k * transaction_size + changes_at + j * change_size

  abbrev x : Transaction
  x = transaction_of s k

  abbrev c : Change
  c = change_of s k j

  fits : TransactionFits x
  fits = open_fits s k h.place.below h.place.used

  pub change-fits : ChangeFits c
  change-fits = each_at ChangeFits x.changes j no_change fits.changes h.there

  rows : Each (Wide change_bytes change_size) x.changes
  rows = each_map ChangeFits _ change-wide x.changes fits.changes

  pub place-within : at + change_size ≤ length s
  place-within = omega (arith, h.place.below, h.place.kept.whole, h.there, fits.few)

  -- the bytes of the change
  own : take change_size (drop at s) ≡ change_bytes c
  unfolding padded
  own =
      let start = k * transaction_size in
      let rest = flat_map change_bytes x.changes in
      let zeros : Octets = replicate (changes_size - length rest) 0 in
      let l : length rest ≡ length x.changes * change_size = length_encoded change_bytes change_size x.changes rows in
      let few = fits.few in
      let there = h.there in
      let body : drop changes_at (take transaction_size (drop start s)) ≡ rest ++ zeros =
      ap (drop changes_at) (row_parts s k h.place.below h.place.kept h.place.used) ∙ drop_at (three_of x) (rest ++ zeros) changes_at refl in
      sym (take-drop-take change_size (changes_at + j * change_size) transaction_size (drop start s) (omega arith)
      ∙ ap (take change_size)
      (drop-drop (changes_at + j * change_size) start s ∙ ap (λ (n : ℕ). drop n s) (sym (add_assoc start changes_at (j * change_size)))))
      ∙ ap (take change_size) (sym (drop-drop (j * change_size) changes_at (take transaction_size (drop start s))) ∙ ap (drop (j * change_size)) body)
      ∙ ap (take change_size) (drop-append-le (j * change_size) rest zeros (omega arith))
      ∙ take-append-le change_size (drop (j * change_size) rest) zeros (rw (length-drop, l) (omega arith))
      ∙ encoded_at change_bytes change_size x.changes j no_change rows h.there

  parts : take change_size (drop at s) ≡ two_of c ++ padded longest_path (path_text c.names)
  parts = own ∙ change-parts c change-fits

  first_two : get_or s at 0 ∷ get_or s (at + 1) 0 ∷ [] ≡ two_of c
  first_two =
      first-listed s at change_size change_fields_size (two_of c) (padded longest_path (path_text c.names)) (lit≤ tt) place-within refl parts

  first_is : get_or s at 0 ≡ 128 * bit c.removal + 2 * c.parents + length (path_text c.names) / 256
  first_is = let e = first_two in cc

  pub removed-read : leb 128 (get_or s at 0) ≡ c.removal
  removed-read = removal_is _ _ _ c.removal first_is change-fits.parents change-fits.short

  pub parents-read : get_or s at 0 / 2 % 8 ≡ c.parents
  parents-read = parents_are _ _ _ _ first_is (bit_small c.removal) change-fits.parents change-fits.short

  pub length-read : (r : ℕ) → Read s at 2 r → r % 512 ≡ length (path_text c.names)
  length-read r w =
      let e = first_two in
      let b : get_or s (at + 1) 0 ≡ length (path_text c.names) % 256 = cc in
      ap (λ (n : ℕ). n % 512) (w.value ∙ field_two s at (omega (arith, place-within)))
      ∙ number_back _ _ _ _ _ first_is b (bit_small c.removal) change-fits.parents change-fits.short

  pub path-read : (n : ℕ) → n ≡ length (path_text c.names)
      → part_at s (at + change_fields_size) n ≡ path_text c.names
  unfolding padded
  path-read n e =
      let p = path_text c.names in
      let short = change-fits.short in
      let body : drop change_fields_size (take change_size (drop at s)) ≡ p ++ replicate (longest_path - length p) 0 =
      ap (drop change_fields_size) parts ∙ drop_at (two_of c) (padded longest_path p) change_fields_size refl in
      ap (λ (m : ℕ). take m (drop (at + change_fields_size) s)) (add-sub_cancel_left (at + change_fields_size) n ∙ e)
      ∙ sym (take-drop-take (length p) change_fields_size change_size (drop at s) (omega arith) ∙ ap (take (length p)) (drop-drop change_fields_size at s))
      ∙ ap (take (length p)) body
      ∙ take-append_seam p (replicate (longest_path - length p) 0)
