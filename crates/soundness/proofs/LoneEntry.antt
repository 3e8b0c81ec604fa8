-- A lone entry by its bytes: bits behind it in its third byte are refused.
use mathlib.Core.Path.{◌≡◌, refl, sym, ap, ◌∙◌}
use mathlib.Core.Bool.{Bool, false, ◌&&◌, and-false}
use Prim.Native.Nat.{ℕ, ◌+◌, ◌*◌, ◌%◌, ◌≤◌, ◌<◌}
use native.Mathlib.Omega.{arith}
use lib.ListN.{length, get_or}
use lib.Dec.{eqb}
use borrow.Author.Tests.{ne_eqb}
use Rattle.rules.specs.Size.{entries_size}
use Rattle.rules.specs.Octets.{Octets, field}
use Rattle.rules.proofs.Fields.{field-split, field_two, field_bound}
use Rattle.soundness.specs.Parts.{low_domains}

-- the eight bytes behind the first: two, four and two
behind-first : (s : Octets) (at : ℕ) → at + entries_size ≤ length s
    → field s (at + 1) 8 ≡ (get_or s (at + 1) 0 * 256 + get_or s (at + 2) 0) * 281474976710656
    + (field s (at + 3) 4 * 65536 + (get_or s (at + 7) 0 * 256 + get_or s (at + 7 + 1) 0))
behind-first s at h =
    let e2 : at + 1 + 1 ≡ at + 2 = omega arith in
    let e3 : at + 1 + 2 ≡ at + 3 = omega arith in
    let e7 : at + 3 + 4 ≡ at + 7 = omega arith in
    let front : field s (at + 1) 2 ≡ get_or s (at + 1) 0 * 256 + get_or s (at + 2) 0 = field_two s (at + 1) (omega arith) ∙ rw e2 refl in
    let back = field_two s (at + 7) (omega arith) in
    let six : field s (at + 3) 6 ≡ field s (at + 3) 4 * 65536 + field s (at + 7) 2 = field-split s (at + 3) 4 2 (omega arith) ∙ rw e7 refl in
    let eight : field s (at + 1) 8 ≡ field s (at + 1) 2 * 281474976710656 + field s (at + 3) 6 = field-split s (at + 1) 2 6 (omega arith) ∙ rw e3 refl in
    omega (arith, front, back, six, eight)

module _ (first a b m l rest : ℕ) (hb : b < 256) (hm : m < 4294967296) (hl : l < 65536) (e : rest ≡ (a * 256 + b) * 281474976710656 + (m * 65536 + l)) where
  -- what is asked of a lone entry
  abbrev Kept : Bool
  Kept = low_domains first rest && eqb (rest % 18014398509481984) 0

  pub lone_bits : (b % 64 ≡ 0 → ⊥) → false ≡ Kept
  lone_bits h =
      let x : rest % 18014398509481984 ≡ 0 → ⊥ = λ z. h (omega arith) in
      sym (ap (λ (c : Bool). low_domains first rest && c) (ne_eqb (rest % 18014398509481984) 0 x) ∙ and-false (low_domains first rest))

module _ (s : Octets) (bytes : (j : ℕ) → get_or s j 0 < 256) (at : ℕ) (h : at + entries_size ≤ length s) where
  -- the last two bytes
  abbrev low : ℕ
  low = get_or s (at + 7) 0 * 256 + get_or s (at + 7 + 1) 0

  low_bound : low < 65536
  low_bound = omega (arith, bytes (at + 7), bytes (at + 7 + 1))

  middle_bound : field s (at + 3) 4 < 4294967296
  middle_bound = field_bound s bytes 4 (at + 3) (omega arith)

  abbrev Asked : Bool
  Asked = low_domains (get_or s at 0) (field s (at + 1) 8) && eqb (field s (at + 1) 8 % 18014398509481984) 0

  pub entry_bits_lem : (get_or s (at + 2) 0 % 64 ≡ 0 → ⊥) → false ≡ Asked
  entry_bits_lem =
      lone_bits (get_or s at 0) (get_or s (at + 1) 0) (get_or s (at + 2) 0) (field s (at + 3) 4) low (field s (at + 1) 8) (bytes (at + 2)) middle_bound
      low_bound
      (behind-first s at h)
