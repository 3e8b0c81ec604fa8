-- Places of one width: the bit that says that a place is used, the search for the lowest free one, and that it is the table's.
use mathlib.Core.Path.{◌≡◌, refl, sym, ap, ◌∙◌}
use mathlib.Core.Bool.{Bool, true, false}
use mathlib.Core.List.{List, [], ◌∷◌, map}
use mathlib.Core.Option.{Option, none, some}
use Prim.Native.Nat.{ℕ, suc, ◌+◌, ◌*◌, ◌/◌, ◌%◌, ◌^◌, ◌≤◌, ◌<◌, suc-le-suc, zero-le}
use native.Mathlib.Nat.{add-zero, zero-add, add_comm, suc-mul, zero-mul, mul-le-mul_right, div-div-eq-div-mul, mul-add-div_right, div-eq_of_lt}
use native.Mathlib.Numerals.{add-one}
use native.Mathlib.Omega.{arith}
use lib.Dec.{eqb, leb}
use lib.ListN.{length, get_or, take, drop, length-map, drop_of_length-le}
use lib.Seq.{drop-cons, get_or-take, get_or-drop}
use borrow.Author.Tests.{le-leb, lt-leb, leb-true, leb-false, eq-eqb, ne_eqb}
use Rattle.rules.specs.Octets.{Octets, chunks, field, bits_at}
use Rattle.rules.specs.Entries.{lowest}
use Rattle.rules.proofs.Fields.{field_one, field-split, field_bound}
use Rattle.rules.proofs.Tables.{length-chunks, decoded_at}
use Rattle.octets.specs.Read.{Bytes}
use Rattle.octets.specs.Places.{used_in, lowest_free}
use Rattle.octets.proofs.Bytes.{agree}

-- ── the bit ──

top_half : (x : ℕ) → x < 256 → leb 128 x ≡ eqb (x / 128 % 2) 1
top_half x h =
    agree (λ p. eq-eqb (x / 128 % 2) 1 (omega (arith, leb-true 128 x p)))
    (λ p. ne_eqb (x / 128 % 2) 1 (λ q. omega (arith, leb-false 128 x p, q)))

-- the first bit of a field of n + 1 bytes from p on
pub first_bit : (s : Octets) → Bytes s → (p n k : ℕ) → 2 ^ k ≡ 256 ^ n * 128 → p + (1 + n) ≤ length s →
    leb 128 (get_or s p 0) ≡ eqb (bits_at (field s p (1 + n)) k 1) 1
unfolding bits_at
first_bit s bytes p n k e h =
    let x = get_or s p 0 in
    let rest = field s (p + 1) n in
    let below : rest < 256 ^ n = field_bound s bytes n (p + 1) (omega arith) in
    let parts : field s p (1 + n) ≡ x * 256 ^ n + rest = field-split s p 1 n h ∙ rw (field_one s p (omega arith)) in
    let top : field s p (1 + n) / 256 ^ n ≡ x = rw parts (mul-add-div_right (omega arith) x rest ∙ rw (div-eq_of_lt below) (add-zero x)) in
    top_half x (bytes p) ∙ rw (e, ← div-div-eq-div-mul, top)

-- ── the search, place by place ──

-- a place that is there begins within the bytes
pub place-begins : (i k n l : ℕ) → i < n → 1 ≤ k → n * k ≤ l → i * k < l
place-begins i k n l h w e =
    let next : suc i * k ≤ n * k = mul-le-mul_right k h in
    let more : suc i * k ≡ i * k + k = suc-mul i k in
    omega arith

-- none of the first i places is free
pub record Searched (s : Octets) (k n i : ℕ) : Type 0 where
  pub within : i ≤ n
  pub rest : lowest_free s k n ≡ i + lowest (drop i (map used_in (chunks n k s)))

pub searched_none : (s : Octets) (k n : ℕ) → Searched s k n 0
searched_none s k n = record { within = zero-le; rest = sym (zero-add _) }

module _ (s : Octets) (k n i : ℕ) (w : 1 ≤ k) (p : Searched s k n i) where
  abbrev places : List (Option Octets)
  places = map used_in (chunks n k s)

  abbrev row : Octets
  row = take k (drop (i * k) s)

  so_many : length places ≡ n
  so_many = length-map (chunks n k s) used_in ∙ length-chunks n k s

  first : get_or row 0 0 ≡ get_or s (i * k) 0
  first = get_or-take k (drop (i * k) s) 0 0 w ∙ get_or-drop (i * k) s 0 0 ∙ rw add-zero

  next : i < n → drop i places ≡ used_in row ∷ drop (i + 1) places
  next h = drop-cons places i none (rw so_many h) ∙ rw (decoded_at used_in n k i s none h, add-one)

  pub found_free : i < n → get_or s (i * k) 0 < 128 → i ≡ lowest_free s k n
  unfolding lowest used_in
  found_free h f =
      let here : lowest (drop i places) ≡ 0 = rw (next h, first, lt-leb 128 (get_or s (i * k) 0) f) in
      sym (p.rest ∙ rw here (add-zero i))

  pub searched_more : i < n → 128 ≤ get_or s (i * k) 0 → Searched s k n (i + 1)
  unfolding lowest used_in
  searched_more h f =
      let here : lowest (drop i places) ≡ suc (lowest (drop (i + 1) places)) = rw (next h, first, le-leb 128 (get_or s (i * k) 0) f) in
      record { within = omega arith; rest = p.rest ∙ rw here (omega arith) }

  pub none_free : n ≤ i → i ≡ lowest_free s k n
  unfolding lowest
  none_free h = sym (p.rest ∙ rw (drop_of_length-le places {i = i} (rw so_many h)) (add-zero i))

-- ── a table whose places are used by that bit ──

module _ {A : Type 0} (full : Option A → Bool) (free : full none ≡ false) (used : (x : A) → full (some x) ≡ true) (k : ℕ) (w : 1 ≤ k) where
  -- each place of a table is used where the bit says so
  abbrev UsedByBit : Octets → List (Option A) → Type 0
  UsedByBit s xs = (i : ℕ) → i < length xs → leb 128 (get_or s (i * k) 0) ≡ full (get_or xs i none)

  head-bit : (s : Octets) (x : Option A) (xs : List (Option A)) → UsedByBit s (x ∷ xs) → leb 128 (get_or (take k s) 0 0) ≡ full x
  head-bit s x xs u = ap (leb 128) (get_or-take k s 0 0 w) ∙ (rw zero-mul at (u 0 (suc-le-suc zero-le)))

  rest_bits : (s : Octets) (x : Option A) (xs : List (Option A)) → UsedByBit s (x ∷ xs) → UsedByBit (drop k s) xs
  rest_bits s x xs u i h = rw (get_or-drop k s (i * k) 0, add_comm k (i * k), ← suc-mul i k) (u (suc i) (suc-le-suc h))

  marked-lowest : (s : Octets) (xs : List (Option A)) → UsedByBit s xs → lowest_free s k (length xs) ≡ lowest xs
  unfolding lowest used_in chunks
  marked-lowest s [] u = refl
  marked-lowest s (none ∷ xs) u = rw (head-bit s none xs u ∙ free)
  marked-lowest s (some x ∷ xs) u = rw (head-bit s (some x) xs u ∙ used x) (ap suc (marked-lowest (drop k s) xs (rest_bits s (some x) xs u)))

  -- the lowest free place is the table's
  pub lowest_is : (s : Octets) (xs : List (Option A)) (n : ℕ) → length xs ≡ n →
      ((i : ℕ) → i < n → leb 128 (get_or s (i * k) 0) ≡ full (get_or xs i none)) → lowest_free s k n ≡ lowest xs
  lowest_is s xs n l u = ap (lowest_free s k) (sym l) ∙ marked-lowest s xs (λ i h. u i (rw l at h))
