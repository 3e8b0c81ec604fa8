-- Numbers in bytes, most significant first: writing and reading undo each other, and a field of a part is a field of the whole.
use mathlib.Core.Path.{◌≡◌, refl, sym, ap, ap₂, ◌∙◌}
use mathlib.Core.Bool.{Bool, true, false}
use mathlib.Core.List.{List, [], ◌∷◌, ◌++◌}
use Prim.Native.Nat.{ℕ, zero, suc, ◌+◌, ◌*◌, ◌/◌, ◌%◌, ◌^◌, ◌≤◌, ◌<◌, zero-le, suc-le-suc}
use native.Mathlib.Nat.{add-zero, zero-add, add-suc, not-suc-le-zero, div-add-mod', div-lt_iff_lt-mul, pow-suc, pow-zero, pow-succ', add-mul}
use native.Mathlib.Nat.{add_assoc, mul_assoc, mul-one}
use native.Mathlib.Numerals.{add-one, add-two}
use native.Mathlib.Omega.{arith}
use lib.ListN.{length, get_or, take, drop, length-append, length-drop}
use lib.Dec.{eqb, lit<}
use lib.Seq.{take_at, drop_at, drop-cons, drop-drop, take-add, length-take-le}
use Rattle.rules.specs.Octets.{Octets, bit, big_endian, big_from, field}

-- ── one bit ──

pub bit_small : (b : Bool) → bit b < 2
bit_small true = lit< tt
bit_small false = lit< tt

pub bit_back : (b : Bool) → eqb (bit b) 1 ≡ b
bit_back true = refl
bit_back false = refl

-- ── bytes ──

pub length_big : (k n : ℕ) → length (big_endian k n) ≡ k
unfolding big_endian
length_big zero n = refl
length_big (suc k) n = length-append (big_endian k (n / 256)) (n % 256 ∷ []) ∙ rw (length_big k (n / 256), add-one)

big_append : (m : ℕ) (xs ys : Octets) → big_from m (xs ++ ys) ≡ big_from (big_from m xs) ys
unfolding big_from
big_append m [] ys = refl
big_append m (x ∷ xs) ys = big_append (m * 256 + x) xs ys

-- a number written in k bytes is read back
pub big_read : (k n : ℕ) → n < 256 ^ k → big_from 0 (big_endian k n) ≡ n
unfolding big_endian big_from
big_read zero n h = omega arith
big_read (suc k) n h =
    big_append 0 (big_endian k (n / 256)) (n % 256 ∷ [])
    ∙ rw (big_read k (n / 256) ((div-lt_iff_lt-mul (suc-le-suc zero-le)).1 (rw pow-suc at h))) (div-add-mod' n 256)

pub field-first : (k n : ℕ) (rest : Octets) → n < 256 ^ k → field (big_endian k n ++ rest) 0 k ≡ n
unfolding field
field-first k n rest h = ap (big_from 0) (take_at (big_endian k n) rest k (length_big k n)) ∙ big_read k n h

-- a field that begins where a first part of i bytes ends
pub field_at : (p q : Octets) (i k : ℕ) → length p ≡ i → field (p ++ q) i k ≡ field q 0 k
unfolding field
field_at p q i k h = ap (λ (r : Octets). big_from 0 (take k r)) (drop_at p q i h)

pub take-drop-take : {A : Type 0} (k j n : ℕ) (l : List A) → j + k ≤ n → take k (drop j (take n l)) ≡ take k (drop j l)
take-drop-take zero j n l h = refl
take-drop-take (suc k) j zero l h = absurd (not-suc-le-zero (rw add-suc at h))
take-drop-take (suc k) j (suc n) [] h = refl
take-drop-take (suc k) zero (suc n) (x ∷ l) h = ap (◌∷◌ x) (take-drop-take k zero n l (omega arith))
take-drop-take (suc k) (suc j) (suc n) (x ∷ l) h = take-drop-take (suc k) j n l (omega arith)

-- a field of the part of n bytes from p on
pub field-part : (s : Octets) (p n j k : ℕ) → j + k ≤ n → field (take n (drop p s)) j k ≡ field s (p + j) k
unfolding field
field-part s p n j k h = ap (big_from 0) (take-drop-take k j n (drop p s) h ∙ ap (take k) (drop-drop j p s))

field_next : (s : Octets) (m i k : ℕ) → i < length s → big_from m (take (suc k) (drop i s)) ≡ big_from (m * 256 + get_or s i 0) (take k (drop (suc i) s))
unfolding big_from
field_next s m i k h = rw (drop-cons s i 0 h)

-- a field of one byte, of two and of three
pub field_one : (s : Octets) (i : ℕ) → i < length s → field s i 1 ≡ get_or s i 0
unfolding field big_from
field_one s i h = field_next s 0 i 0 h ∙ zero-add (get_or s i 0)

pub field_two : (s : Octets) (i : ℕ) → i + 1 < length s → field s i 2 ≡ get_or s i 0 * 256 + get_or s (i + 1) 0
unfolding field big_from
field_two s i h = field_next s 0 i 1 (omega arith) ∙ field_next s (0 + get_or s i 0) (suc i) 0 (omega arith) ∙ rw (add-one, zero-add)

pub field_three : (s : Octets) (i : ℕ) → i + 2 < length s → field s i 3 ≡ (get_or s i 0 * 256 + get_or s (i + 1) 0) * 256 + get_or s (i + 2) 0
unfolding field big_from
field_three s i h =
    field_next s 0 i 2 (omega arith)
    ∙ field_next s (0 + get_or s i 0) (suc i) 1 (omega arith)
    ∙ field_next s ((0 + get_or s i 0) * 256 + get_or s (suc i) 0) (suc (suc i)) 0 (omega arith)
    ∙ rw (add-one, add-two, zero-add)

big_from_lem : (m : ℕ) (xs : Octets) → big_from m xs ≡ m * 256 ^ length xs + big_from 0 xs
unfolding big_from
big_from_lem m [] = sym (rw (pow-zero, mul-one, add-zero))
big_from_lem m (x ∷ xs) =
    big_from_lem (m * 256 + x) xs
    ∙ ap (λ (n : ℕ). n + big_from 0 xs) (add-mul (m * 256) x (256 ^ length xs))
    ∙ add_assoc (m * 256 * 256 ^ length xs) (x * 256 ^ length xs) (big_from 0 xs)
    ∙ ap₂ ◌+◌ (mul_assoc m 256 (256 ^ length xs) ∙ ap (λ (n : ℕ). m * n) (sym (pow-succ' 256 (length xs))))
    (ap (λ (n : ℕ). n * 256 ^ length xs + big_from 0 xs) (sym (zero-add x)) ∙ sym (big_from_lem (0 * 256 + x) xs))

-- a field taken as two
pub field-split : (s : Octets) (i a b : ℕ) → i + (a + b) ≤ length s → field s i (a + b) ≡ field s i a * 256 ^ b + field s (i + a) b
unfolding field
field-split s i a b h =
    ap (big_from 0) (take-add a b (drop i s))
    ∙ big_append 0 (take a (drop i s)) (take b (drop a (drop i s)))
    ∙ ap (λ (r : Octets). big_from (big_from 0 (take a (drop i s))) (take b r)) (drop-drop a i s)
    ∙ big_from_lem _ (take b (drop (i + a) s))
    ∙ ap (λ (n : ℕ). big_from 0 (take a (drop i s)) * 256 ^ n + big_from 0 (take b (drop (i + a) s)))
    (length-take-le b (drop (i + a) s) (rw length-drop (omega arith)))

-- a field of k bytes is below 256 ^ k
pub field_bound : (s : Octets) → ((j : ℕ) → get_or s j 0 < 256) → (k i : ℕ) → i + k ≤ length s → field s i k < 256 ^ k
unfolding field big_from
field_bound s bytes zero i h = omega arith
field_bound s bytes (suc k) i h =
    let lower : field s i k < 256 ^ k = field_bound s bytes k i (omega arith) in
    let split : field s i (k + 1) ≡ field s i k * 256 ^ 1 + field s (i + k) 1 = field-split s i k 1 (omega arith) in
    rw (← add-one k, split, field_one s (i + k) (omega arith), add-one k, pow-suc 256 k) (omega (arith, bytes (i + k)))
