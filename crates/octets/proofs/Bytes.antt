-- The numbers of a slice are bytes, a field by the fields that it is made of, numbers made of bytes give them back, and when two tests of them agree.
use mathlib.Core.Path.{◌≡◌, refl, sym, ap, ◌∙◌}
use mathlib.Core.Bool.{Bool, true, false}
use Prim.Native.Nat.{ℕ, zero, suc, ◌+◌, ◌-◌, ◌*◌, ◌/◌, ◌%◌, ◌^◌, ◌≤◌, ◌<◌}
use native.Mathlib.Nat.{add_assoc}
use native.Mathlib.Omega.{arith}
use lib.Dec.{eqb}
use mathlib.Core.List.{[], ◌∷◌, ◌++◌}
use lib.Seq.{length-take-le}
use lib.ListN.{length, get_or, take, drop, replicate, length-drop, length-append, length-replicate, drop_of_length-le}
use mathlib.Core.List.{append-nil}
use Rattle.std.proofs.lemmas.List.{take-replicate}
use mir.Val.{Fits}
use mir.Syntax.{w8, w64}
use Rattle.std.specs.Int.{from_be_bytes}
use Rattle.rules.specs.Octets.{Octets, bit, big_from, field, paste}
use Rattle.rules.proofs.Fields.{field-split, field_two, field_bound}
use Rattle.octets.specs.Read.{Bytes, Read}

pub bytes-known : (s : Octets) → ((j : ℕ) → Fits w8 (get_or s j 0)) → Bytes s
bytes-known s f j = omega (arith, f j)

-- a number that was read is below the bound of its bytes
pub read_bound : {s : Octets} {at n r : ℕ} → Read s at n r → at + n ≤ length s → r < 256 ^ n
read_bound {s} {at} {n} got h = rw got.value (field_bound s got.bytes n at h)

-- a field of four bytes, and one of eight by two of four
pub field_four : (s : Octets) (at : ℕ) → at + 4 ≤ length s →
    field s at 4 ≡ get_or s at 0 * 16777216 + get_or s (at + 1) 0 * 65536 + get_or s (at + 2) 0 * 256 + get_or s (at + 3) 0
field_four s at h =
    field-split s at 2 2 (omega arith)
    ∙ rw (field_two s at (omega arith), field_two s (at + 2) (omega arith), add_assoc at 2 1) (omega arith)

pub field_eight : (s : Octets) (at : ℕ) → at + 8 ≤ length s → field s at 8 ≡ field s at 4 * 4294967296 + field s (at + 4) 4
field_eight s at h = field-split s at 4 4 (omega arith)

pub bit_of : (x : ℕ) → x < 2 → bit (eqb x 1) ≡ x
bit_of zero h = refl
bit_of (suc zero) h = refl
bit_of (suc (suc x)) h = absurd (omega arith)

pub pair_forward : (x y : ℕ) → x < 256 → y < 256 → ((x * 256 + y) / 256 % 256 ≡ x) × ((x * 256 + y) % 256 ≡ y)
pair_forward x y hx hy = (omega arith, omega arith)

-- two tests agree where each of the first one's answers decides the second's
pub agree : {x y : Bool} → (x ≡ true → y ≡ true) → (x ≡ false → y ≡ false) → x ≡ y
agree {x = true} p q = sym (p refl)
agree {x = false} p q = sym (q refl)

-- zeros in front change no number
zeros_front : (k : ℕ) (xs : Octets) → big_from 0 (replicate k 0 ++ xs) ≡ big_from 0 xs
unfolding big_from
zeros_front zero xs = refl
zeros_front (suc k) xs = zeros_front k xs

-- eight bytes as the library reads them
eight_from : (bs : Octets) → length bs ≡ 8 → from_be_bytes w64 bs ≡ big_from 0 bs
unfolding big_from
eight_from (a ∷ b ∷ c ∷ d ∷ e ∷ f ∷ g ∷ h ∷ []) l = omega arith
eight_from bs l = absurd (omega arith)

-- the last n of eight bytes, where the others are 0
pub padded_field : (s : Octets) (at n : ℕ) → n ≤ 8 → at + n ≤ length s → (bs : Octets) →
    bs ≡ paste (8 - n) (take (at + n - at) (drop at s)) (replicate 8 0) →
    from_be_bytes w64 bs ≡ field s at n
unfolding field paste
padded_field s at n h k bs e =
    let m : at + n - at ≡ n = omega arith in
    let long : length (take n (drop at s)) ≡ n = length-take-le n (drop at s) (omega (arith, length-drop at s)) in
    let none : ◌≡◌ {A = Octets} (drop (8 - n + length (take n (drop at s))) (replicate 8 0)) [] = drop_of_length-le (replicate 8 0) (omega arith) in
    let front : ◌≡◌ {A = Octets} (take (8 - n) (replicate 8 0)) (replicate (8 - n) 0) = take-replicate (8 - n) 8 0 (omega arith) in
    let all : bs ≡ replicate (8 - n) 0 ++ take n (drop at s) = e ∙ rw (m, front, none, append-nil) refl in
    let zeros : Octets = replicate (8 - n) 0 in
    let some : length zeros ≡ 8 - n = length-replicate {A = ℕ} (8 - n) 0 in
    let whole : length bs ≡ 8 = ap length all ∙ (length-append zeros (take n (drop at s)) ∙ omega arith) in
    eight_from bs whole ∙ (ap (big_from 0) all ∙ zeros_front (8 - n) (take n (drop at s)))
