-- Tests gathered by or and xor: the one test after a loop says what a test of each byte would.
use mathlib.Core.Path.{◌≡◌, refl, sym, ap, ◌∙◌}
use mathlib.Core.Bool.{Bool, true, false, ◌&&◌, and_assoc, and-true}
use Prim.Native.Nat.{ℕ, zero, suc, ◌+◌, ◌<◌, ◌≤◌}
use native.Mathlib.Omega.{arith}
use lib.Bits.{bit_or, bit_xor, or_add_and, xor_add_and, and_le_l, and_le_r, or_zero_l, xor_self}
use lib.Dec.{eqb, eqb-suc-zero}
use lib.ListN.{length, get_or, drop, drop_of_length-le}
use borrow.Author.Tests.{eqb-true, eqb-false, eq-eqb, ne_eqb}
use Rattle.rules.specs.Octets.{Octets, same, all_zero}
use Rattle.rules.proofs.Compare.{same_next, zero_next}

pub or_zero : (x y : ℕ) → eqb (bit_or x y) 0 ≡ eqb x 0 && eqb y 0
or_zero zero y = ap (λ (n : ℕ). eqb n 0) (or_zero_l y)
or_zero (suc x) y =
    ne_eqb (bit_or (suc x) y) 0 (λ (e : bit_or (suc x) y ≡ 0). omega (arith, or_add_and (suc x) y, and_le_r (suc x) y))
    ∙ ap (λ (t : Bool). t && eqb y 0) (sym (eqb-suc-zero x))

pub xor_zero : (x y : ℕ) → eqb (bit_xor x y) 0 ≡ eqb x y
xor_zero x y = by (eqb x y) refl
  where
    by : (t : Bool) → eqb x y ≡ t → eqb (bit_xor x y) 0 ≡ t
    by true e = eq-eqb (bit_xor x y) 0 (rw (eqb-true x y e) (xor_self y))
    by false e = ne_eqb (bit_xor x y) 0 (λ (z : bit_xor x y ≡ 0). eqb-false x y e (omega (arith, xor_add_and x y, and_le_l x y, and_le_r x y)))

-- a turn of `same`: what is gathered so far, and the bytes from i on, decide
pub same_turn : (a b : Octets) (i d : ℕ) → i < length a → i < length b → same a b ≡ eqb d 0 && same (drop i a) (drop i b) →
    same a b ≡ eqb (bit_or d (bit_xor (get_or a i 0) (get_or b i 0))) 0 && same (drop (i + 1) a) (drop (i + 1) b)
same_turn a b i d ha hb e = rw (or_zero, xor_zero, and_assoc, ← same_next a b i ha hb) e

pub same_end : (a b : Octets) (i d : ℕ) → length a ≤ i → length b ≤ i → same a b ≡ eqb d 0 && same (drop i a) (drop i b) → eqb d 0 ≡ same a b
unfolding same
same_end a b i d ha hb e = sym (e ∙ rw (drop_of_length-le a {i = i} ha, drop_of_length-le b {i = i} hb) (and-true (eqb d 0)))

-- a turn of `all_zero`
pub zero_turn : (s : Octets) (i d : ℕ) → i < length s → all_zero s ≡ eqb d 0 && all_zero (drop i s) →
    all_zero s ≡ eqb (bit_or d (get_or s i 0)) 0 && all_zero (drop (i + 1) s)
zero_turn s i d h e = rw (or_zero, and_assoc, ← zero_next s i h) e

pub zero-end : (s : Octets) (i d : ℕ) → length s ≤ i → all_zero s ≡ eqb d 0 && all_zero (drop i s) → eqb d 0 ≡ all_zero s
unfolding all_zero
zero-end s i d h e = sym (e ∙ rw (drop_of_length-le s {i = i} h) (and-true (eqb d 0)))
