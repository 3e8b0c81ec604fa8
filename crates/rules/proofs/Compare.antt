-- Laws of the comparisons of `specs/Octets.antt`.
use mathlib.Core.Path.{◌≡◌, refl, sym, ap, ap₂}
use mathlib.Core.Bool.{Bool, true, false, ◌&&◌, and-false, or-false}
use mathlib.Core.List.{[], ◌∷◌}
use Prim.Native.Nat.{ℕ, zero, suc, ◌+◌, ◌≤◌, ◌<◌}
use native.Mathlib.Numerals.{add-one}
use native.Mathlib.Omega.{arith}
use lib.Dec.{eqb, ltb}
use lib.ListN.{length, get_or, take, drop, replicate, drop_of_length-le}
use lib.Seq.{drop-cons}
use borrow.Author.Tests.{eqb-true, eq-eqb, ne_eqb, lt-ltb, le-ltb, ltb-true, ltb-false}
use Rattle.rules.specs.Octets.{Octets, same, less, begins, all_zero}

-- ── a test of two things ──

pub both_true : (p q : Bool) → p && q ≡ true → (p ≡ true) × (q ≡ true)
both_true true q e = (refl, e)
both_true false q e = let n : ◌≡◌ {A = ℕ} 0 1 = cc in absurd (omega arith)

-- ── the same bytes ──

pub same_refl : (a : Octets) → same a a ≡ true
unfolding same
same_refl [] = refl
same_refl (x ∷ xs) = ap₂ ◌&&◌ (eq-eqb x x refl) (same_refl xs)

pub eq_same : {a b : Octets} → a ≡ b → same a b ≡ true
eq_same {a} e = rw (← e) (same_refl a)

pub same_eq : (a b : Octets) → same a b ≡ true → a ≡ b
unfolding same
same_eq [] [] e = refl
same_eq [] (y ∷ ys) e = let n : ◌≡◌ {A = ℕ} 0 1 = cc in absurd (omega arith)
same_eq (x ∷ xs) [] e = let n : ◌≡◌ {A = ℕ} 0 1 = cc in absurd (omega arith)
same_eq (x ∷ xs) (y ∷ ys) e =
    let both = both_true (eqb x y) (same xs ys) e in
    ap₂ ◌∷◌ (eqb-true x y both.0) (same_eq xs ys both.1)

-- bytes of two lengths are not the same
pub same_length : (a b : Octets) → (length a ≡ length b → ⊥) → same a b ≡ false
unfolding same
same_length [] [] n = absurd (n refl)
same_length [] (y ∷ ys) n = refl
same_length (x ∷ xs) [] n = refl
same_length (x ∷ xs) (y ∷ ys) n = rw (same_length xs ys (λ e. n (ap suc e))) (and-false (eqb x y))

-- the bytes from i on: those at i, and those after them
pub same_next : (a b : Octets) (i : ℕ) → i < length a → i < length b →
    same (drop i a) (drop i b) ≡ eqb (get_or a i 0) (get_or b i 0) && same (drop (i + 1) a) (drop (i + 1) b)
unfolding same
same_next a b i ha hb = rw (drop-cons a i 0 ha, drop-cons b i 0 hb, add-one) refl

-- ── zeros ──

pub zero_next : (s : Octets) (i : ℕ) → i < length s → all_zero (drop i s) ≡ eqb (get_or s i 0) 0 && all_zero (drop (i + 1) s)
unfolding all_zero
zero_next s i h = rw (drop-cons s i 0 h, add-one) refl

pub zero_eq : (s : Octets) → all_zero s ≡ true → s ≡ replicate (length s) 0
unfolding all_zero
zero_eq [] e = refl
zero_eq (x ∷ xs) e =
    let both = both_true (eqb x 0) (all_zero xs) e in
    ap₂ ◌∷◌ (eqb-true x 0 both.0) (zero_eq xs both.1)

pub zero-replicate : (n : ℕ) → all_zero (replicate n 0) ≡ true
unfolding all_zero
zero-replicate zero = refl
zero-replicate (suc n) = zero-replicate n

pub eq_zero : {s : Octets} (n : ℕ) → s ≡ replicate n 0 → all_zero s ≡ true
eq_zero n e = rw e (zero-replicate n)

-- ── byte order ──

pub less_next : (a b : Octets) (i : ℕ) → i < length a → i < length b → get_or a i 0 ≡ get_or b i 0 →
    less (drop i a) (drop i b) ≡ less (drop (i + 1) a) (drop (i + 1) b)
unfolding less
less_next a b i ha hb e = rw (
  drop-cons a i 0 ha,
  drop-cons b i 0 hb,
  add-one,
  e,
  le-ltb (get_or b i 0) (get_or b i 0) (omega arith),
  eq-eqb (get_or b i 0) (get_or b i 0) refl,
) refl

pub less_here : (a b : Octets) (i : ℕ) → i < length a → i < length b → (get_or a i 0 ≡ get_or b i 0 → ⊥) →
    less (drop i a) (drop i b) ≡ ltb (get_or a i 0) (get_or b i 0)
unfolding less
less_here a b i ha hb n = rw (drop-cons a i 0 ha, drop-cons b i 0 hb, ne_eqb (get_or a i 0) (get_or b i 0) n, or-false) refl

-- where the first ends, it is the lesser if the second goes on
pub less-ended : (a b : Octets) (i : ℕ) → i ≡ length a → i ≤ length b → less (drop i a) (drop i b) ≡ ltb (length a) (length b)
unfolding less
less-ended a b i e h = by (ltb i (length b)) refl
  where
    by : (t : Bool) → ltb i (length b) ≡ t → less (drop i a) (drop i b) ≡ ltb (length a) (length b)
    by true t = rw (drop_of_length-le a {i = i} (omega arith), drop-cons b i 0 (ltb-true i (length b) t))
        (sym (lt-ltb (length a) (length b) (omega (arith, ltb-true))))
    by false t =
        rw (drop_of_length-le a {i = i} (omega arith), drop_of_length-le b {i = i} (ltb-false i (length b) t))
        (sym (le-ltb (length a) (length b) (omega (arith, ltb-false))))

pub less_over : (a b : Octets) (i : ℕ) → i < length a → length b ≤ i → less (drop i a) (drop i b) ≡ false
unfolding less
less_over a b i ha hb = rw (drop-cons a i 0 ha, drop_of_length-le b {i = i} hb) refl

-- ── beginnings ──

pub begins-same : (a b : Octets) → length a ≤ length b → begins a b ≡ same a (take (length a) b)
unfolding begins same
begins-same [] b h = refl
begins-same (x ∷ xs) [] h = absurd (omega arith)
begins-same (x ∷ xs) (y ∷ ys) h = ap (λ (t : Bool). eqb x y && t) (begins-same xs ys (omega arith))

pub begins-short : (a b : Octets) → length b < length a → begins a b ≡ false
unfolding begins
begins-short [] b h = absurd (omega arith)
begins-short (x ∷ xs) [] h = refl
begins-short (x ∷ xs) (y ∷ ys) h = rw (begins-short xs ys (omega arith)) (and-false (eqb x y))
