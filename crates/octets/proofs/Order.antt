-- Byte order, two texts side by side: the first bytes that differ decide, and where there are none, the lengths.
use mathlib.Core.Path.{◌≡◌, refl, sym, ◌∙◌}
use mathlib.Core.Bool.{or-false}
use mathlib.Core.List.{[], ◌∷◌}
use mathlib.Core.Logic.{◌⊎◌, inl, inr}
use Prim.Native.Nat.{ℕ, ◌+◌}
use native.Mathlib.Omega.{arith}
use lib.Dec.{ltb}
use lib.ListN.{length}
use borrow.Author.Tests.{eq-eqb, ne_eqb, lt-ltb, le-ltb}
use Rattle.rules.specs.Octets.{Octets, less}

-- a turn of `less`: where the first bytes differ, they decide
pub less_first : {s t xs ys : Octets} {x y : ℕ} → s ≡ x ∷ xs → t ≡ y ∷ ys → (x ≡ y → ⊥) → less s t ≡ ltb x y
unfolding less
less_first {x = x} {y = y} p q n = rw (p, q, ne_eqb x y n, or-false) refl

-- where they agree, what is behind them does
pub less_turn : (a b : Octets) {s t xs ys : Octets} {x y : ℕ} → s ≡ x ∷ xs → t ≡ y ∷ ys → x ≡ y → less a b ≡ less s t →
    length a + length t ≡ length b + length s → (less a b ≡ less xs ys) × (length a + length ys ≡ length b + length xs)
unfolding less
less_turn a b {x = x} {y = y} p q e k l =
    (k ∙ rw (p, q, e, le-ltb y y (omega arith), eq-eqb y y refl) refl, omega (arith, rw (p, q) at l))

-- where one has ended, the lengths do
pub less_done : (a b xs ys : Octets) → length a + length ys ≡ length b + length xs → (length xs ≡ 0) ⊎ (length ys ≡ 0) →
    less xs ys ≡ ltb (length a) (length b)
unfolding less
less_done a b [] [] l z = sym (le-ltb (length a) (length b) (omega arith))
less_done a b [] (y ∷ ys) l z = sym (lt-ltb (length a) (length b) (omega arith))
less_done a b (x ∷ xs) [] l z = sym (le-ltb (length a) (length b) (omega arith))
less_done a b (x ∷ xs) (y ∷ ys) l (inl z) = absurd (omega arith)
less_done a b (x ∷ xs) (y ∷ ys) l (inr z) = absurd (omega arith)
