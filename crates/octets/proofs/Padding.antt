-- Bytes behind a text in its field, looked at in two pieces: those past the field's first h, and h from the text's end on.
use mathlib.Core.Path.{◌≡◌, refl, sym, ap, ◌∙◌}
use mathlib.Core.Bool.{true, false, ◌&&◌, and-true, and-false, and_assoc}
use mathlib.Core.List.{List, [], ◌∷◌, ◌++◌}
use Prim.Native.Nat.{ℕ, zero, suc, ◌+◌, ◌-◌, ◌≤◌}
use native.Mathlib.Nat.{sub-zero, zero-sub, suc-sub-suc}
use native.Mathlib.Omega.{arith}
use lib.ListN.{take, drop}
use lib.Seq.{take-nil, take-add, drop-drop}
use lib.Dec.{eqb}
use Rattle.rules.specs.Octets.{Octets, all_zero}
use Rattle.rules.proofs.Compare.{both_true}

pub drop-take : {A : Type 0} (n k : ℕ) (l : List A) → drop n (take k l) ≡ take (k - n) (drop n l)
drop-take zero k l = rw (sub-zero k) refl
drop-take (suc n) zero l = rw (zero-sub (suc n)) refl
drop-take (suc n) (suc k) [] = sym (take-nil (suc k - suc n))
drop-take (suc n) (suc k) (x ∷ l) = drop-take n k l ∙ ap (λ (m : ℕ). take m (drop n l)) (sym (suc-sub-suc k n))

zero_append : (xs ys : Octets) → all_zero (xs ++ ys) ≡ all_zero xs && all_zero ys
unfolding all_zero
zero_append [] ys = refl
zero_append (x ∷ xs) ys = ap (◌&&◌ (eqb x 0)) (zero_append xs ys) ∙ sym (and_assoc (eqb x 0) (all_zero xs) (all_zero ys))

-- the bytes from n on, the first k of them and the rest
pieces : (y : Octets) (size n k m : ℕ) → k + m ≡ size - n → all_zero (drop n (take size y)) ≡ all_zero (take k (drop n y)) && all_zero (take m (drop (n + k) y))
pieces y size n k m e =
    ap all_zero (drop-take n size y ∙ rw (← e) (take-add k m (drop n y)))
    ∙ zero_append (take k (drop n y)) (take m (drop k (drop n y)))
    ∙ ap (λ (z : Octets). all_zero (take k (drop n y)) && all_zero (take m z)) (drop-drop k n y)

module _ (y : Octets) (n h size : ℕ) (l : n ≤ h) (w : h + h ≤ size) where
  halves : all_zero (drop n (take size y)) ≡ all_zero (drop n (take h y)) && all_zero (drop h (take size y))
  halves =
      let back : n + (h - n) ≡ h = omega arith in
      pieces y size n (h - n) (size - h) (omega arith) ∙ rw (back, drop-take n h y, drop-take h size y) refl

  -- past the first h one is not zero
  pub late_fault : all_zero (drop h (take size y)) ≡ false → all_zero (drop n (take size y)) ≡ false
  late_fault e = halves ∙ rw e (and-false (all_zero (drop n (take h y))))

  -- all are zero
  pub no_fault : all_zero (drop n (take h y)) ≡ true → all_zero (drop h (take size y)) ≡ true → all_zero (drop n (take size y)) ≡ true
  no_fault d e = halves ∙ rw (d, e) refl

  -- past the first h all are zero: h from n on decide
  pub first_decides : all_zero (drop h (take size y)) ≡ true → all_zero (take h (drop n y)) ≡ all_zero (drop n (take size y))
  first_decides e =
      let turned : n + h ≡ h + n = omega arith in
      let late = both_true (all_zero (take n (drop h y))) (all_zero (take (size - h - n) (drop (h + n) y)))
      (sym (pieces y size h n (size - h - n) (omega arith)) ∙ e) in
      sym (pieces y size n h (size - h - n) (omega arith) ∙ rw (turned, late.1) (and-true (all_zero (take h (drop n y)))))

-- the parts as the code has them
pub behind : (t : Octets) (at k n : ℕ) → n ≤ k → take (at + k - (at + n)) (drop (at + n) t) ≡ drop n (take k (drop at t))
behind t at k n h = sym (drop-take n k (drop at t) ∙ rw (drop-drop n at t, fewer) refl)
  where
    fewer : k - n ≡ at + k - (at + n)
    fewer = omega arith

pub piece : (t : Octets) (at n k : ℕ) → take (at + n + k - (at + n)) (drop (at + n) t) ≡ take k (drop n (drop at t))
piece t at n k =
    let e : at + n + k - (at + n) ≡ k = omega arith in
    rw e (ap (take k) (sym (drop-drop n at t)))
