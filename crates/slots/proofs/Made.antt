-- What an array is made of by a call for each place.
use mathlib.Core.Path.{◌≡◌, refl, subst, sym}
use mathlib.Core.List.{List}
use Prim.Native.Nat.{ℕ, zero, suc, ◌+◌, ◌≤◌, ◌<◌}
use native.Mathlib.Decide.{ℕ_discrete}
use native.Mathlib.Omega.{arith}
use lib.ListN.{get_or}
use denote.Param.Members.{Mut, Called}
use Rattle.std.specs.Array.{IsFromFnResult, IsFromFnResultFrom}

-- each call leaves the maker alone, and what it gives has P at its place
module _ {F B : Type 0} {g : Mut F (ℕ × Unit {0}) B} {f : F} (P : ℕ → B → Type 0)
    (gives : (i : ℕ) (y : B) (q : F) → Called g f (i, tt) y q → (q ≡ f) × P i y) where
  made_from : (ys : List B) (d : B) (n i : ℕ) (p : F) → p ≡ f → IsFromFnResultFrom g p ys i n → (m : ℕ) → i ≤ m → m < i + n → P m (get_or ys m d)
  made_from ys d zero i p e made m low high = absurd (omega arith)
  made_from ys d (suc n) i p e made m low high = go (ℕ_discrete m i) (made_from ys d n (i + 1) made.0 here.0 made.4 m)
    where
      here : (made.0 ≡ f) × P i made.1
      here = gives i made.1 made.0 (subst (λ (x : F). Called g x (i, tt) made.1 made.0) e made.3)

      go : Dec (m ≡ i) → (i + 1 ≤ m → m < i + 1 + n → P m (get_or ys m d)) → P m (get_or ys m d)
      go (yes q) rest = subst (λ (k : ℕ). P k (get_or ys k d)) (sym q) (subst (P i) (sym (made.2.1 d)) here.1)
      go (no q) rest = rest (omega (arith, q)) (omega arith)

  pub made_by : (ys : List B) (d : B) (n : ℕ) → IsFromFnResult g f ys n → (m : ℕ) → m < n → P m (get_or ys m d)
  made_by ys d n made m h = made_from ys d n 0 f refl made.each m (omega arith) (omega arith)
