-- Tests one after the other.
use mathlib.Core.Path.{◌≡◌, refl}
use mathlib.Core.Bool.{Bool, true, false, ◌&&◌}
use Prim.Native.Nat.{ℕ, ◌≤◌, ◌<◌}
use native.Mathlib.Omega.{arith}
use lib.Dec.{leb}
use borrow.Author.Tests.{lt-leb, le-leb}

-- the first test decides
pub stop : {p : Bool} (q : Bool) → p ≡ false → false ≡ p && q
stop q e = rw e refl

-- the first test holds, and the rest decides
pub pass : {p q r : Bool} → p ≡ true → r ≡ q → r ≡ p && q
pass e f = rw e f

-- both tests hold
pub both : {p q : Bool} → p ≡ true → q ≡ true → p && q ≡ true
both e f = rw (e, f) refl

-- a number that was read is above a size, or within it
pub over : {a b : ℕ} (k : ℕ) → a ≡ b → k < a → leb b k ≡ false
over {a} {b} k e h = lt-leb b k (omega arith)

pub under : {a b : ℕ} (k : ℕ) → a ≡ b → a ≤ k → leb b k ≡ true
under {a} {b} k e h = le-leb b k (omega arith)
