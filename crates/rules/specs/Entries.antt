-- What the tables share: entries in places, of which some are free.
use Rattle.std.specs.Prelude.{Bool, true, false, cond, ◌||◌, List, [], ◌∷◌, ℕ, suc}
use Rattle.std.proofs.Math.Option.{Option, none, some}

unfoldable pub is_empty : {A : Type 0} → List A → Bool
is_empty [] = true
is_empty (a ∷ rest) = false

module _ {A : Type 0} where
  -- "the lowest free slot", or the number of places where none is free
  unfoldable pub lowest : List (Option A) → ℕ
  lowest [] = 0
  lowest (none ∷ xs) = 0
  lowest (some x ∷ xs) = suc (lowest xs)

  unfoldable pub free_count : List (Option A) → ℕ
  free_count [] = 0
  free_count (none ∷ xs) = suc (free_count xs)
  free_count (some x ∷ xs) = free_count xs

  -- some entry passes the test
  unfoldable pub has : (A → Bool) → List (Option A) → Bool
  has test [] = false
  has test (none ∷ xs) = has test xs
  has test (some x ∷ xs) = test x || has test xs

  -- without the entries that pass the test; the others keep their places
  unfoldable pub without : (A → Bool) → List (Option A) → List (Option A)
  without test [] = []
  without test (none ∷ xs) = none ∷ without test xs
  without test (some x ∷ xs) = cond (test x) none (some x) ∷ without test xs
