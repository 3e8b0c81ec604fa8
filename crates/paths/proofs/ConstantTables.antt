-- The table of classes and the table of steps: the rule of each is a test at every entry, which antt computes.
use mathlib.Core.Path.{◌≡◌, ap, ◌∙◌}
use mathlib.Core.Bool.{Bool}
use mathlib.Core.List.{List, [], ◌∷◌, ◌++◌}
use Prim.Native.Nat.{ℕ, ◌<◌}
use native.Mathlib.Omega.{arith}
use lib.Dec.{T, eqb, eqb→eq}
use lib.ListN.{length, get_or, replicate}
use Rattle.rules.specs.Octets.{is_digit}
use Rattle.paths.specs.Classes.{class_of, is_letter}
use Rattle.paths.specs.Machine.{step_of, in_name, at_name, of_name}
use Rattle.paths.proofs.ClassLaws.{class_small}
use Rattle.paths.proofs.Table.{at, both, both_left, both_right, every}

-- ── classes ──

unfoldable pub classes : List ℕ
classes =
    replicate 45 4 ++ (0 ∷ 4 ∷ 2 ∷ replicate 10 1) ++ replicate 6 4 ++ (3 ∷ replicate 26 0) ++ replicate 4 4 ++ (0 ∷ 4 ∷ replicate 26 0)
    ++ replicate 133 4

right_class : ℕ → ℕ → Bool
right_class b x = eqb x (class_of b)

pub classes_right : (b : ℕ) → b < 256 → get_or classes b 0 ≡ class_of b
unfolding classes right_class class_of is_letter is_digit
classes_right b h = eqb→eq (get_or classes b 0) (class_of b) (at right_class classes 0 tt b h)

pub classes_small : (b : ℕ) → b < 256 → get_or classes b 0 < 5
classes_small b h = rw (classes_right b h) (class_small b)

-- ── steps ──

unfoldable pub steps : List (List ℕ)
steps =
    (4 ∷ 4 ∷ 1 ∷ 6 ∷ 7 ∷ []) ∷ (2 ∷ 2 ∷ 7 ∷ 2 ∷ 7 ∷ []) ∷ (2 ∷ 2 ∷ 3 ∷ 2 ∷ 7 ∷ []) ∷ (2 ∷ 2 ∷ 7 ∷ 2 ∷ 7 ∷ [])
    ∷ (4 ∷ 4 ∷ 5 ∷ 4 ∷ 7 ∷ []) ∷ (4 ∷ 4 ∷ 7 ∷ 4 ∷ 7 ∷ []) ∷ (6 ∷ 6 ∷ 6 ∷ 6 ∷ 6 ∷ []) ∷ (7 ∷ 7 ∷ 7 ∷ 7 ∷ 7 ∷ []) ∷ []

right_step : ℕ → ℕ → ℕ → Bool
right_step state k x = eqb x (step_of state k)

right_row : ℕ → List ℕ → Bool
right_row state row = both (eqb (length row) 5) (every (right_step state) 0 row)

row_right : (state k : ℕ) (row : List ℕ) → T (right_row state row) → k < 5 → get_or row k 0 ≡ step_of state k
unfolding right_row right_step
row_right state k row t h =
    let n = eqb→eq (length row) 5 (both_left (eqb (length row) 5) (every (right_step state) 0 row) t) in
    eqb→eq (get_or row k 0) (step_of state k)
    (at (right_step state) row 0 (both_right (eqb (length row) 5) (every (right_step state) 0 row) t) k (omega arith))

pub steps-right : (state k : ℕ) → state < 8 → k < 5 → get_or (get_or steps state []) k 0 ≡ step_of state k
unfolding steps right_row right_step step_of in_name at_name of_name
steps-right state k g h = row_right state k (get_or steps state []) (at right_row steps [] tt state (omega arith)) h

pub next_right : (state b : ℕ) → state < 8 → b < 256 → get_or (get_or steps state []) (get_or classes b 0) 0 ≡ step_of state (class_of b)
next_right state b g h = steps-right state (get_or classes b 0) g (classes_small b h) ∙ ap (step_of state) (classes_right b h)
