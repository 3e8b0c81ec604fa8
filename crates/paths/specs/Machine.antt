-- The machine that reads a path: its states, and where a byte of each class leads.
-- 0 nothing read, 1 the root's slash, 2 in a name of an absolute path, 3 after a slash in one,
-- 4 in a name of a relative path, 5 after a slash in one, 6 after an `@` in front, 7 malformed.
use Rattle.std.specs.Prelude.{Bool, cond, ◌||◌, [], ◌∷◌, ℕ, eqb}
use Rattle.rules.specs.Octets.{Octets}
use Rattle.paths.specs.Classes.{class_of}

-- the classes of what a name has
unfoldable pub of_name : ℕ → Bool
of_name k = eqb k 0 || (eqb k 1 || eqb k 3)

-- in a name: more of it, or a slash
unfoldable pub in_name : ℕ → ℕ → ℕ → ℕ
in_name name slash k = cond (of_name k) name (cond (eqb k 2) slash 7)

-- after a slash: a name begins
unfoldable pub at_name : ℕ → ℕ → ℕ
at_name name k = cond (of_name k) name 7

unfoldable pub step_of : ℕ → ℕ → ℕ
step_of state k =
    cond (eqb state 0) (cond (eqb k 3) 6 (in_name 4 1 k))
    (cond (eqb state 1 || eqb state 3) (at_name 2 k)
    (cond (eqb state 2) (in_name 2 3 k)
    (cond (eqb state 4) (in_name 4 5 k)
    (cond (eqb state 5) (at_name 4 k) (cond (eqb state 6) 6 7)))))

-- the state after some bytes
unfoldable pub run : ℕ → Octets → ℕ
run state [] = state
run state (c ∷ cs) = run (step_of state (class_of c)) cs
