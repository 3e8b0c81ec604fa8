-- The classes of the bytes of a path.
use Rattle.std.specs.Prelude.{Bool, cond, ◌&&◌, ◌||◌, ℕ, eqb, leb}
use Rattle.rules.specs.Octets.{is_digit}

-- letters, and `-` and `_` with them
unfoldable pub is_letter : ℕ → Bool
is_letter c = (leb 97 c && leb c 122) || ((leb 65 c && leb c 90) || (eqb c 45 || eqb c 95))

-- letter 0, digit 1, slash 2, `@` 3, other 4
unfoldable pub class_of : ℕ → ℕ
class_of c = cond (is_letter c) 0 (cond (is_digit c) 1 (cond (eqb c 47) 2 (cond (eqb c 64) 3 4)))
