-- Marks on slots, and the table without the marked ones.
use Rattle.std.specs.Prelude.{◌≡◌, Bool, false, cond, List, [], ◌∷◌, ℕ, ◌<◌, length, get_or}
use Rattle.std.proofs.Math.Option.{none}
use Rattle.rules.specs.Size.{slots, deepest}
use Rattle.rules.specs.Node.{Table, within}

-- a mark for each slot: whether it is slot i or lies below it
pub record Marked (marks : List Bool) (t : Table) (i : ℕ) : Type 0 where
  pub long : length marks ≡ slots
  pub right : (j : ℕ) → j < slots → get_or marks j false ≡ within deepest t i j

-- the marked slots freed; those that have no mark stay as they are
unfoldable pub swept : List Bool → Table → Table
swept [] t = t
swept (m ∷ ms) [] = []
swept (m ∷ ms) (s ∷ t) = cond m none s ∷ swept ms t
