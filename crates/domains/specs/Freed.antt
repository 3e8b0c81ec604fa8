-- Places freed one after the other, by what a test answers of each.
use Rattle.std.specs.Prelude.{◌≡◌, Bool, cond, List, [], ◌∷◌, ℕ, ◌+◌, ◌*◌, length, replicate}
use Rattle.rules.specs.Octets.{Octets, paste}

-- places of `size` bytes
module _ (size : ℕ) where
  -- the table after the answers for the places from k on: a place is zero where its answer is true
  abbrev pub freed_from : ℕ → List Bool → Octets → Octets
  freed_from k [] s = s
  freed_from k (b ∷ answers) s = freed_from (k + 1) answers (cond b (paste (k * size) (replicate size 0) s) s)

  -- each answer was given of the table as it then was
  abbrev pub Answered : (Octets → ℕ → Bool → Type 0) → ℕ → List Bool → Octets → Type 0
  Answered says k [] s = Unit
  Answered says k (b ∷ answers) s = says s k b × Answered says (k + 1) answers (cond b (paste (k * size) (replicate size 0) s) s)

  -- the first `count` places were asked in turn, and freed where the answer was true
  pub record Freed (says : Octets → ℕ → Bool → Type 0) (count : ℕ) (before after : Octets) : Type 0 where
    pub answers : List Bool
    pub long : length answers ≡ count
    pub answered : Answered says 0 answers before
    pub left : after ≡ freed_from 0 answers before
