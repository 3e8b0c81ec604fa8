-- Lists of slots in the order of their names.
use Rattle.std.specs.Prelude.{◌≡◌, List, [], ◌∷◌, ◌++◌, ℕ, ◌≤◌, ◌<◌, length, take, drop}
use Rattle.rules.specs.Size.{slots}
use Rattle.rules.specs.Octets.{Octets}
use Rattle.rules.specs.Node.{Table, insert, children}
use Rattle.rules.specs.Layout.{table_of}
use Rattle.lookup.specs.Rights.{Asked}

-- each is a used slot
abbrev pub AllAsked : Octets → List ℕ → Type 0
AllAsked t [] = Unit {0}
AllAsked t (i ∷ is) = Asked t i × AllAsked t is

-- slot j goes into the place k among slots
pub record Placed (t : Table) (j : ℕ) (is : List ℕ) (k : ℕ) : Type 0 where
  pub within : k ≤ length is
  pub inserted : insert t j is ≡ take k is ++ (j ∷ drop k is)

-- the first n of a list are the children of slot p
pub record Listed (t : Octets) (p : ℕ) (list : List ℕ) (n : ℕ) : Type 0 where
  pub few : n < slots
  pub long : length list ≡ slots
  pub all : take n list ≡ children (table_of t) p
  pub asked : AllAsked t (take n list)
