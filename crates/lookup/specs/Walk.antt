-- What the walk enters into a list of slots.
use Rattle.std.specs.Prelude.{◌≡◌, ℕ, ◌+◌, ◌≤◌, ◌<◌, length, get_or, take}
use mathlib.Core.List.{List, ◌++◌, flat_map}
use Rattle.rules.specs.Size.{slots}
use Rattle.rules.specs.Octets.{Octets}
use Rattle.rules.specs.Path.{Domain}
use Rattle.rules.specs.Node.{Table, owned_below, owned_by}
use Rattle.rules.specs.Layout.{table_of}
use Rattle.lookup.specs.Children.{AllAsked}

-- the topmost of some slots and k - 1 levels below them that domain d owns
unfoldable pub owned_among : ℕ → Table → Domain → List ℕ → List ℕ
owned_among k t d is = flat_map (owned_below k t d) is

-- a list goes in behind the first n of another, up to place r
pub record Entered (before : List ℕ) (n : ℕ) (is after : List ℕ) (r : ℕ) : Type 0 where
  pub count : r ≡ n + length is
  pub all : take r after ≡ take n before ++ is

-- the first r of a list are the topmost nodes that domain d owns
pub record Owned (t : Octets) (d : Domain) (list : List ℕ) (r : ℕ) : Type 0 where
  pub few : r < slots
  pub all : take r list ≡ owned_by (table_of t) d
  pub asked : AllAsked t (take r list)
  pub not_root : (k : ℕ) → k < r → 1 ≤ get_or list k 0
