-- Who may do what with a node, and on what ground.
use Rattle.std.specs.Prelude.{Bool, cond, ◌&&◌, ◌||◌, List, [], ◌∷◌, ℕ, suc, ◌%◌, eqb, leb}
use Rattle.rules.specs.Entries.{is_empty}
use Rattle.rules.specs.Domain.{Domain, is_control}
use Rattle.rules.specs.Path.{Names}
use Rattle.rules.specs.Node.{Entry, Node, Table, node_at, reach}

-- why the access is what it is: domain 0, the owner, the later entry of that place, or none of these
pub data Ground : Type 0 where
  control : Ground
  owner : Ground
  entry : ℕ → Ground
  default : Ground

pub record Access : Type 0 where
  pub access : ℕ
  pub ground : Ground

-- "the access of the first later entry naming it, else that of the first entry"
unfoldable pub named : Domain → ℕ → ℕ → List Entry → Access
named d first k [] = record { access = first; ground = default }
named d first k (e ∷ es) =
    let later = named d first (suc k) es in
    cond (eqb e.domain d) (record { access = e.access; ground = entry k }) later

-- "Domain 0 and the owner may do everything"
unfoldable pub access_of : Domain → Node → Access
access_of d n =
    cond (is_control d) (record { access = 3; ground = control })
    (cond (eqb d n.owner.domain) (record { access = 3; ground = owner })
    (named d n.owner.access 1 n.others))

unfoldable pub may_read : Domain → Node → Bool
may_read d n = eqb ((access_of d n).access % 2) 1

unfoldable pub may_write : Domain → Node → Bool
may_write d n = leb 2 (access_of d n).access

unfoldable pub may_own : Domain → Node → Bool
may_own d n = is_control d || eqb d n.owner.domain

-- a path is there, and domain d may read it
unfoldable pub readable : Table → Domain → Names → Bool
readable t d ns = is_empty (reach t ns).left && may_read d (node_at t (reach t ns).slot)
