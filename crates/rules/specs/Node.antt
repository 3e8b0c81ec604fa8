-- Nodes in slots: looking up, making, removing, and the children in name order.
use Rattle.std.specs.Prelude.{Bool, false, cond, not, ◌&&◌, ◌||◌, ℕ, zero, suc, ◌-◌, get_or, set, replicate, eqb}
use mathlib.Core.List.{List, [], ◌∷◌, flat_map}
use Rattle.std.proofs.Math.Option.{Option, none, some}
use Rattle.rules.specs.Size.{slots, deepest}
use Rattle.rules.specs.Octets.{Octets, same, less}
use Rattle.rules.specs.Entries.{lowest}
use Rattle.rules.specs.Domain.{Domain, is_control}
use Rattle.rules.specs.Path.{Name, Names}

-- access: n 0, r 1, w 2, b 3
pub record Entry : Type 0 where
  pub access : ℕ
  pub domain : Domain

-- the first permission entry names the owner
pub record Node : Type 0 where
  pub parent : ℕ
  pub name : Name
  pub value : Octets
  pub owner : Entry
  pub others : List Entry

-- slot by slot; an unused one is none
abbrev pub Table : Type 0
Table = List (Option Node)

-- "the root only, empty value, permission `n0`"
unfoldable pub root : Node
root = record { parent = 0; name = []; value = []; owner = record { access = 0; domain = 0 }; others = [] }

unfoldable pub fresh_table : Table
fresh_table = some root ∷ replicate (slots - 1) none

-- the node in slot i; an unused slot is read as the root
unfoldable pub node_at : Table → ℕ → Node
node_at t i = elim (get_or t i none) [ none ↦ root | some n ↦ n ]

-- ── looking up ──

unfoldable pub is_child : ℕ → Name → Option Node → Bool
is_child p n none = false
is_child p n (some s) = eqb s.parent p && same s.name n

unfoldable pub child_from : ℕ → Name → ℕ → Table → Option ℕ
child_from p n i [] = none
child_from p n i (s ∷ ss) =
    let further = child_from p n (suc i) ss in
    cond (is_child p n s) (some i) further

-- the child of slot p with the name n; the root has no name, so it is nobody's child
unfoldable pub child : Table → ℕ → Name → Option ℕ
child t p n = child_from p n 0 t

-- how far a path leads: the last slot that is there, and the names that are left
pub record Reached : Type 0 where
  pub slot : ℕ
  pub left : Names

unfoldable pub reach_from : Names → Table → ℕ → Reached
reach_from [] t i = record { slot = i; left = [] }
reach_from (n ∷ ns) t i = elim (child t i n) [ none ↦ record { slot = i; left = n ∷ ns } | some j ↦ reach_from ns t j ]

unfoldable pub reach : Table → Names → Reached
reach t ns = reach_from ns t 0

-- ── making ──

-- "its parent's entries, with the sender as owner unless the sender is 0"
unfoldable pub heir : Domain → Entry → Entry
heir d e = cond (is_control d) e (record { access = e.access; domain = d })

unfoldable pub new_node : Domain → Table → ℕ → Name → Octets → Node
new_node d t p n v = record { parent = p; name = n; value = v; owner = heir d (node_at t p).owner; others = (node_at t p).others }

-- the value goes to the last of the names that are made
unfoldable pub last_value : Names → Octets → Octets
last_value [] v = v
last_value (n ∷ ns) v = []

-- the names made below slot p by domain d, parents first, each in the lowest free slot
unfoldable pub made : Names → ℕ → Domain → Octets → Table → Table
made [] p d v t = t
made (n ∷ ns) p d v t = made ns (lowest t) d v (set t (lowest t) (some (new_node d t p n (last_value ns v))))

-- ── writing a slot ──

abbrev pub valued : Node → Octets → Node
valued n v = record { parent = n.parent; name = n.name; value = v; owner = n.owner; others = n.others }

abbrev pub entitled : Node → Entry → List Entry → Node
entitled n o es = record { parent = n.parent; name = n.name; value = n.value; owner = o; others = es }

unfoldable pub with_value : Table → ℕ → Octets → Table
with_value t i v = set t i (some (valued (node_at t i) v))

unfoldable pub with_entries : Table → ℕ → Entry → List Entry → Table
with_entries t i o es = set t i (some (entitled (node_at t i) o es))

-- ── removing ──

-- slot j is slot i or lies at most k levels below it
unfoldable pub within : ℕ → Table → ℕ → ℕ → Bool
within zero t i j = eqb i j
within (suc k) t i j = eqb i j || (not (eqb j 0) && within k t i (node_at t j).parent)

unfoldable pub cleared_from : Table → ℕ → ℕ → Table → Table
cleared_from t i j [] = []
cleared_from t i j (s ∷ ss) = cond (within deepest t i j) none s ∷ cleared_from t i (suc j) ss

-- "RM takes all below, whoever owns it"
unfoldable pub removed : Table → ℕ → Table
removed t i = cleared_from t i 0 t

-- ── the children of a slot, and its path ──

-- slot j put among slots in the order of their names
unfoldable pub insert : Table → ℕ → List ℕ → List ℕ
insert t j [] = j ∷ []
insert t j (k ∷ ks) = cond (less (node_at t j).name (node_at t k).name) (j ∷ k ∷ ks) (k ∷ insert t j ks)

unfoldable pub has_parent : ℕ → Option Node → Bool
has_parent p none = false
has_parent p (some n) = eqb n.parent p

unfoldable pub children_from : Table → ℕ → ℕ → Table → List ℕ
children_from t p i [] = []
children_from t p i (s ∷ ss) =
    let rest = children_from t p (suc i) ss in
    cond (has_parent p s && not (eqb i 0)) (insert t i rest) rest

-- "in byte order"; the root, its own parent, is not among its children
unfoldable pub children : Table → ℕ → List ℕ
children t p = children_from t p 0 t

unfoldable pub path_up : ℕ → Table → ℕ → Names → Names
path_up zero t i ns = ns
path_up (suc k) t i ns =
    let up = path_up k t (node_at t i).parent ((node_at t i).name ∷ ns) in
    cond (eqb i 0) ns up

-- the path of a slot
unfoldable pub path_of : Table → ℕ → Names
path_of t i = path_up deepest t i []

-- ── what a domain owns ──

-- "The walk visits a node, then its children in name order, and doesn't enter a removed one": the topmost nodes that d owns
unfoldable pub owned_below : ℕ → Table → Domain → ℕ → List ℕ
owned_below zero t d i = []
owned_below (suc k) t d i =
    let below = flat_map (owned_below k t d) (children t i) in
    cond (eqb (node_at t i).owner.domain d) (i ∷ []) below

unfoldable pub owned_by : Table → Domain → List ℕ
owned_by t d = owned_below (suc deepest) t d 0

unfoldable pub without_all : Table → List ℕ → Table
without_all t [] = t
without_all t (i ∷ is) = without_all (removed t i) is
