-- What a node request answers on a table, and the table after it: steps 5 to 7 of the order of checks.
use Rattle.std.specs.Prelude.{Bool, true, false, cond, ◌&&◌, ◌||◌, ℕ, suc, ◌-◌, length, get_or, eqb, leb}
use mathlib.Core.List.{List, [], ◌∷◌, ◌++◌, flat_map}
use Rattle.std.proofs.Math.Option.{Option, none, some}
use Rattle.rules.specs.Size.{longest_value, longest_payload, most_entries}
use Rattle.rules.specs.Octets.{Octets, text, nul, decimal}
use Rattle.rules.specs.Entries.{free_count}
use Rattle.rules.specs.Domain.{Domain, is_control}
use Rattle.rules.specs.Path.{Names, fits}
use Rattle.rules.specs.Node.{Entry, Node, Table, Reached, node_at, reach, made, with_value, with_entries, removed, children}
use Rattle.rules.specs.Rights.{may_read, may_write, may_own}
use Rattle.rules.specs.Payload.{Ask, directory, read, get_perms, write, mkdir, rm, set_perms}

pub data Errno : Type 0 where
  EINVAL EACCES EEXIST ENOENT ENOSPC E2BIG EAGAIN ENOSYS : Errno

unfoldable pub errno_text : Errno → Octets
errno_text EINVAL = text "EINVAL"
errno_text EACCES = text "EACCES"
errno_text EEXIST = text "EEXIST"
errno_text ENOENT = text "ENOENT"
errno_text ENOSPC = text "ENOSPC"
errno_text E2BIG = text "E2BIG"
errno_text EAGAIN = text "EAGAIN"
errno_text ENOSYS = text "ENOSYS"

-- a reply's payload, or the error
pub data Reply : Type 0 where
  done : Octets → Reply
  refused : Errno → Reply

-- "Any other success is `OK` and a nul."
unfoldable pub OK : Reply
OK = done (text "OK" ++ nul)

-- a change names a path, which it wrote, made or removed; with it, it created so many of the nodes right above
pub record Change : Type 0 where
  pub removal : Bool
  pub parents : ℕ
  pub names : Names

pub record Answer : Type 0 where
  pub reply : Reply
  pub table : Table
  pub change : Option Change

-- ── what a reading request gives of a node ──

unfoldable pub access_text : ℕ → ℕ
access_text a = get_or (text "nrwb") a 0

-- "each access letter with its decimal id and a nul"
unfoldable pub entry_text : Entry → Octets
entry_text e = access_text e.access ∷ (decimal e.domain ++ nul)

unfoldable pub permissions : Node → Reply
permissions n = done (flat_map entry_text (n.owner ∷ n.others))

-- "each name and a nul"
unfoldable pub name_list : Table → List ℕ → Octets
name_list t is = flat_map (λ i. (node_at t i).name ++ nul) is

-- "E2BIG: DIRECTORY above 4,096 bytes"
unfoldable pub listing : Octets → Reply
listing l = cond (leb (length l) longest_payload) (done l) (refused E2BIG)

unfoldable pub listed : Table → ℕ → Reply
listed t i = listing (name_list t (children t i))

-- ── the seven requests: domain d asks for the path ns, which leads as far as r says ──

module _ (d : Domain) (ns : Names) (t : Table) where
  unfoldable pub unchanged : Reply → Answer
  unchanged r = record { reply = r; table = t; change = none }

  unfoldable pub changed : Bool → ℕ → Table → Answer
  changed removal parents after = record { reply = OK; table = after; change = some (record { removal = removal; parents = parents; names = ns }) }

  -- "An absent path is ENOENT if the sender may read the nearest present ancestor, else EACCES."
  unfoldable pub absent : ℕ → Errno
  absent i = cond (may_read d (node_at t i)) ENOENT EACCES

  -- READ, DIRECTORY and GET_PERMS need read
  unfoldable pub looked : Reached → (ℕ → Reply) → Answer
  looked r give =
      elim r.left [
        | [] ↦ (let got = give r.slot in unchanged (cond (may_read d (node_at t r.slot)) got (refused EACCES)))
        | n ∷ rest ↦ unchanged (refused (absent r.slot))
      ]

  -- no size is passed by the value v or the path
  unfoldable pub sized : Octets → Bool
  sized v = leb (length v) longest_value && fits ns

  -- the table has what is wanted: a free slot for each name that is left
  unfoldable pub stocked : Names → Bool
  stocked left = leb (length left) (free_count t)

  -- what is left of the path can be made, with the value v
  unfoldable pub room : Names → Octets → Bool
  room left v = sized v && stocked left

  -- "Creating needs write on that ancestor instead."
  unfoldable pub created : Reached → Octets → Answer
  created r v =
      let after = made r.left r.slot d v t in
      cond (may_write d (node_at t r.slot))
      (cond (room r.left v) (changed false (length r.left - 1) after) (unchanged (refused ENOSPC)))
      (unchanged (refused EACCES))

  -- WRITE needs write
  unfoldable pub written : Octets → Reached → Answer
  written v r =
      elim r.left [
        | [] ↦ cond (may_write d (node_at t r.slot))
            (cond (leb (length v) longest_value) (changed false 0 (with_value t r.slot v)) (unchanged (refused ENOSPC)))
            (unchanged (refused EACCES))
        | n ∷ rest ↦ created r v
      ]

  -- MKDIR needs write, "also of a present path"
  unfoldable pub directory_made : Reached → Answer
  directory_made r =
      elim r.left [
        | [] ↦ unchanged (cond (may_write d (node_at t r.slot)) OK (refused EACCES))
        | n ∷ rest ↦ created r []
      ]

  -- RM needs write; "of an absent path whose parent is present is OK if the sender may read the parent"
  unfoldable pub taken : Reached → Answer
  taken r =
      elim r.left [
        | [] ↦ cond (may_write d (node_at t r.slot)) (changed true 0 (removed t r.slot)) (unchanged (refused EACCES))
        | n ∷ rest ↦ unchanged (elim rest [ [] ↦ cond (may_read d (node_at t r.slot)) OK (refused EACCES) | m ∷ more ↦ refused (absent r.slot) ])
      ]

  -- "SET_PERMS needs owner or 0, and only 0 changes the owner."
  unfoldable pub may_set : Node → Entry → Bool
  may_set n o = may_own d n && (is_control d || eqb o.domain n.owner.domain)

  unfoldable pub permitted : Entry → List Entry → Reached → Answer
  permitted o es r =
      elim r.left [
        | [] ↦ cond (may_set (node_at t r.slot) o)
            (cond (leb (suc (length es)) most_entries) (changed false 0 (with_entries t r.slot o es)) (unchanged (refused ENOSPC)))
            (unchanged (refused EACCES))
        | n ∷ rest ↦ unchanged (refused (absent r.slot))
      ]

  unfoldable pub answered : Ask → Reached → Answer
  answered directory r = looked r (listed t)
  answered read r = looked r (λ i. done (node_at t i).value)
  answered get_perms r = looked r (λ i. permissions (node_at t i))
  answered (write v) r = written v r
  answered mkdir r = directory_made r
  answered rm r = taken r
  answered (set_perms o es) r = permitted o es r

-- what domain d's request for a path answers on the table t
unfoldable pub answer : Domain → Ask → Names → Table → Answer
answer d a ns t = answered d ns t a (reach t ns)
