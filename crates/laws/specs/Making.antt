-- Making: a path that was written or made is there, and with it each path above it.
use Rattle.std.specs.Prelude.{◌≡◌, true, ◌++◌, ◌≤◌, length}
use Rattle.rules.specs.Size.{slots, last_domain}
use Rattle.rules.specs.Octets.{Octets}
use Rattle.rules.specs.Path.{Domain, Names, all_names}
use Rattle.rules.specs.Node.{Table, node_at, reach}
use Rattle.rules.specs.Payload.{Ask, write, mkdir}
use Rattle.rules.specs.Answer.{answer}
use Rattle.rules.specs.Sound.{good_table}
use Rattle.laws.specs.History.{succeeds, is_there}

-- domain d's request for a path succeeds on a good table
pub record Succeeds (d : Domain) (a : Ask) (ns : Names) (t : Table) : Type 0 where
  pub long : length t ≡ slots
  pub good : good_table t ≡ true
  pub domain : d ≤ last_domain
  pub names : all_names ns ≡ true
  pub answered : succeeds (answer d a ns t).reply ≡ true

-- a path is there, and each path above it
pub record WithParents (t : Table) (ns : Names) : Type 0 where
  pub path : is_there t ns ≡ true
  pub parents : (above below : Names) → ns ≡ above ++ below → is_there t above ≡ true

-- After a WRITE that succeeds the path is there, with its parents and the value that was written.
abbrev pub WrittenIsThere : Type 0
WrittenIsThere =
    (d : Domain) (ns : Names) (v : Octets) (t : Table) → Succeeds d (write v) ns t
    → let u = (answer d (write v) ns t).table in WithParents u ns × ((node_at u (reach u ns).slot).value ≡ v)

-- After a MKDIR that succeeds the path is there, with its parents.
abbrev pub MadeIsThere : Type 0
MadeIsThere = (d : Domain) (ns : Names) (t : Table) → Succeeds d mkdir ns t → WithParents (answer d mkdir ns t).table ns
