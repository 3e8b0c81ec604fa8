-- Parents: in sound tables every node hangs on the root, by slots that are there.
use Rattle.std.specs.Prelude.{◌≡◌, true, [], ◌++◌, ℕ, length, get_or}
use Rattle.std.proofs.Math.Option.{none, some}
use Rattle.rules.specs.Size.{slots}
use Rattle.rules.specs.Path.{Names}
use Rattle.rules.specs.Node.{Node, Table, reach, path_of}
use Rattle.rules.specs.Sound.{good_table}
use Rattle.rules.specs.World.{fresh_world}
use Rattle.laws.specs.History.{History, run, is_there}

-- In a good table each used slot has a path, and going along it leads back to that slot.
abbrev pub PathLeadsBack : Type 0
PathLeadsBack =
    (t : Table) (i : ℕ) (n : Node) → length t ≡ slots → good_table t ≡ true → get_or t i none ≡ some n → reach t (path_of t i) ≡ record { slot = i; left = [] }

-- If a path is there, so is each path above it.
abbrev pub ParentsAreThere : Type 0
ParentsAreThere = (t : Table) (above below : Names) → is_there t (above ++ below) ≡ true → is_there t above ≡ true

-- So after any history: no call can leave a node without its parents.
abbrev pub NoOrphans : Type 0
NoOrphans =
    (cs : History) (i : ℕ) (n : Node) → get_or (run fresh_world cs).nodes i none ≡ some n
    → reach (run fresh_world cs).nodes (path_of (run fresh_world cs).nodes i) ≡ record { slot = i; left = [] }
