-- Heard: each node that a request creates is heard, and the records of every call fit their buffer.
use Rattle.std.specs.Prelude.{◌≡◌, Bool, true, false, cond, ℕ, ◌*◌, ◌≤◌, ◌<◌, length, get_or, eqb}
use mathlib.Core.List.{List, [], ◌∷◌, ◌++◌, Memᴰ}
use Rattle.std.proofs.Math.Option.{none, some}
use Rattle.rules.specs.Size.{deepest, most_changes, most_records}
use Rattle.rules.specs.Octets.{Octets}
use Rattle.rules.specs.Path.{Connection, domain_of, Names, all_names, path_text}
use Rattle.rules.specs.Node.{Table}
use Rattle.rules.specs.Rights.{readable}
use Rattle.rules.specs.Payload.{Ask, directory, read, get_perms, write, mkdir, rm, set_perms, path, Request, ask, watch, unwatch, start, end, introduce}
use Rattle.rules.specs.Payload.{release, domain_path, is_introduced, reset, Parsed, unknown, invalid, request}
use Rattle.rules.specs.Event.{Watch, Record, deep_enough}
use Rattle.rules.specs.World.{World, Outcome, fresh_world}
use Rattle.rules.specs.Call.{Tables, Lendable, tx_of, world_of, request_call}
use Rattle.laws.specs.History.{Call, History, request_of, served, run, succeeds, is_there}

-- ── created nodes ──

-- the requests that create a path which is not there
unfoldable pub creates : Ask → Bool
creates directory = false
creates read = false
creates get_perms = false
creates (write v) = true
creates mkdir = true
creates rm = false
creates (set_perms o es) = false

-- call c is a WRITE or MKDIR of the path ns outside transactions, and succeeds
pub record Creates (w : World) (c : Call) (ns : Names) (o : Outcome) : Type 0 where
  pub kind : Ask
  pub creating : creates kind ≡ true
  pub asked : request_of c ≡ request (ask kind ns)
  pub plain : tx_of c.message ≡ 0
  pub served : served w c ≡ some o
  pub done : succeeds o.reply ≡ true

-- a watch at or above the path p, within its depth, whose owner may read p in the table t
pub record Attends (t : Table) (v : Watch) (p : Names) : Type 0 where
  pub relative : Bool
  pub own : Names
  pub rest : Names
  pub place : v.place ≡ path relative own
  pub below : p ≡ own ++ rest
  pub deep : deep_enough v.depth (length rest) ≡ true
  pub reads : readable t (domain_of v.owner) p ≡ true

-- one of these records tells the watch in place i of the path p
pub record Tells (p : Names) (i : ℕ) (rs : List Record) : Type 0 where
  pub told : Record
  pub among : Memᴰ told rs
  pub path : told.path ≡ path_text p
  pub marked : get_or told.mask i false ≡ true

-- the records' paths stand in the order of their length, and all are longer than n
abbrev pub Lengthening : ℕ → List Record → Type 0
Lengthening n [] = Unit {0}
Lengthening n (r ∷ rs) = (n < length r.path) × Lengthening (length r.path) rs

-- After any history a plain WRITE or MKDIR that succeeds tells of each path that is there after it and was not before:
-- every watch on it or above within its depth, whose owner may read it afterwards. The topmost path is told of first.
abbrev pub CreatedIsHeard : Type 0
CreatedIsHeard =
    (cs : History) (c : Call) (ns : Names) (o : Outcome) → let w = run fresh_world cs in Creates w c ns o →
    ((p : Names) → all_names p ≡ true → is_there w.nodes p ≡ false → is_there o.world.nodes p ≡ true →
    (i : ℕ) (v : Watch) → get_or w.watches i none ≡ some v → Attends o.world.nodes v p → Tells p i o.records)
    × Lengthening 0 o.records

-- ── how many records ──

-- the most records that a request makes
unfoldable pub most_heard : ℕ → Request → ℕ
most_heard tx (ask a ns) = cond (eqb tx 0) deepest 0
most_heard tx (watch p t depth) = 1
most_heard tx (unwatch p t) = 0
most_heard tx start = 0
most_heard tx (end commit) = most_changes * deepest
most_heard tx (introduce d page channel) = 1
most_heard tx (release d) = most_records
most_heard tx (domain_path d) = 0
most_heard tx (is_introduced d) = 0
most_heard tx reset = 0

unfoldable pub most_heard_as : ℕ → Parsed → ℕ
most_heard_as tx unknown = 0
most_heard_as tx invalid = 0
most_heard_as tx (request q) = most_heard tx q

-- On sound tables a plain node request makes at most 8 records, a commit at most 64 and a RELEASE at most 128.
abbrev pub RecordsFit : Type 0
RecordsFit =
    (t : Tables) (c : Call) (o : Outcome) → Lendable t → served (world_of t) c ≡ some o
    → length o.records ≤ most_heard_as (tx_of c.message) (request_of c)

-- So no call makes more records than the buffer has room for.
abbrev pub RoomForRecords : Type 0
RoomForRecords =
    (t : Tables) (reply events : Octets) (c : Connection) (m : Octets) → Lendable t → (request_call t reply events c m).event_count ≤ most_records
