-- Histories: lists of calls, what a run of them leaves, and which of them changed the store.
use Rattle.std.specs.Prelude.{Bool, true, false, cond, not, ◌&&◌, ◌||◌, List, [], ◌∷◌, ℕ, suc, ◌-◌, get_or, eqb}
use Rattle.std.proofs.Math.Option.{Option, none, some}
use Rattle.rules.specs.Octets.{Octets}
use Rattle.rules.specs.Entries.{is_empty}
use Rattle.rules.specs.Path.{Connection, domain_of, Names}
use Rattle.rules.specs.Node.{Table, reach, owned_by}
use Rattle.rules.specs.Payload.{Ask, directory, read, get_perms, write, mkdir, rm, set_perms, Request, ask, watch, unwatch, start, end, introduce}
use Rattle.rules.specs.Payload.{release, domain_path, is_introduced, reset, Parsed, unknown, invalid, request, parse}
use Rattle.rules.specs.Answer.{Reply, done, refused}
use Rattle.rules.specs.Layout.{Transaction}
use Rattle.rules.specs.Sound.{known}
use Rattle.rules.specs.World.{World, Outcome, copy_of}
use Rattle.rules.specs.Call.{type_of, tx_of, payload_of, frame_verdict, is_handled, outcome}

-- a message and the connection that sent it
pub record Call : Type 0 where
  pub sender : Connection
  pub message : Octets

abbrev pub History : Type 0
History = List Call

-- ── running ──

-- what a call asks for
unfoldable pub request_of : Call → Parsed
request_of c = parse c.sender (type_of c.message) (tx_of c.message) (payload_of c.message)

-- a call is turned away where its sender isn't known or its frame is broken
unfoldable pub served : World → Call → Option Outcome
served w c =
    let o = outcome w c.sender c.message in
    cond (known (domain_of c.sender) w.domains && is_handled (frame_verdict c.message)) (some o) none

unfoldable pub after : World → Call → World
after w c = elim (served w c) [ none ↦ w | some o ↦ o.world ]

unfoldable pub run : World → History → World
run w [] = w
run w (c ∷ cs) = run (after w c) cs

-- ── changes ──

unfoldable pub succeeds : Reply → Bool
succeeds (done s) = true
succeeds (refused e) = false

unfoldable pub is_there : Table → Names → Bool
is_there t ns = is_empty (reach t ns).left

-- an answered node request that changes the table: a WRITE or SET_PERMS, a MKDIR that creates, an RM that removes
unfoldable pub alters : Table → Names → Reply → Ask → Bool
alters t ns r directory = false
alters t ns r read = false
alters t ns r get_perms = false
alters t ns r (write v) = succeeds r
alters t ns r mkdir = succeeds r && not (is_there t ns)
alters t ns r rm = succeeds r && is_there t ns
alters t ns r (set_perms o es) = succeeds r

-- transaction k has recorded a change
unfoldable pub recorded : World → ℕ → Bool
recorded w k = elim (get_or w.transactions k none) [ none ↦ false | some x ↦ not (is_empty x.changes) ]

-- a request, by its reply, that changes the store from outside transactions, or commits a change
unfoldable pub changed_by : World → ℕ → Reply → Request → Bool
changed_by w tx r (ask a ns) = eqb tx 0 && alters w.nodes ns r a
changed_by w tx r (watch p t depth) = false
changed_by w tx r (unwatch p t) = false
changed_by w tx r start = false
changed_by w tx r (end commit) = commit && (succeeds r && recorded w (tx - 1))
changed_by w tx r (introduce d page channel) = false
changed_by w tx r (release d) = succeeds r && not (is_empty (owned_by w.nodes d))
changed_by w tx r (domain_path d) = false
changed_by w tx r (is_introduced d) = false
changed_by w tx r reset = false

unfoldable pub changed_as : World → ℕ → Reply → Parsed → Bool
changed_as w tx r unknown = false
changed_as w tx r invalid = false
changed_as w tx r (request q) = changed_by w tx r q

-- what 01 calls a change, of a call and its reply
unfoldable pub changes : World → Call → Bool
changes w c = elim (served w c) [ none ↦ false | some o ↦ changed_as w (tx_of c.message) o.reply (request_of c) ]

-- some call of the history changes the store
unfoldable pub any_change : World → History → Bool
any_change w [] = false
any_change w (c ∷ cs) = changes w c || any_change (after w c) cs

-- ── transactions ──

-- transaction k, as START numbers it less one, if it is open
unfoldable pub transaction_at : World → ℕ → Option Transaction
transaction_at w k = get_or w.transactions k none

unfoldable pub is_open : World → ℕ → Bool
is_open w k = elim (transaction_at w k) [ none ↦ false | some x ↦ true ]

-- transaction k is open after each call
unfoldable pub stays_open : World → ℕ → History → Bool
stays_open w k [] = true
stays_open w k (c ∷ cs) = is_open (after w c) k && stays_open (after w c) k cs

-- ── requests in a transaction ──

-- a request in transaction k, by its reply, that changes the transaction's copy
unfoldable pub altered_by : World → ℕ → ℕ → Reply → Request → Bool
altered_by w k tx r (ask a ns) = eqb tx (suc k) && alters (copy_of w k) ns r a
altered_by w k tx r (watch p t depth) = false
altered_by w k tx r (unwatch p t) = false
altered_by w k tx r start = false
altered_by w k tx r (end commit) = false
altered_by w k tx r (introduce d page channel) = false
altered_by w k tx r (release d) = false
altered_by w k tx r (domain_path d) = false
altered_by w k tx r (is_introduced d) = false
altered_by w k tx r reset = false

unfoldable pub altered_as : World → ℕ → ℕ → Reply → Parsed → Bool
altered_as w k tx r unknown = false
altered_as w k tx r invalid = false
altered_as w k tx r (request q) = altered_by w k tx r q

unfoldable pub alters_copy : World → ℕ → Call → Bool
alters_copy w k c = elim (served w c) [ none ↦ false | some o ↦ altered_as w k (tx_of c.message) o.reply (request_of c) ]

-- some call of the history is a request in transaction k that changes its copy
unfoldable pub any_alteration : World → ℕ → History → Bool
any_alteration w k [] = false
any_alteration w k (c ∷ cs) = alters_copy w k c || any_alteration (after w c) k cs
