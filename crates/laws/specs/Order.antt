-- One order: the single requests that a history comes to, and what a run of them answers.
use Rattle.std.specs.Prelude.{◌≡◌, Bool, false, cond, not, ◌&&◌, List, [], ◌∷◌, ◌++◌, ℕ, ◌-◌, length, get_or, set, replicate, eqb, ltb}
use Rattle.std.proofs.Math.Option.{Option, none, some}
use Rattle.rules.specs.Size.{most_transactions, most_changes}
use Rattle.rules.specs.Entries.{lowest}
use Rattle.rules.specs.Path.{Domain, Connection, domain_of, Names}
use Rattle.rules.specs.Node.{Table, fresh_table, owned_by, without_all}
use Rattle.rules.specs.Payload.{Ask, Request, ask, watch, unwatch, start, end, introduce, release, domain_path, is_introduced, reset, Parsed, unknown}
use Rattle.rules.specs.Payload.{invalid, request}
use Rattle.rules.specs.Answer.{Reply, Change, answer}
use Rattle.rules.specs.Layout.{Transaction}
use Rattle.rules.specs.World.{World, fresh_world, transaction_of, copy_of}
use Rattle.rules.specs.Call.{tx_of}
use Rattle.laws.specs.History.{Call, History, request_of, served, after, run, succeeds}

-- a domain's node request with the reply that it got, or the release of a domain
pub data Single : Type 0 where
  node : Domain → Ask → Names → Reply → Single
  released : Domain → Single

-- ── running singles one after the other, each by itself ──

-- the table after one single
unfoldable pub then : Table → Single → Table
then t (node d a ns r) = (answer d a ns t).table
then t (released d) = without_all t (owned_by t d)

unfoldable pub replay : Table → List Single → Table
replay t [] = t
replay t (s ∷ ss) = replay (then t s) ss

-- the single is answered so on the table
abbrev pub Answered : Table → Single → Type 0
Answered t (node d a ns r) = (answer d a ns t).reply ≡ r
Answered t (released d) = Unit {0}

-- each single is answered so in its turn
abbrev pub Agrees : Table → List Single → Type 0
Agrees t [] = Unit {0}
Agrees t (s ∷ ss) = Answered t s × Agrees (then t s) ss

-- ── the order of a history ──

-- what each transaction has asked so far, by its place
abbrev pub Logs : Type 0
Logs = List (List Single)

-- a change that the transaction has no room for
unfoldable pub is_ninth : Transaction → Option Change → Bool
is_ninth x none = false
is_ninth x (some c) = not (ltb (length x.changes) most_changes)

module _ (w : World) (logs : Logs) (c : Connection) (tx : ℕ) (r : Reply) where
  -- what a request adds to the order: itself if it is plain, a committed transaction's requests at its END
  unfoldable pub added_by : Request → List Single
  added_by (ask a ns) = cond (eqb tx 0) (node (domain_of c) a ns r ∷ []) []
  added_by (watch p t depth) = []
  added_by (unwatch p t) = []
  added_by start = []
  added_by (end commit) = cond (commit && succeeds r) (get_or logs (tx - 1) []) []
  added_by (introduce d page channel) = []
  added_by (release d) = cond (succeeds r) (released d ∷ []) []
  added_by (domain_path d) = []
  added_by (is_introduced d) = []
  added_by reset = []

  -- what a request adds to its transaction's log; a ninth change is left out
  unfoldable pub noted : Ask → Names → Transaction → Logs
  noted a ns x =
      cond (is_ninth x (answer (domain_of c) a ns (copy_of w (tx - 1))).change) logs
      (set logs (tx - 1) (get_or logs (tx - 1) [] ++ (node (domain_of c) a ns r ∷ [])))

  unfoldable pub logged_by : Request → Logs
  logged_by (ask a ns) = elim (transaction_of w c tx) [ none ↦ logs | some x ↦ noted a ns x ]
  logged_by (watch p t depth) = logs
  logged_by (unwatch p t) = logs
  logged_by start = cond (succeeds r) (set logs (lowest w.transactions) []) logs
  logged_by (end commit) = logs
  logged_by (introduce d page channel) = logs
  logged_by (release d) = logs
  logged_by (domain_path d) = logs
  logged_by (is_introduced d) = logs
  logged_by reset = logs

  unfoldable pub added_as : Parsed → List Single
  added_as unknown = []
  added_as invalid = []
  added_as (request q) = added_by q

  unfoldable pub logged_as : Parsed → Logs
  logged_as unknown = logs
  logged_as invalid = logs
  logged_as (request q) = logged_by q

unfoldable pub added : World → Logs → Call → List Single
added w logs c = elim (served w c) [ none ↦ [] | some o ↦ added_as w logs c.sender (tx_of c.message) o.reply (request_of c) ]

unfoldable pub logged : World → Logs → Call → Logs
logged w logs c = elim (served w c) [ none ↦ logs | some o ↦ logged_as w logs c.sender (tx_of c.message) o.reply (request_of c) ]

unfoldable pub order_from : World → Logs → History → List Single
order_from w logs [] = []
order_from w logs (c ∷ cs) = added w logs c ++ order_from (after w c) (logged w logs c) cs

-- plain requests and releases at their place, a committed transaction's requests together at its END, other transactions' not at all
unfoldable pub order : History → List Single
order cs = order_from fresh_world (replicate most_transactions []) cs

-- Every history comes to one order of single requests: run one after the other from the fresh table, each by itself, they give the store that the history left.
-- And each of them, read or change, was answered in the history as it is answered in that run.
abbrev pub OneOrder : Type 0
OneOrder = (cs : History) → (replay fresh_table (order cs) ≡ (run fresh_world cs).nodes) × Agrees fresh_table (order cs)
