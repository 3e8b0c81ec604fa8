-- EAGAIN, exactly: when the commit of a transaction is sent back.
use Rattle.std.specs.Prelude.{◌≡◌, ◌↔◌, true, false, ◌∷◌, ◌++◌, ℕ, suc}
use Rattle.std.proofs.Math.Option.{some}
use Rattle.rules.specs.Octets.{nul, decimal}
use Rattle.rules.specs.Payload.{start, end, request}
use Rattle.rules.specs.Answer.{EAGAIN, done, refused, OK}
use Rattle.rules.specs.World.{World, Outcome, fresh_world}
use Rattle.rules.specs.Call.{tx_of}
use Rattle.laws.specs.History.{Call, History, request_of, served, after, run, recorded, changes, any_change, any_alteration, is_open, stays_open}

-- a START that opens transaction k
pub record Opens (w : World) (k : ℕ) (c : Call) : Type 0 where
  pub asked : request_of c ≡ request start
  pub closed : is_open w k ≡ false
  pub opened : is_open (after w c) k ≡ true

-- an END with T for transaction k by the sender of its START, and its outcome
pub record Commits (w : World) (k : ℕ) (first last : Call) (o : Outcome) : Type 0 where
  pub sender : last.sender ≡ first.sender
  pub asked : request_of last ≡ request (end true)
  pub number : tx_of last.message ≡ suc k
  pub answered : served w last ≡ some o

-- A commit is sent back with EAGAIN exactly if some call between its START and its END changed the store, whoever made it.
-- A change counts even if a later one put the old value back.
abbrev pub EagainExactly : Type 0
EagainExactly =
    (w : World) (k : ℕ) (first last : Call) (cs : History) (o : Outcome) → Opens w k first
    → stays_open (after w first) k cs ≡ true → Commits (run (after w first) cs) k first last o
    → (o.reply ≡ refused EAGAIN) ↔ (any_change (after w first) cs ≡ true)

-- A commit that nothing disturbed is never sent back: it is answered OK.
abbrev pub UndisturbedCommits : Type 0
UndisturbedCommits =
    (w : World) (k : ℕ) (first last : Call) (cs : History) (o : Outcome) → Opens w k first
    → stays_open (after w first) k cs ≡ true → Commits (run (after w first) cs) k first last o
    → any_change (after w first) cs ≡ false → o.reply ≡ OK

-- One change between START and END is enough, whatever the calls after it did: a value that changed and came back still counts.
abbrev pub ChangedAndBackCounts : Type 0
ChangedAndBackCounts =
    (w : World) (k : ℕ) (first last change : Call) (before later : History) (o : Outcome) → Opens w k first
    → stays_open (after w first) k (before ++ change ∷ later) ≡ true → Commits (run (after w first) (before ++ change ∷ later)) k first last o
    → changes (run (after w first) before) change ≡ true → o.reply ≡ refused EAGAIN

-- A START answers the number of the transaction that it opens.
abbrev pub StartAnswersItsNumber : Type 0
StartAnswersItsNumber =
    (w : World) (k : ℕ) (c : Call) (o : Outcome) → Opens w k c → served w c ≡ some o
    → o.reply ≡ done (decimal (suc k) ++ nul)

-- ── what a commit changes ──

-- A transaction has recorded a change exactly if, since its START, one of its requests changed its copy: so `changes` counts just the commits that bring a
-- change.
abbrev pub RecordedExactly : Type 0
RecordedExactly =
    (w : World) (k : ℕ) (first : Call) (cs : History) → Opens w k first → stays_open (after w first) k cs ≡ true
    → recorded (run (after w first) cs) k ≡ any_alteration (after w first) k cs

-- the START of transaction k in a history, since which it stayed open
pub record Started (w : World) (k : ℕ) (cs : History) : Type 0 where
  pub before : History
  pub first : Call
  pub later : History
  pub parts : cs ≡ before ++ first ∷ later
  pub opens : Opens (run w before) k first
  pub stays : stays_open (after (run w before) first) k later ≡ true

-- From the fresh store each transaction that is open has a START since which it stayed open.
abbrev pub OpenSinceStart : Type 0
OpenSinceStart = (cs : History) (k : ℕ) → is_open (run fresh_world cs) k ≡ true → Started fresh_world k cs
