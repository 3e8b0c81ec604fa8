-- EAGAIN, exactly: the proofs.
use mathlib.Core.Path.{◌≡◌, refl, sym, ◌∙◌, ap}
use mathlib.Core.Logic.{◌↔◌}
use mathlib.Core.Bool.{Bool, true, false, cond, false≢true, and-eq-true_iff, or-true}
use mathlib.Core.List.{[], ◌∷◌, ◌++◌}
use mathlib.Core.Option.{Option, none, some}
use Prim.Native.Nat.{ℕ, suc, ◌-◌}
use native.Mathlib.Decide.{ℕ_discrete}
use lib.ListN.{set, length}
use lib.Seq.{get_or-set_other}
use lib.Dec.{ltb}
use borrow.Author.Tests.{eq-eqb}
use Rattle.rules.specs.Octets.{nul, decimal}
use Rattle.rules.specs.Size.{most_transactions}
use Rattle.rules.specs.Entries.{is_empty, lowest}
use Rattle.rules.specs.Path.{Connection}
use Rattle.rules.specs.Payload.{start, request}
use Rattle.rules.specs.Answer.{EAGAIN, Reply, done, refused, OK}
use Rattle.rules.specs.Layout.{Transaction, opened}
use Rattle.rules.specs.World.{World, Outcome, fresh_world, left, to, transaction_of, starting, closing}
use Rattle.rules.specs.World.{committing, ending, handle, with_copy, with_transactions}
use Rattle.rules.specs.Call.{tx_of, outcome_of}
use Rattle.laws.specs.History.{Call, History, request_of, served, after, run, changes, any_change, transaction_at, is_open, stays_open}
use Rattle.laws.specs.Eagain.{Opens, Commits, EagainExactly, UndisturbedCommits, ChangedAndBackCounts, StartAnswersItsNumber, RecordedExactly}
use Rattle.laws.specs.Eagain.{Started, OpenSinceStart}
use Rattle.rules.proofs.Places.{some_is, none_at, at_set}
use Rattle.rules.proofs.Cases.{cond_case}
use Rattle.laws.proofs.Step.{recorded_is, opens_as, opens-start}
use Rattle.laws.proofs.Calls.{served_is, effect_of, call_kept, open_at, is_open_lem, RunKept, run-kept}

-- ── START ──

-- an outcome that opens transaction k gives it to its sender, not stale, and answers its number
abbrev Begun : World → Connection → ℕ → Outcome → Type 0
Begun w c k o =
    is_open w k ≡ false → is_open o.world k ≡ true
    → (transaction_at o.world k ≡ some (opened c)) × (o.reply ≡ done (decimal (suc k) ++ nul))

started : (w : World) (c : Connection) (k : ℕ) → Begun w c k (starting w c)
unfolding starting left to transaction_at
started w c k =
    cond_case (Begun w c k) (ltb (lowest w.transactions) (length w.transactions)) _ _ (λ p q. go (ℕ_discrete k (lowest w.transactions)) p q)
    (λ p q. absurd (false≢true (sym p ∙ q)))
  where
    o : Outcome
    o =
        to w (done (decimal (suc (lowest w.transactions)) ++ nul))
        (with_transactions (with_copy w (lowest w.transactions) w.nodes) (set w.transactions (lowest w.transactions) (some (opened c))))
        []

    go : Dec (k ≡ lowest w.transactions) → Begun w c k o
    go (yes r) p q =
        let x = open_at o.world k q in
        (x.1 ∙ sym (at_set w.transactions _ k _ x.0 r x.1), ap (λ j. done (decimal (suc j) ++ nul)) (sym r))
    go (no r) p q =
        let x = open_at o.world k q in
        absurd (false≢true (sym p ∙ is_open_lem w k x.0 (sym (get_or-set_other w.transactions _ k _ none r) ∙ x.1)))

-- the outcome of a START
starting_is : (w : World) (c : Call) (o : Outcome) → request_of c ≡ request start → served w c ≡ some o → starting w c.sender ≡ o
unfolding outcome_of handle
starting_is w c o r e = rw (r, outcome_of) at (served_is w c o e)

-- a call that opens transaction k was served
opening : (w : World) (k : ℕ) (c : Call) → Opens w k c → (o : Outcome) × (served w c ≡ some o) × (after w c ≡ o.world)
unfolding after
opening w k c a = go (served w c) refl a.closed a.opened
  where
    go : (m : Option Outcome) → served w c ≡ m → is_open w k ≡ false → is_open (elim m [ none ↦ w | some o ↦ o.world ]) k ≡ true
        → (o : Outcome) × (served w c ≡ some o) × ((elim (served w c) as (λ m. World) [ none ↦ w | some o ↦ o.world ]) ≡ o.world)
    go none e p q = absurd (false≢true (sym p ∙ q))
    go (some o) e p q = (o, e, rw e)

begun : (w : World) (k : ℕ) (c : Call) (o : Outcome) → Opens w k c → served w c ≡ some o → Begun w c.sender k o
begun w k c o a e = rw (starting_is w c o a.asked e) at (started w c.sender k)

-- ── END ──

-- END with T by the holder of transaction k is EAGAIN exactly if it is stale, and else OK
ended : (w : World) (c : Connection) (k : ℕ) (x : Transaction) → transaction_at w k ≡ some x → c ≡ x.holder
    → (ending w c (suc k) true).reply ≡ cond x.stale (refused EAGAIN) OK
unfolding ending closing committing to transaction_at transaction_of
ended w c k x e h = rw (found, ending) (by x.stale)
  where
    found : transaction_of w c (suc k) ≡ some x
    found = rw (e, transaction_of, eq-eqb c x.holder h)

    by : (b : Bool) → (cond b (closing w (suc k - 1) (refused EAGAIN)) (committing w (suc k - 1) x)).reply ≡ cond b (refused EAGAIN) OK
    by true = refl
    by false = refl

ending_is : (w : World) (k : ℕ) (first last : Call) (o : Outcome) → Commits w k first last o → ending w first.sender (suc k) true ≡ o
unfolding outcome_of handle
ending_is w k first last o b = rw (b.asked, b.number, b.sender, outcome_of) at (served_is w last o b.answered)

-- ── the laws ──

-- a transaction since its START
abbrev entry : Call → Transaction
entry first = opened first.sender

since_start : (w : World) (k : ℕ) (first : Call) (cs : History) → Opens w k first → stays_open (after w first) k cs ≡ true →
    RunKept (after w first) k cs (entry first)
since_start w k first cs a s =
    let f = opening w k first a in
    let x = (begun w k first f.0 a f.1 a.closed (rw f.2 at a.opened)).0 in
    run-kept (after w first) k cs (entry first) (rw f.2 x) s

-- a commit's reply by what ran since its START
commit_reply : (w : World) (k : ℕ) (first last : Call) (cs : History) (o : Outcome) → Opens w k first
    → stays_open (after w first) k cs ≡ true → Commits (run (after w first) cs) k first last o
    → o.reply ≡ cond (any_change (after w first) cs) (refused EAGAIN) OK
commit_reply w k first last cs o a s b =
    let y = since_start w k first cs a s in
    ap Outcome.reply (sym (ending_is _ k first last o b)) ∙ (ended _ first.sender k y.left y.there (sym y.holder)
    ∙ ap (λ b. cond b (refused EAGAIN) OK) y.stale)

is-EAGAIN : (b : Bool) (r : Reply) → r ≡ cond b (refused EAGAIN) OK → (r ≡ refused EAGAIN) ↔ (b ≡ true)
unfolding OK
is-EAGAIN true r e = (λ p. refl, λ p. e)
is-EAGAIN false r e = (λ p. cc, λ p. absurd (false≢true p))

pub eagain_exactly : EagainExactly
eagain_exactly w k first last cs o a s b = is-EAGAIN _ _ (commit_reply w k first last cs o a s b)

pub undisturbed_commits : UndisturbedCommits
undisturbed_commits w k first last cs o a s b n = rw n at (commit_reply w k first last cs o a s b)

-- a change anywhere in a history
changed-within : (w : World) (before later : History) (c : Call) → changes (run w before) c ≡ true → any_change w (before ++ c ∷ later) ≡ true
unfolding any_change run
changed-within w [] later c e = rw e
changed-within w (b ∷ before) later c e = rw (changed-within (after w b) before later c e) (or-true (changes w b))

pub changed_and_back_counts : ChangedAndBackCounts
changed_and_back_counts w k first last change before later o a s b e =
    (eagain_exactly w k first last (before ++ change ∷ later) o a s b).1 (changed-within _ before later change e)

pub start_answers_its_number : StartAnswersItsNumber
start_answers_its_number w k c o a e =
    let f = opening w k c a in
    (begun w k c o a e a.closed (rw (f.2 ∙ ap Outcome.world (some_is (sym f.1 ∙ e))) at a.opened)).1

-- ── what a commit changes ──

pub recorded_exactly : RecordedExactly
unfolding transaction_at is_empty
recorded_exactly w k first cs a s = let y = since_start w k first cs a s in recorded_is (run (after w first) cs) 0 k y.left y.there ∙ y.change

-- a call after which transaction k is open, where it was not, is the START that opens it
opening_call : (w : World) (k : ℕ) (c : Call) → is_open w k ≡ false → is_open (after w c) k ≡ true → Opens w k c
unfolding transaction_at
opening_call w k c p q = record { asked = go (effect_of w c).opens refl; closed = p; opened = q }
  where
    start-asked : (m : Option Outcome) → (elim m [ none ↦ false | some o ↦ opens_as w (tx_of c.message) (request_of c) ]) ≡ true → request_of c ≡ request start
    start-asked none e = absurd (false≢true e)
    start-asked (some o) e = opens-start w (tx_of c.message) (request_of c) e

    go : (b : Bool) → (effect_of w c).opens ≡ b → request_of c ≡ request start
    go true e = start-asked (served w c) e
    go false e =
        let y = open_at (after w c) k q in
        let x = (call_kept w c).from e k y.0 y.1 in
        absurd (false≢true (sym p ∙ is_open_lem w k x.0 x.1))

-- by cases: transaction k was open before the run and stayed so, or it has a START in it
open_cases : (P : Type 0) (w : World) (k : ℕ) (cs : History) → is_open (run w cs) k ≡ true
    → (is_open w k ≡ true → stays_open w k cs ≡ true → P) → (Started w k cs → P) → P
unfolding run stays_open
open_cases P w k [] e stayed begun = stayed e refl
open_cases P w k (c ∷ cs) e stayed begun =
    open_cases P (after w c) k cs e (go (is_open w k) refl)
    (λ s. begun (record {
      before = c ∷ s.before;
      first = s.first;
      later = s.later;
      parts = ap (λ cs. c ∷ cs) s.parts;
      opens = s.opens;
      stays = s.stays;
    }))
  where
    go : (b : Bool) → is_open w k ≡ b → is_open (after w c) k ≡ true → stays_open (after w c) k cs ≡ true → P
    go true p o s = stayed p ((and-eq-true_iff _ _).1 (o, s))
    go false p o s = begun (record { before = []; first = c; later = cs; parts = refl; opens = opening_call w k c p o; stays = s })

pub open_since_start : OpenSinceStart
unfolding is_open transaction_at fresh_world
open_since_start cs k e = open_cases (Started fresh_world k cs) fresh_world k cs e (λ o s. absurd (false≢true (sym (rw (none_at most_transactions k)) ∙ o)))
    (λ s. s)
