-- A call's outcome, and what a call and a run leave of an open transaction.
use mathlib.Core.Path.{◌≡◌, refl, sym, ◌∙◌, ap}
use mathlib.Core.Bool.{Bool, true, false, cond, ◌&&◌, ◌||◌, false≢true, and-eq-true_iff, or_assoc, or-false}
use mathlib.Core.List.{[], ◌∷◌}
use mathlib.Core.Option.{Option, none, some}
use Prim.Native.Nat.{ℕ}
use Rattle.rules.specs.Path.{domain_of}
use Rattle.rules.specs.Layout.{Transaction}
use Rattle.rules.specs.Sound.{known}
use Rattle.rules.specs.World.{World, Outcome}
use Rattle.rules.specs.Call.{type_of, tx_of, payload_of, is_handled, frame_verdict, outcome_of, outcome}
use Rattle.laws.specs.History.{Call, History, request_of, served, after, run, changed_as, changes, any_change, altered_as, alters_copy}
use Rattle.laws.specs.History.{any_alteration, transaction_at, is_open, stays_open}
use Rattle.rules.proofs.GoodRequests.{ParsedGood}
use Rattle.rules.proofs.Parsing.{parse-good}
use Rattle.rules.proofs.Places.{nothing, some_is}
use Rattle.laws.proofs.Kept.{Effect, has_change, Kept, kept-all}
use Rattle.laws.proofs.Step.{Step, opens_as, effect_as, outcome_step}

-- what a served call's outcome is
pub served_is : (w : World) (c : Call) (o : Outcome) → served w c ≡ some o → outcome_of w c.sender (tx_of c.message) (request_of c) ≡ o
unfolding served outcome request_of
served_is w c o = go (known (domain_of c.sender) w.domains && is_handled (frame_verdict c.message))
  where
    go : (b : Bool) → cond b (some (outcome w c.sender c.message)) none ≡ some o → outcome w c.sender c.message ≡ o
    go true e = some_is e
    go false e = absurd (nothing e)

-- a served call's sender is known
pub served-known : (w : World) (c : Call) (o : Outcome) → served w c ≡ some o → known (domain_of c.sender) w.domains ≡ true
unfolding served
served-known w c o = go (known (domain_of c.sender) w.domains)
  where
    go : (b : Bool) → cond (b && is_handled (frame_verdict c.message)) (some (outcome w c.sender c.message)) none ≡ some o → b ≡ true
    go true e = refl
    go false e = absurd (nothing e)

-- what a call asks for is a good request
pub request-good : (c : Call) → ParsedGood c.sender (request_of c)
unfolding request_of
request-good c = parse-good c.sender (type_of c.message) (tx_of c.message) (payload_of c.message)

-- a call's effect on the open transactions: none where it is turned away
abbrev pub effect_of : World → Call → Effect
effect_of w c =
    record {
      changes = changes w c;
      alters = λ k. alters_copy w k c;
      opens = elim (served w c)
          [ none ↦ false | some o ↦ opens_as w (tx_of c.message) (request_of c) ];
    }

-- a call as a step
pub call_step : (w : World) (c : Call) (o : Outcome) → served w c ≡ some o →
    Step w (tx_of c.message) (effect_as w (tx_of c.message) o.reply (request_of c)) o
call_step w c o e = rw (served_is w c o e) at (outcome_step w (tx_of c.message) c.sender (request_of c))

pub call_kept : (w : World) (c : Call) → Kept (effect_of w c) w.transactions (after w c).transactions
unfolding changes alters_copy after
call_kept w c = go (served w c) refl
  where
    go : (m : Option Outcome) → served w c ≡ m
        → Kept (record {
          changes = elim m [ none ↦ false | some o ↦ changed_as w (tx_of c.message) o.reply (request_of c) ];
          alters = λ k. elim m [ none ↦ false | some o ↦ altered_as w k (tx_of c.message) o.reply (request_of c) ];
          opens = elim m [ none ↦ false | some o ↦ opens_as w (tx_of c.message) (request_of c) ];
        }) w.transactions (elim m as (λ m. World) [ none ↦ w | some o ↦ o.world ]).transactions
    go none e = kept-all _
    go (some o) e = (call_step w c o e).kept

pub open_at : (w : World) (k : ℕ) → is_open w k ≡ true → (x : Transaction) × (transaction_at w k ≡ some x)
unfolding is_open
open_at w k = go (transaction_at w k)
  where
    go : (m : Option Transaction) → (elim m [ none ↦ false | some x ↦ true ]) ≡ true → (x : Transaction) × (m ≡ some x)
    go none e = absurd (false≢true e)
    go (some x) e = (x, refl)

pub is_open_lem : (w : World) (k : ℕ) (x : Transaction) → transaction_at w k ≡ some x → is_open w k ≡ true
unfolding is_open
is_open_lem w k x e = rw (e, is_open)

-- transaction k after a run through which it stayed open
pub record RunKept (w : World) (k : ℕ) (cs : History) (x : Transaction) : Type 0 where
  pub left : Transaction
  pub there : transaction_at (run w cs) k ≡ some left
  pub holder : left.holder ≡ x.holder
  pub stale : left.stale ≡ (x.stale || any_change w cs)
  pub change : has_change left ≡ (has_change x || any_alteration w k cs)

pub run-kept : (w : World) (k : ℕ) (cs : History) (x : Transaction) → transaction_at w k ≡ some x → stays_open w k cs ≡ true → RunKept w k cs x
unfolding run any_change any_alteration stays_open transaction_at
run-kept w k [] x e h = record { left = x; there = e; holder = refl; stale = sym (or-false _); change = sym (or-false _) }
run-kept w k (c ∷ cs) x e h =
    let parts = (and-eq-true_iff _ _).0 h in
    let next = open_at (after w c) k parts.0 in
    let one = (call_kept w c).at k x next.0 e next.1 in
    let rest = run-kept (after w c) k cs next.0 next.1 parts.1 in
    record {
      left = rest.left;
      there = rest.there;
      holder = rest.holder ∙ one.holder;
      stale = rest.stale ∙ (ap (λ b. b || any_change (after w c) cs) one.stale ∙ or_assoc x.stale _ _);
      change = rest.change ∙ (ap (λ b. b || any_alteration (after w c) k cs) one.change ∙ or_assoc (has_change x) _ _);
    }
