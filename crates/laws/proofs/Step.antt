-- One request, whatever it is: what it leaves of the open transactions, and what a refusal leaves of the world.
use mathlib.Core.Path.{◌≡◌, refl, sym, ◌∙◌, ap}
use mathlib.Core.Bool.{Bool, true, false, cond, not, ◌&&◌, or-false, or-true, and-false, false≢true}
use mathlib.Core.List.{List, [], ◌∷◌, ◌++◌}
use mathlib.Core.Option.{Option, none, some}
use Prim.Native.Nat.{ℕ, zero, suc, ◌-◌}
use native.Mathlib.Omega.{arith}
use lib.ListN.{get_or, length}
use lib.Dec.{eqb, ltb, leb, eqb-zero-suc, eqb-suc-zero, eqb-suc-suc}
use borrow.Author.Tests.{eqb-true, eq-eqb, ne_eqb}
use Rattle.rules.specs.Size.{most_changes, longest_token}
use Rattle.rules.specs.Octets.{Octets}
use Rattle.rules.specs.Entries.{is_empty, lowest}
use Rattle.rules.specs.Path.{Connection, domain_of, Names, is_control}
use Rattle.rules.specs.Node.{Table, owned_by}
use Rattle.rules.specs.Payload.{Ask, directory, read, get_perms, write, mkdir, rm, set_perms, Place, path, event, Request, ask, watch, unwatch, start}
use Rattle.rules.specs.Payload.{end, introduce, release, domain_path, is_introduced, reset, Parsed, unknown, invalid, request}
use Rattle.rules.specs.Answer.{Errno, EINVAL, EACCES, EEXIST, ENOENT, ENOSPC, E2BIG, EAGAIN, ENOSYS, Reply, done, refused, OK, Change, Answer}
use Rattle.rules.specs.Answer.{unchanged, changed, answer}
use Rattle.rules.specs.Layout.{Transaction, with_change}
use Rattle.rules.specs.Sound.{introduced, watched}
use Rattle.rules.specs.Event.{place_text}
use Rattle.rules.specs.World.{World, Outcome, staled_if, without_transactions, left, to, on_store, transaction_of, in_transaction, copy_of, asked}
use Rattle.rules.specs.World.{place_fits, watching, unwatching, starting, closing, committing, ending, introducing, removal_of, releasing, resetting}
use Rattle.rules.specs.World.{for_control, for_place, handle}
use Rattle.rules.specs.Call.{outcome_of}
use Rattle.rules.proofs.Cases.{cond_case}
use Rattle.laws.specs.History.{succeeds, alters, recorded, changed_by, changed_as, altered_by, altered_as}
use Rattle.rules.proofs.Places.{nothing, some_is, At}
use Rattle.rules.proofs.OpenTransactions.{named, empty_mapped}
use Rattle.laws.proofs.Kept.{Effect, quiet, opening, changing, has_change, Continues, Kept, kept_as, kept-all, kept-without, kept_set}
use Rattle.laws.proofs.Kept.{kept-closed, kept-opened, kept-staled_if}
use Rattle.laws.proofs.Answers.{is_eagain, Shape, stays, alters_to, answer_shape}

-- what an outcome is by its reply: a refusal leaves the world, but EAGAIN closes the transaction
abbrev pub Sent : World → ℕ → Outcome → Reply → Type 0
Sent w tx o (done s) = Unit {0}
Sent w tx o (refused EINVAL) = o ≡ left w (refused EINVAL)
Sent w tx o (refused EACCES) = o ≡ left w (refused EACCES)
Sent w tx o (refused EEXIST) = o ≡ left w (refused EEXIST)
Sent w tx o (refused ENOENT) = o ≡ left w (refused ENOENT)
Sent w tx o (refused ENOSPC) = o ≡ left w (refused ENOSPC)
Sent w tx o (refused E2BIG) = o ≡ left w (refused E2BIG)
Sent w tx o (refused EAGAIN) = o ≡ closing w (tx - 1) (refused EAGAIN)
Sent w tx o (refused ENOSYS) = o ≡ left w (refused ENOSYS)

-- a refused request changes no table
alters-refused : (t : Table) (ns : Names) (e : Errno) (a : Ask) → alters t ns (refused e) a ≡ false
unfolding alters succeeds
alters-refused t ns e directory = refl
alters-refused t ns e read = refl
alters-refused t ns e get_perms = refl
alters-refused t ns e (write v) = refl
alters-refused t ns e mkdir = refl
alters-refused t ns e rm = refl
alters-refused t ns e (set_perms o es) = refl

-- what is asked of one place alone
there-alone : (f : ℕ → Bool) (i j k : ℕ) → i ≡ j → (eqb i k && f i) ≡ (eqb (suc j) (suc k) && f k)
there-alone f i j k h = rw (eqb-suc-suc, h) (go (eqb j k) refl)
  where
    go : (b : Bool) → eqb j k ≡ b → (b && f j) ≡ (b && f k)
    go true e = ap f (eqb-true j k e)
    go false e = refl

module _ (w : World) (tx : ℕ) where
  -- a request with its effect on the open transactions, and its outcome
  pub record Step (f : Effect) (o : Outcome) : Type 0 where
    pub kept : Kept f w.transactions o.world.transactions
    pub sent : Sent w tx o o.reply

  -- the same effect in other words
  step_as : (f g : Effect) (o : Outcome) → f.changes ≡ g.changes → ((k : ℕ) → f.alters k ≡ g.alters k) → (g.opens ≡ false → f.opens ≡ false) → Step f o →
      Step g o
  step_as f g o p q r s = record { kept = kept_as f g _ _ p q r s.kept; sent = s.sent }

  left-sent : (r : Reply) → is_eagain r ≡ false → Sent w tx (left w r) r
  left-sent (done s) e = tt
  left-sent (refused EINVAL) e = refl
  left-sent (refused EACCES) e = refl
  left-sent (refused EEXIST) e = refl
  left-sent (refused ENOENT) e = refl
  left-sent (refused ENOSPC) e = refl
  left-sent (refused E2BIG) e = refl
  left-sent (refused EAGAIN) e = absurd (nothing {A = ℕ} {y = 0} cc)
  left-sent (refused ENOSYS) e = refl

  left_step : (r : Reply) → is_eagain r ≡ false → Step quiet (left w r)
  unfolding left
  left_step r e = record { kept = kept-all _; sent = left-sent r e }

  -- a node request outside transactions
  pub on_store_reply : (a : Answer) → (on_store w a).reply ≡ a.reply
  unfolding on_store left to
  on_store_reply a = go a.change
    where
      go : (m : Option Change) → (on_store w (record { reply = a.reply; table = a.table; change = m })).reply ≡ a.reply
      go none = refl
      go (some c) = refl

  on_store_step : {d : ℕ} {ns : Names} {b : Bool} {a : Answer} → Shape d ns w.nodes b a → Step (changing b) (on_store w a)
  unfolding on_store unchanged changed to OK staled_if is_empty
  on_store_step (stays r e) = left_step r e
  on_store_step (alters_to removal parents after) = record { kept = kept-staled_if true _ _ (kept-all _); sent = tt }

  -- a request in transaction j, which has an effect on its copy alone
  abbrev on_copy : ℕ → Bool → Effect
  on_copy j b = record { changes = false; alters = λ k. eqb j k && b; opens = false }

  stays_on_copy : (j : ℕ) (r : Reply) → is_eagain r ≡ false → Step (on_copy j false) (left w r)
  stays_on_copy j r e = step_as quiet (on_copy j false) _ refl (λ k. sym (and-false (eqb j k))) (λ o. refl) (left_step r e)

  -- one more change in transaction j
  one_more : (j : ℕ) (x x' y : Transaction) (c : Change) → some x ≡ some x'
      → some (with_change x c) ≡ some y → Continues (on_copy j true) j x' y
  unfolding is_empty
  one_more j x x' y c p q =
      let s = sym (some_is q) in
      record {
        holder = ap Transaction.holder s ∙ ap Transaction.holder (some_is p);
        stale = ap Transaction.stale s ∙ (ap Transaction.stale (some_is p) ∙ sym (or-false _));
        change = ap has_change s ∙ (ap not (longer x.changes) ∙ sym (rw (eq-eqb j j refl) (or-true (has_change x'))));
      }
    where
      longer : (cs : List Change) → is_empty (cs ++ (c ∷ [])) ≡ false
      longer [] = refl
      longer (b ∷ cs) = refl

  in_transaction_step : (d : ℕ) (q : Ask) (ns : Names) (t : Table) (j : ℕ) (x : Transaction) → At w.transactions j x
      → let o = in_transaction w j x (answer d q ns t) in Step (on_copy j (alters t ns o.reply q)) o
  unfolding in_transaction unchanged changed left to OK
  in_transaction_step d q ns t j x h = go (answer_shape d q ns t) refl
    where
      go : {b : Bool} {a : Answer} → Shape d ns t b a → b ≡ alters t ns a.reply q →
          let o = in_transaction w j x a in Step (on_copy j (alters t ns o.reply q)) o
      go (stays r e) p = rw (← p) (stays_on_copy j r e)
      go (alters_to removal parents after) p =
          cond_case (λ (o : Outcome). Step (on_copy j (alters t ns o.reply q)) o) (ltb (length x.changes) most_changes) _ _
          (rw (← p) (record {
            kept = kept_set (on_copy j true) _ _ _ refl (λ k r. rw (ne_eqb j k (λ e. r (sym e)))) (λ x' y e f. one_more j x x' y _ (sym h ∙ e) f)
                (λ o y f. (x, h));
            sent = tt;
          }))
          (rw (alters-refused t ns ENOSPC q) (stays_on_copy j (refused ENOSPC) refl))

  -- a node request, on the store or in a transaction
  abbrev asked_effect : ℕ → Reply → Ask → Names → Effect
  asked_effect n r a ns = record { changes = eqb n 0 && alters w.nodes ns r a; alters = λ k. eqb n (suc k) && alters (copy_of w k) ns r a; opens = false }

  asked_step : (n : ℕ) (c : Connection) (a : Ask) (ns : Names) → let o = asked w c n a ns in Step (asked_effect n o.reply a ns) o
  unfolding asked transaction_of on_store left
  asked_step zero c a ns =
      rw on_store_reply
      (step_as (changing (alters w.nodes ns (answer (domain_of c) a ns w.nodes).reply a)) _ _ refl (λ k. sym (rw (eqb-zero-suc k))) (λ o. refl)
      (on_store_step (answer_shape (domain_of c) a ns w.nodes)))
  asked_step (suc j) c a ns = rw (eqb-suc-zero, asked) (there (transaction_of w c (suc j)) refl)
    where
      there : (m : Option Transaction) → transaction_of w c (suc j) ≡ m
          → let o = elim m as (λ m. Outcome) [
            | none ↦ left w (refused ENOENT)
            | some x ↦ in_transaction w (suc j - 1) x
                (answer (domain_of c) a ns (copy_of w (suc j - 1)))
          ] in
          Step (record { changes = false; alters = λ k. eqb (suc j) (suc k) && alters (copy_of w k) ns o.reply a; opens = false }) o
      there none e = step_as quiet _ _ refl (λ k. sym (rw (alters-refused (copy_of w k) ns ENOENT a) (and-false (eqb (suc j) (suc k))))) (λ o. refl)
          (left_step (refused ENOENT) refl)
      there (some x) e =
          let o = in_transaction w (suc j - 1) x (answer (domain_of c) a ns (copy_of w (suc j - 1))) in
          step_as (on_copy (suc j - 1) (alters (copy_of w (suc j - 1)) ns o.reply a)) _ _ refl
          (λ k. there-alone (λ i. alters (copy_of w i) ns o.reply a) _ j k (omega arith)) (λ o. refl)
          (in_transaction_step (domain_of c) a ns (copy_of w (suc j - 1)) (suc j - 1) x (named w (suc j) c x e).0)

  -- requests that leave the transactions alone
  watching_step : (c : Connection) (p : Place) (t : Octets) (depth : Option ℕ) → Step quiet (watching w c p t depth)
  unfolding watching to OK
  watching_step c p t depth =
      cond_case (Step quiet) (watched c (place_text p) t w.watches) _ _ (left_step (refused EEXIST) refl)
      (cond_case (Step quiet) (place_fits w p && (leb (length t) longest_token && ltb (lowest w.watches) (length w.watches))) _ _
      (record { kept = kept-all _; sent = tt })
      (left_step (refused ENOSPC) refl))

  unwatching_step : (c : Connection) (p : Place) (t : Octets) → Step quiet (unwatching w c p t)
  unfolding unwatching to OK
  unwatching_step c p t =
      cond_case (Step quiet) (watched c (place_text p) t w.watches) _ _ (record { kept = kept-all _; sent = tt }) (left_step (refused ENOENT) refl)

  introducing_step : (d page channel : ℕ) → Step quiet (introducing w d page channel)
  unfolding introducing OK
  introducing_step d page channel =
      cond_case (Step quiet) (introduced d w.domains) _ _ (left_step (refused EEXIST) refl)
      (cond_case (Step quiet) (ltb (lowest w.domains) (length w.domains)) _ _ (record { kept = kept-all _; sent = tt }) (left_step (refused ENOSPC) refl))

  -- transactions that begin and end
  starting_step : (c : Connection) → Step opening (starting w c)
  unfolding starting to left
  starting_step c =
      cond_case (Step opening) (ltb (lowest w.transactions) (length w.transactions)) _ _
      (record { kept = kept-opened _ _; sent = tt })
      (step_as quiet opening _ refl (λ k. refl) (λ o. refl) (left_step (refused ENOSPC) refl))

  pub recorded_is : (k : ℕ) (x : Transaction) → get_or w.transactions k none ≡ some x → recorded w k ≡ not (is_empty x.changes)
  unfolding recorded
  recorded_is k x h = rw (h, recorded)

  ended_step : (k : ℕ) (x : Transaction) → get_or w.transactions k none ≡ some x → (commit stale : Bool) → k ≡ tx - 1
      → let o = cond commit (cond stale (closing w k (refused EAGAIN)) (committing w k x)) (closing w k OK) in
      Step (changing (commit && (succeeds o.reply && recorded w k))) o
  unfolding closing committing to succeeds OK
  ended_step k x h true true e = record { kept = kept-closed _ _; sent = ap (λ k. closing w k (refused EAGAIN)) e }
  ended_step k x h true false e = rw (recorded_is k x h) (record { kept = kept-staled_if _ _ _ (kept-closed _ _); sent = tt })
  ended_step k x h false stale e = record { kept = kept-closed _ _; sent = tt }

  ending_step : (c : Connection) (commit : Bool) → Step (changing (commit && (succeeds (ending w c tx commit).reply && recorded w (tx - 1))))
      (ending w c tx commit)
  unfolding ending left succeeds
  ending_step c commit = there (transaction_of w c tx) refl
    where
      P : Outcome → Type 0
      P o = Step (changing (commit && (succeeds o.reply && recorded w (tx - 1)))) o

      there : (m : Option Transaction) → transaction_of w c tx ≡ m
          → P (elim m [
            | none ↦ left w (refused ENOENT)
            | some x ↦ cond commit (cond x.stale (closing w (tx - 1) (refused EAGAIN)) (committing w (tx - 1) x)) (closing w (tx - 1) OK)
          ])
      there none e = rw and-false (left_step (refused ENOENT) refl)
      there (some x) e = ended_step (tx - 1) x (named w tx c x e).0 commit x.stale refl

  releasing_step : (d : ℕ) → Step (changing (succeeds (releasing w d).reply && not (is_empty (owned_by w.nodes d)))) (releasing w d)
  unfolding releasing to OK succeeds left without_transactions
  releasing_step d =
      cond_case (λ o. Step (changing (succeeds o.reply && not (is_empty (owned_by w.nodes d)))) o) (introduced d w.domains) _ _
      (rw (← empty_mapped (removal_of w) (owned_by w.nodes d)) (record { kept = kept-staled_if _ _ _ (kept-without _ _); sent = tt }))
      (left_step (refused ENOENT) refl)

  resetting_step : (c : Connection) → Step quiet (resetting w c)
  unfolding resetting to OK without_transactions
  resetting_step c = record { kept = kept-without _ _; sent = tt }

  -- "from a sender other than 0: EACCES"
  control_step : (f : Reply → Effect) → f (refused EACCES) ≡ quiet → (c : Connection) (o : Outcome) → Step (f o.reply) o →
      Step (f (for_control w c o).reply) (for_control w c o)
  unfolding for_control left
  control_step f e c o h = cond_case (λ x. Step (f x.reply) x) (is_control (domain_of c)) _ _ h (rw e (left_step (refused EACCES) refl))

  place_step : (c : Connection) (p : Place) (o : Outcome) → Step quiet o → Step quiet (for_place w c p o)
  unfolding for_place
  place_step c (path r ns) o h = h
  place_step c (event e) o h = control_step (λ r. quiet) refl c o h

  -- every request
  abbrev opens : Request → Bool
  opens (ask a ns) = false
  opens (watch p t depth) = false
  opens (unwatch p t) = false
  opens start = true
  opens (end commit) = false
  opens (introduce d page channel) = false
  opens (release d) = false
  opens (domain_path d) = false
  opens (is_introduced d) = false
  opens reset = false

  abbrev pub effect : Reply → Request → Effect
  effect r q = record { changes = changed_by w tx r q; alters = λ k. altered_by w k tx r q; opens = opens q }

  pub handle_step : (c : Connection) (q : Request) → Step (effect (handle w c tx q).reply q) (handle w c tx q)
  unfolding handle changed_by altered_by succeeds
  handle_step c (ask a ns) = asked_step tx c a ns
  handle_step c (watch p t depth) = place_step c p _ (watching_step c p t depth)
  handle_step c (unwatch p t) = place_step c p _ (unwatching_step c p t)
  handle_step c start = starting_step c
  handle_step c (end commit) = ending_step c commit
  handle_step c (introduce d page channel) = control_step (λ r. quiet) refl c _ (introducing_step d page channel)
  handle_step c (release d) = control_step (λ r. changing (succeeds r && not (is_empty (owned_by w.nodes d)))) refl c _ (releasing_step d)
  handle_step c (domain_path d) = left_step _ refl
  handle_step c (is_introduced d) = left_step _ refl
  handle_step c reset = resetting_step c

  abbrev pub opens_as : Parsed → Bool
  opens_as unknown = false
  opens_as invalid = false
  opens_as (request q) = opens q

  abbrev pub effect_as : Reply → Parsed → Effect
  effect_as r p = record { changes = changed_as w tx r p; alters = λ k. altered_as w k tx r p; opens = opens_as p }

  pub outcome_step : (c : Connection) (p : Parsed) → Step (effect_as (outcome_of w c tx p).reply p) (outcome_of w c tx p)
  unfolding outcome_of changed_as altered_as
  outcome_step c unknown = left_step (refused ENOSYS) refl
  outcome_step c invalid = left_step (refused EINVAL) refl
  outcome_step c (request r) = handle_step c r

  -- a request that opens a transaction is a START
  pub opens-start : (p : Parsed) → opens_as p ≡ true → p ≡ request start
  opens-start unknown e = absurd (false≢true e)
  opens-start invalid e = absurd (false≢true e)
  opens-start (request (ask a ns)) e = absurd (false≢true e)
  opens-start (request (watch p t depth)) e = absurd (false≢true e)
  opens-start (request (unwatch p t)) e = absurd (false≢true e)
  opens-start (request start) e = refl
  opens-start (request (end commit)) e = absurd (false≢true e)
  opens-start (request (introduce d page channel)) e = absurd (false≢true e)
  opens-start (request (release d)) e = absurd (false≢true e)
  opens-start (request (domain_path d)) e = absurd (false≢true e)
  opens-start (request (is_introduced d)) e = absurd (false≢true e)
  opens-start (request reset) e = absurd (false≢true e)
