-- Soundness through calls and histories: the proofs of the laws.
use mathlib.Core.Path.{◌≡◌, refl, sym, ◌∙◌, ap, subst}
use mathlib.Core.Bool.{Bool, true, false, cond, ◌&&◌, false≢true, and-eq-true_iff}
use mathlib.Core.List.{List, [], ◌∷◌}
use mathlib.Core.Option.{Option, none, some}
use Prim.Native.Nat.{ℕ}
use native.Mathlib.Omega.{arith}
use lib.ListN.{length, length-replicate}
use lib.Dec.{eqb}
use borrow.Author.Tests.{eq-eqb}
use Rattle.rules.specs.Size.{most_transactions, most_watches, most_domains, table_size, reply_size, events_size}
use Rattle.rules.specs.Octets.{Octets, same}
use Rattle.rules.specs.Entries.{has}
use Rattle.rules.specs.Path.{Connection, domain_of}
use Rattle.rules.specs.Domain.{is_control}
use Rattle.rules.specs.Node.{root, fresh_table, node_at}
use Rattle.rules.specs.Layout.{domains_of}
use Rattle.rules.specs.Sound.{good_entries, reaches_root, good_name, good_node, good_nodes, good_root, distinct, good_table, known}
use Rattle.rules.specs.World.{World, Outcome, fresh_world}
use Rattle.rules.specs.Call.{Lendable, Verdict, wrong_size, unsound, stranger, call_number, is_handled, Tables, sized_tables, sound, world_of, tables_of}
use Rattle.rules.specs.Call.{Result, tx_of, frame_verdict, request_verdict, outcome, turned_away, delivered, request_by, request_call}
use Rattle.rules.proofs.Cases.{cond-known}
use Rattle.rules.proofs.Places.{nothing, none_at}
use Rattle.rules.proofs.Fitting.{fresh_fits}
use Rattle.rules.proofs.GoodTables.{good_of}
use Rattle.laws.specs.History.{Call, History, request_of, served, after, run}
use Rattle.laws.specs.Soundness.{FreshIsSound, CallsKeepSound, SoundBytesStay, CallsOnBytes, HistoriesAreSound, Misfit, Lent, lent_tables}
use Rattle.laws.specs.Soundness.{result_on, left_by, run_bytes, fitting, heeded, verdict_on, result_of, result_by, HistoriesOnBytes}
use Rattle.laws.proofs.Calls.{served_is, served-known, request-good}
use Rattle.rules.proofs.SoundWorld.{SoundWorld}
use Rattle.laws.proofs.SoundRequests.{outcome_keeps}
use Rattle.rules.proofs.SoundBytes.{encoded, world_back, decoded, bytes_back}

-- ── the fresh store ──

fresh_good : good_table fresh_table ≡ true
unfolding good_table fresh_table good_nodes good_node good_name good_entries reaches_root good_root node_at root distinct has same is_control
fresh_good = refl

pub fresh_sound : SoundWorld fresh_world
unfolding fresh_world
fresh_sound =
    record {
      nodes = record { good = good_of fresh_table (omega (arith, fresh_fits.long)) fresh_good; fitting = fresh_fits };
      domains =
          record {
            long = refl;
            range = λ i d q. absurd (nothing (sym (none_at most_domains i) ∙ q));
            differ = λ i j d e p q. absurd (nothing (sym (none_at most_domains i) ∙ p));
          };
      watches =
          record {
            long = refl;
            each = λ i v q. absurd (nothing (sym (none_at most_watches i) ∙ q));
            differ = λ i j v u p q. absurd (nothing (sym (none_at most_watches i) ∙ p));
          };
      transactions =
          record {
            long = refl;
            copies = refl;
            sized = (length-replicate {A = ℕ} table_size 0, (length-replicate {A = ℕ} table_size 0, (length-replicate {A = ℕ} table_size 0, tt)));
            each = λ k x q. absurd (nothing (sym (none_at most_transactions k) ∙ q));
          };
    }

pub fresh_is_sound : FreshIsSound
fresh_is_sound = encoded fresh_world fresh_sound

-- ── calls on decoded tables ──

pub call_keeps : (w : World) (c : Call) → SoundWorld w → SoundWorld (after w c)
unfolding after
call_keeps w c s = go (served w c) refl
  where
    go : (m : Option Outcome) → served w c ≡ m → SoundWorld (elim m [ none ↦ w | some o ↦ o.world ])
    go none e = s
    go (some o) e =
        subst (λ (y : Outcome). SoundWorld y.world) (served_is w c o e)
        (outcome_keeps w s c.sender (tx_of c.message) (request_of c) (served-known w c o e) (request-good c))

pub run_keeps : (w : World) (cs : History) → SoundWorld w → SoundWorld (run w cs)
unfolding run
run_keeps w [] s = s
run_keeps w (c ∷ cs) s = run_keeps (after w c) cs (call_keeps w c s)

pub histories_are_sound : HistoriesAreSound
histories_are_sound cs = let s = run_keeps fresh_world cs fresh_sound in (encoded (run fresh_world cs) s, world_back (run fresh_world cs) s)

-- ── calls on bytes ──

pub sound-bytes_stay : SoundBytesStay
sound-bytes_stay t l = bytes_back t l

module _ (t : Tables) (reply events : Octets) (c : Connection) (m : Octets) (l : Lendable t) where
  call : Call
  call = record { sender = c; message = m }

  fits : Bool
  fits = sized_tables t && (eqb (length reply) reply_size && eqb (length events) events_size)

  serves : Bool
  serves = known (domain_of c) (world_of t).domains && is_handled (frame_verdict m)

  -- the tables after the call: those of the outcome, or as they were
  tables_after : (request_call t reply events c m).tables ≡ cond (fits && serves) (tables_of (outcome (world_of t) c m).world) t
  unfolding request_call request_verdict request_by delivered turned_away is_handled fits serves world_of
  tables_after = go fits (sound t) (known (domain_of c) (domains_of t.domains)) (frame_verdict m) l.sound
    where
      go : (a s k : Bool) (v : Verdict) → s ≡ true
          → (request_by t reply events (cond a (cond s (cond k v stranger) unsound) wrong_size) c m).tables
          ≡ cond (a && (k && is_handled v)) (tables_of (outcome (world_of t) c m).world) t
      go false s k v e = refl
      go true false k v e = absurd (false≢true e)
      go true true false v e = refl
      go true true true v e = handled_or v (is_handled v)
        where
          handled_or : (v : Verdict) (b : Bool)
              → (cond b (delivered t reply events m (outcome (world_of t) c m)) (turned_away t reply events (call_number v))).tables
              ≡ cond b (tables_of (outcome (world_of t) c m).world) t
          handled_or v true = refl
          handled_or v false = refl

  outcome-sound : serves ≡ true → SoundWorld (outcome (world_of t) c m).world
  unfolding serves outcome request_of call
  outcome-sound h =
      outcome_keeps (world_of t) (decoded t l) c (tx_of m) (request_of call)
      ((and-eq-true_iff (known (domain_of c) (world_of t).domains) (is_handled (frame_verdict m))).0 h).0 (request-good call)

  keeps : Lendable (request_call t reply events c m).tables
  keeps =
      rw tables_after
      (cond-known Lendable (fits && serves) _ _ (λ h. encoded (outcome (world_of t) c m).world (outcome-sound ((and-eq-true_iff fits serves).0 h).1)) (λ h. l))

  on_bytes : fits ≡ true → world_of (request_call t reply events c m).tables ≡ after (world_of t) call
  unfolding after served serves call
  on_bytes f = rw (tables_after, f) (go serves refl)
    where
      go : (b : Bool) → serves ≡ b
          → world_of (cond b (tables_of (outcome (world_of t) c m).world) t)
          ≡ (elim (cond b (some (outcome (world_of t) c m)) none) as (λ m. World) [ none ↦ world_of t | some o ↦ o.world ])
      go true e = world_back (outcome (world_of t) c m).world (outcome-sound e)
      go false e = refl

pub calls_keep_sound : CallsKeepSound
calls_keep_sound t reply events c m l = keeps t reply events c m l

pub calls_on_bytes : CallsOnBytes
unfolding call fits
calls_on_bytes t reply events c m l r e =
    on_bytes t reply events c m l
    ((and-eq-true_iff (sized_tables t) (eqb (length reply) reply_size && eqb (length events) events_size)).1
    (l.sized, (and-eq-true_iff (eqb (length reply) reply_size) (eqb (length events) events_size)).1 (eq-eqb _ _ r, eq-eqb _ _ e)))

-- ── histories on bytes ──

module _ (w : World) (s : SoundWorld w) where
  domains_back : domains_of (tables_of w).domains ≡ w.domains
  unfolding world_of
  domains_back = ap World.domains (world_back w s)

  -- a lent call, and the same with these tables
  abbrev lending : Lent → Option Misfit → Lent
  lending l m = record { call = l.call; misfit = m; reply = l.reply; events = l.events }

  -- a call that is lent the store's own tables, and buffers that have their sizes or not
  own-tables : (l : Lent) (b k : Bool) (v : Verdict) → let c = l.call in let o = outcome w c.sender c.message in
      request_by (tables_of w) l.reply l.events (cond b (cond k v stranger) wrong_size) c.sender c.message
      ≡ cond b (result_of (tables_of w) l (cond k v stranger) (cond (k && is_handled v) (some o) none)) (result_of (tables_of w) l wrong_size none)
  unfolding request_by is_handled result_of
  own-tables l false k v = refl
  own-tables l true false v = refl
  own-tables l true true v = rw (world_back w s) (chosen (is_handled v))
    where
      o : Outcome
      o = outcome w l.call.sender l.call.message

      chosen : (b : Bool) → cond b (result_of (tables_of w) l v (some o)) (result_of (tables_of w) l v none)
          ≡ result_of (tables_of w) l v (cond b (some o) none)
      chosen true = refl
      chosen false = refl

  -- the whole result of a call on a sound world's bytes
  result_is : (l : Lent) → result_on (tables_of w) l ≡ result_by w l
  unfolding result_on result_by result_of lent_tables fitting request_call request_verdict request_by verdict_on served is_handled
  result_is l = by l.misfit
    where
      by : (m : Option Misfit) → result_on (tables_of w) (lending l m) ≡ result_by w (lending l m)
      by (some m) = rw m.wrong
      by none = rw ((encoded w s).sized, (encoded w s).sound, domains_back)
          (own-tables (lending l none) (eqb (length l.reply) reply_size && eqb (length l.events) events_size)
          (known (domain_of l.call.sender) w.domains) (frame_verdict l.call.message))

  -- and the store's bytes after it
  left_is : (l : Lent) → left_by (tables_of w) l ≡ tables_of (cond (fitting l) (after w l.call) w)
  unfolding left_by fitting result_by result_of lent_tables turned_away delivered after
  left_is l = by l.misfit
    where
      told : (b : Bool) (v : Verdict) (m : Option Outcome) → let x = lending l none in
          (cond b (result_of (tables_of w) x v m) (result_of (tables_of w) x wrong_size none)).tables
          ≡ tables_of (cond b (elim m as (λ m. World) [ none ↦ w | some o ↦ o.world ]) w)
      told true v none = refl
      told true v (some o) = refl
      told false v m = refl

      by : (m : Option Misfit) → left_by (tables_of w) (lending l m) ≡ tables_of (cond (fitting (lending l m)) (after w l.call) w)
      by (some m) = refl
      by none =
          ap Result.tables (result_is (lending l none))
          ∙ told (eqb (length l.reply) reply_size && eqb (length l.events) events_size) (verdict_on w l.call) (served w l.call)

follow : (w : World) (ls : List Lent) → SoundWorld w → run_bytes (tables_of w) ls ≡ tables_of (run w (heeded ls))
unfolding run_bytes run heeded
follow w [] s = refl
follow w (l ∷ ls) s = ap (λ (t : Tables). run_bytes t ls) (left_is w s l)
    ∙ go (fitting l) (follow (after w l.call) ls (call_keeps w l.call s)) (follow w ls s)
  where
    go : (b : Bool) → run_bytes (tables_of (after w l.call)) ls ≡ tables_of (run (after w l.call) (heeded ls)) →
        run_bytes (tables_of w) ls ≡ tables_of (run w (heeded ls))
        → run_bytes (tables_of (cond b (after w l.call) w)) ls ≡ tables_of (run w (cond b (l.call ∷ heeded ls) (heeded ls)))
    go true e f = e
    go false e f = f

pub histories_on_bytes : HistoriesOnBytes
histories_on_bytes ls l =
    let e = follow fresh_world ls fresh_sound in
    (e, ap (λ (t : Tables). result_on t l) e ∙ result_is (run fresh_world (heeded ls)) (run_keeps fresh_world (heeded ls) fresh_sound) l)
