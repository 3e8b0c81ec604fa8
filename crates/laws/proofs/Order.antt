-- One order: what each request adds, and that it keeps the open transactions' logs in step with their copies.
use mathlib.Core.Path.{◌≡◌, refl, sym, ◌∙◌, subst}
use mathlib.Core.Bool.{Bool, true, false, cond, not, ◌&&◌, false≢true, true≢false, and-false}
use mathlib.Core.List.{List, [], ◌∷◌, ◌++◌, map}
use mathlib.Core.Option.{Option, none, some}
use Prim.Native.Nat.{ℕ, zero, suc, ◌-◌, ◌<◌}
use native.Mathlib.Omega.{arith}
use lib.ListN.{length, get_or, set, replicate}
use lib.Dec.{eqb, ltb, leb, eqb-suc-zero}
use borrow.Author.Tests.{ltb-true, not-false}
use Rattle.rules.specs.Size.{most_changes, longest_token, most_transactions, most_domains}
use Rattle.rules.specs.Octets.{Octets}
use Rattle.rules.specs.Entries.{is_empty, lowest}
use Rattle.rules.specs.Path.{Domain, Connection, domain_of, Names, is_control}
use Rattle.rules.specs.Node.{Table, owned_by, without_all}
use Rattle.rules.specs.Payload.{Ask, Place, path, event, Request, ask, watch, unwatch, start, end, introduce, release, domain_path, is_introduced}
use Rattle.rules.specs.Payload.{reset, Parsed, unknown, invalid, request}
use Rattle.rules.specs.Call.{tx_of, outcome_of}
use Rattle.rules.specs.Answer.{EINVAL, ENOSYS, EACCES, EEXIST, ENOENT, ENOSPC, EAGAIN, Reply, refused, OK, Change, Answer, answer}
use Rattle.rules.specs.Layout.{Transaction, table_of, with_change}
use Rattle.rules.specs.Sound.{introduced, watched}
use Rattle.rules.specs.Event.{place_text}
use Rattle.rules.specs.World.{with_copy, with_transactions, World, Outcome, fresh_world, staled_if, without_transactions, left, to, on_store, transaction_of}
use Rattle.rules.specs.World.{in_transaction, copy_of, asked, place_fits, watching, unwatching, starting, closing, committing, ending, introducing}
use Rattle.rules.specs.World.{removal_of, releasing, resetting, for_control, for_place, handle}
use Rattle.rules.proofs.Cases.{cond_case, cond-known}
use Rattle.rules.proofs.Fitting.{AskFits, decoded_fits, answer-fits, without_all-fits, fresh_fits}
use Rattle.laws.specs.History.{Call, History, request_of, served, after, run, succeeds}
use Rattle.laws.specs.Order.{Single, node, released, then, replay, Agrees, Logs, is_ninth, added_by, noted, logged_by, added_as, logged_as, added}
use Rattle.laws.specs.Order.{logged, order_from, order, OneOrder}
use Rattle.rules.proofs.Places.{nothing, at_below, none_at}
use Rattle.laws.proofs.Calls.{served_is, served-known, request-good}
use Rattle.rules.proofs.GoodRequests.{RequestGood, ParsedGood}
use Rattle.rules.proofs.OpenTransactions.{named}
use Rattle.laws.proofs.Ordered.{Running, replay_append, agrees_append, keeps, extended, OrderedAt, Turn, fewer_all, fewer_without}
use Rattle.laws.proofs.Ordered.{fewer_closed, changed_to, with_log, with_copy_lem, with_domains_lem, small_set, small_without, small_known}

-- ── requests on the world w ──

nothing_owned : (f : ℕ → Change) (t : Table) (is : List ℕ) → not (is_empty (map f is)) ≡ false → t ≡ without_all t is
unfolding is_empty without_all
nothing_owned f t [] e = refl
nothing_owned f t (i ∷ is) e = absurd (true≢false e)

module _ (w : World) (ls : Logs) (o : OrderedAt w ls) where
  left_turn : (r : Reply) → Turn w [] ls (left w r)
  unfolding left replay
  left_turn r = record { after = o; table = refl; answers = tt }

  closing_turn : (k : ℕ) (r : Reply) → Turn w [] ls (closing w k r)
  unfolding closing to replay staled_if
  closing_turn k r = record { after = changed_to false w.nodes _ o o.main (fewer_closed w.transactions k) (λ e. refl); table = refl; answers = tt }

  resetting_turn : (c : Connection) → Turn w [] ls (resetting w c)
  unfolding resetting to without_transactions replay staled_if
  resetting_turn c = record { after = changed_to false w.nodes _ o o.main (fewer_without _ w.transactions) (λ e. refl); table = refl; answers = tt }

  -- a node request outside transactions
  on_store_turn : (d : Domain) (a : Ask) (ns : Names) → d < 65536 → AskFits a
      → Turn w (node d a ns (on_store w (answer d a ns w.nodes)).reply ∷ []) ls (on_store w (answer d a ns w.nodes))
  unfolding on_store left to replay then staled_if is_empty
  on_store_turn d a ns h f = go (answer d a ns w.nodes).change refl
    where
      x : Answer
      x = answer d a ns w.nodes

      go : (m : Option Change) → x.change ≡ m
          → let y = on_store w (record { reply = x.reply; table = x.table; change = m }) in Turn w (node d a ns y.reply ∷ []) ls y
      go none e = record { after = o; table = keeps d a ns w.nodes e; answers = (refl, tt) }
      go (some c) e =
          record {
            after = changed_to true x.table w.transactions o (answer-fits d a ns w.nodes h f o.main) (fewer_all w.transactions)
                (λ e. absurd (true≢false e));
            table = refl;
            answers = (refl, tt);
          }

  -- a commit
  committing_turn : (k : ℕ) (x : Transaction) → get_or w.transactions k none ≡ some x → x.stale ≡ false → Turn w (get_or ls k []) ls (committing w k x)
  unfolding committing to copy_of
  committing_turn k x e s =
      let r = o.running k x e s in
      record {
        after = changed_to (not (is_empty x.changes)) (table_of (get_or w.copies k [])) _ o (decoded_fits _) (fewer_closed w.transactions k)
            (λ p. sym (r.same (not-false _ p) ∙ r.unmoved));
        table = subst (λ (u : Table). replay u (get_or ls k []) ≡ table_of (get_or w.copies k [])) r.unmoved r.table;
        answers = subst (λ (u : Table). Agrees u (get_or ls k [])) r.unmoved r.answers;
      }

  -- a release
  releasing_turn : (d : Domain) → let y = releasing w d in Turn w (cond (succeeds y.reply) (released d ∷ []) []) ls y
  unfolding releasing left to OK succeeds without_transactions replay then
  releasing_turn d =
      cond_case (λ y. Turn w (cond (succeeds y.reply) (released d ∷ []) []) ls y) (introduced d w.domains) _ _
      (record {
        after = with_domains_lem _ (small_without (eqb d) w.domains o.domains)
            (changed_to (not (is_empty (map (removal_of w) (owned_by w.nodes d)))) _ _ o (without_all-fits _ _ o.main) (fewer_without _ w.transactions)
            (nothing_owned (removal_of w) w.nodes (owned_by w.nodes d)));
        table = refl;
        answers = (tt, tt);
      })
      (left_turn (refused ENOENT))

  -- requests that leave the store alone
  watching_turn : (c : Connection) (p : Place) (t : Octets) (depth : Option ℕ) → Turn w [] ls (watching w c p t depth)
  unfolding watching to replay
  watching_turn c p t depth =
      cond_case (Turn w [] ls) (watched c (place_text p) t w.watches) _ _ (left_turn (refused EEXIST))
      (cond_case (Turn w [] ls) (place_fits w p && (leb (length t) longest_token && ltb (lowest w.watches) (length w.watches))) _ _
      (record { after = o; table = refl; answers = tt })
      (left_turn (refused ENOSPC)))

  unwatching_turn : (c : Connection) (p : Place) (t : Octets) → Turn w [] ls (unwatching w c p t)
  unfolding unwatching to replay
  unwatching_turn c p t =
      cond_case (Turn w [] ls) (watched c (place_text p) t w.watches) _ _ (record { after = o; table = refl; answers = tt }) (left_turn (refused ENOENT))

  introducing_turn : (d page channel : ℕ) → d < 65536 → Turn w [] ls (introducing w d page channel)
  unfolding introducing replay
  introducing_turn d page channel h =
      cond_case (Turn w [] ls) (introduced d w.domains) _ _ (left_turn (refused EEXIST))
      (cond_case (Turn w [] ls) (ltb (lowest w.domains) (length w.domains)) _ _
      (record { after = with_domains_lem _ (small_set w.domains (lowest w.domains) d o.domains h) o; table = refl; answers = tt })
      (left_turn (refused ENOSPC)))

  -- a START
  starting_turn : (c : Connection) → let y = starting w c in Turn w [] (cond (succeeds y.reply) (set ls (lowest w.transactions) []) ls) y
  unfolding starting to left succeeds replay
  starting_turn c =
      cond-known (λ y. Turn w [] (cond (succeeds y.reply) (set ls (lowest w.transactions) []) ls) y)
      (ltb (lowest w.transactions) (length w.transactions)) _ _
      (λ h. record {
        after = with_copy_lem (lowest w.transactions) _ w.nodes [] o (ltb-true _ _ h) o.main
            (λ e. record { start = w.nodes; unmoved = refl; table = refl; answers = tt; same = λ e. refl });
        table = refl;
        answers = tt;
      })
      (λ h. left_turn (refused ENOSPC))

  -- a request in transaction k
  in_transaction_turn : (c : Connection) (tx : ℕ) (x : Transaction) (a : Ask) (ns : Names) → get_or w.transactions (tx - 1) none ≡ some x →
      domain_of c < 65536 → AskFits a
      → let y = in_transaction w (tx - 1) x (answer (domain_of c) a ns (copy_of w (tx - 1))) in Turn w [] (noted w ls c tx y.reply a ns x) y
  unfolding in_transaction noted is_ninth left to replay copy_of is_empty
  in_transaction_turn c tx x a ns e h f = go z.change refl
    where
      k : ℕ
      k = tx - 1

      copy : Table
      copy = table_of (get_or w.copies k [])

      z : Answer
      z = answer (domain_of c) a ns copy

      log : Reply → List Single
      log r = get_or ls k [] ++ (node (domain_of c) a ns r ∷ [])

      running : x.stale ≡ false → Running w.nodes copy (get_or ls k []) x
      running s = o.running k x e s

      more : (s : x.stale ≡ false) → (replay (running s).start (log z.reply) ≡ z.table) × Agrees (running s).start (log z.reply)
      more s = extended (running s).start copy (get_or ls k []) (domain_of c) a ns (running s).table (running s).answers

      written : Change → Outcome
      written ch =
          to w z.reply
          (with_transactions (with_copy w k z.table) (set w.transactions k (some (with_change x ch))))
          []

      not_empty : (cs : List Change) (ch : Change) → is_empty (cs ++ (ch ∷ [])) ≡ true → ⊥
      not_empty [] ch q = false≢true q
      not_empty (b ∷ cs) ch q = false≢true q

      room : (ch : Change) (b : Bool) → let y = cond b (written ch) (left w (refused ENOSPC)) in Turn w [] (cond (not b) ls (set ls k (log y.reply))) y
      room ch true =
          record {
            after = with_copy_lem k _ z.table (log z.reply) o (at_below w.transactions k x e) (answer-fits (domain_of c) a ns copy h f (decoded_fits _))
                (λ s. record {
                  start = (running s).start;
                  unmoved = (running s).unmoved;
                  table = (more s).0;
                  answers = (more s).1;
                  same = λ q. absurd (not_empty x.changes ch q);
                });
            table = refl;
            answers = tt;
          }
      room ch false = left_turn (refused ENOSPC)

      go : (m : Option Change) → z.change ≡ m
          → let y = in_transaction w k x (record { reply = z.reply; table = z.table; change = m }) in
          Turn w [] (cond (is_ninth x m) ls (set ls k (log y.reply))) y
      go none p =
          record {
            after = with_log k x (log z.reply) o e (at_below w.transactions k x e)
                (λ s. record {
                  start = (running s).start;
                  unmoved = (running s).unmoved;
                  table = (more s).0 ∙ keeps (domain_of c) a ns copy p;
                  answers = (more s).1;
                  same = (running s).same;
                });
            table = refl;
            answers = tt;
          }
      go (some ch) p = room ch (ltb (length x.changes) most_changes)

  -- a node request
  asked_turn : (c : Connection) (tx : ℕ) (a : Ask) (ns : Names) → domain_of c < 65536 → AskFits a
      → let y = asked w c tx a ns in Turn w (added_by w ls c tx y.reply (ask a ns)) (logged_by w ls c tx y.reply (ask a ns)) y
  unfolding asked added_by logged_by transaction_of
  asked_turn c zero a ns h f = on_store_turn (domain_of c) a ns h f
  asked_turn c (suc k) a ns h f = rw eqb-suc-zero (go (transaction_of w c (suc k)) refl)
    where
      go : (m : Option Transaction) → transaction_of w c (suc k) ≡ m
          → let y = elim m as (λ m. Outcome) [
            | none ↦ left w (refused ENOENT)
            | some x ↦ in_transaction w (suc k - 1) x
                (answer (domain_of c) a ns (copy_of w (suc k - 1)))
          ] in
          Turn w [] (elim m [ none ↦ ls | some x ↦ noted w ls c (suc k) y.reply a ns x ]) y
      go none e = left_turn (refused ENOENT)
      go (some x) e = in_transaction_turn c (suc k) x a ns (named w (suc k) c x e).0 h f

  ended_turn : (k : ℕ) (x : Transaction) → get_or w.transactions k none ≡ some x → (commit stale : Bool) → x.stale ≡ stale
      → let y = cond commit (cond stale (closing w k (refused EAGAIN)) (committing w k x)) (closing w k OK) in
      Turn w (cond (commit && succeeds y.reply) (get_or ls k []) []) ls y
  unfolding closing committing to succeeds OK
  ended_turn k x e true true s = closing_turn k (refused EAGAIN)
  ended_turn k x e true false s = committing_turn k x e s
  ended_turn k x e false stale s = closing_turn k OK

  ending_turn : (c : Connection) (tx : ℕ) (commit : Bool) → let y = ending w c tx commit in Turn w
      (cond (commit && succeeds y.reply) (get_or ls (tx - 1) []) []) ls y
  unfolding ending left succeeds
  ending_turn c tx commit = go (transaction_of w c tx) refl
    where
      P : Outcome → Type 0
      P y = Turn w (cond (commit && succeeds y.reply) (get_or ls (tx - 1) []) []) ls y

      go : (m : Option Transaction) → transaction_of w c tx ≡ m
          → P (elim m [
            | none ↦ left w (refused ENOENT)
            | some x ↦ cond commit (cond x.stale (closing w (tx - 1) (refused EAGAIN)) (committing w (tx - 1) x)) (closing w (tx - 1) OK)
          ])
      go none e = rw and-false (left_turn (refused ENOENT))
      go (some x) e = ended_turn (tx - 1) x (named w tx c x e).0 commit x.stale refl

  control_turn : (f : Reply → List Single) → f (refused EACCES) ≡ [] → (c : Connection) (y : Outcome) → Turn w (f y.reply) ls y
      → Turn w (f (for_control w c y).reply) ls (for_control w c y)
  unfolding for_control left
  control_turn f e c y h = cond_case (λ z. Turn w (f z.reply) ls z) (is_control (domain_of c)) _ _ h (rw e (left_turn (refused EACCES)))

  place_turn : (c : Connection) (p : Place) (y : Outcome) → Turn w [] ls y → Turn w [] ls (for_place w c p y)
  unfolding for_place
  place_turn c (path r ns) y h = h
  place_turn c (event e) y h = control_turn (λ r. []) refl c y h

  handle_turn : (c : Connection) (tx : ℕ) (q : Request) → domain_of c < 65536 → RequestGood c q
      → let y = handle w c tx q in Turn w (added_by w ls c tx y.reply q) (logged_by w ls c tx y.reply q) y
  unfolding handle added_by logged_by succeeds
  handle_turn c tx (ask a ns) h f = asked_turn c tx a ns h f.fits
  handle_turn c tx (watch p t depth) h f = place_turn c p _ (watching_turn c p t depth)
  handle_turn c tx (unwatch p t) h f = place_turn c p _ (unwatching_turn c p t)
  handle_turn c tx start h f = starting_turn c
  handle_turn c tx (end commit) h f = ending_turn c tx commit
  handle_turn c tx (introduce d page channel) h f = control_turn (λ r. []) refl c _ (introducing_turn d page channel (omega (arith, f.1)))
  handle_turn c tx (release d) h f = control_turn (λ r. cond (succeeds r) (released d ∷ []) []) refl c _ (releasing_turn d)
  handle_turn c tx (domain_path d) h f = left_turn _
  handle_turn c tx (is_introduced d) h f = left_turn _
  handle_turn c tx reset h f = resetting_turn c

  outcome_turn : (c : Connection) (tx : ℕ) (p : Parsed) → domain_of c < 65536 → ParsedGood c p
      → let y = outcome_of w c tx p in Turn w (added_as w ls c tx y.reply p) (logged_as w ls c tx y.reply p) y
  unfolding outcome_of added_as logged_as
  outcome_turn c tx unknown h f = left_turn (refused ENOSYS)
  outcome_turn c tx invalid h f = left_turn (refused EINVAL)
  outcome_turn c tx (request q) h f = handle_turn c tx q h f

-- ── calls ──

-- a call's turn
call_turn : (w : World) (ls : Logs) (c : Call) → OrderedAt w ls
    → OrderedAt (after w c) (logged w ls c) × (replay w.nodes (added w ls c) ≡ (after w c).nodes) × Agrees w.nodes (added w ls c)
unfolding after added logged replay
call_turn w ls c o = go (served w c) refl
  where
    go : (m : Option Outcome) → served w c ≡ m
        → let v = elim m as (λ m. World) [ none ↦ w | some y ↦ y.world ] in
        let ss = elim m as (λ m. List Single) [ none ↦ [] | some y ↦ added_as w ls c.sender (tx_of c.message) y.reply (request_of c) ] in
        OrderedAt v (elim m [ none ↦ ls | some y ↦ logged_as w ls c.sender (tx_of c.message) y.reply (request_of c) ])
        × (replay w.nodes ss ≡ v.nodes) × Agrees w.nodes ss
    go none e = (o, refl, tt)
    go (some y) e =
        let t : Turn w (added_as w ls c.sender (tx_of c.message) y.reply (request_of c))
        (logged_as w ls c.sender (tx_of c.message) y.reply (request_of c)) y
        = rw (served_is w c y e) at (outcome_turn w ls o c.sender (tx_of c.message) (request_of c)
        (small_known w.domains _ o.domains (served-known w c y e)) (request-good c)) in
        (t.after, t.table, t.answers)

-- from any world that is in order
pub order_from_lem : (w : World) (ls : Logs) (cs : History) → OrderedAt w ls
    → (replay w.nodes (order_from w ls cs) ≡ (run w cs).nodes) × Agrees w.nodes (order_from w ls cs)
unfolding order_from run replay
order_from_lem w ls [] o = (refl, tt)
order_from_lem w ls (c ∷ cs) o =
    let one = call_turn w ls c o in
    let rest = order_from_lem (after w c) (logged w ls c) cs one.0 in
    (replay_append w.nodes (added w ls c) _ ∙ rw one.1 rest.0, agrees_append w.nodes (added w ls c) _ one.2 (rw one.1 rest.1))

-- ── from the fresh store ──

fresh_ordered : OrderedAt fresh_world (replicate most_transactions [])
unfolding fresh_world
fresh_ordered =
    record {
      main = fresh_fits;
      domains = λ i d e. absurd (nothing (sym (none_at most_domains i) ∙ e));
      copies = refl;
      logs = refl;
      running = λ k x e. absurd (nothing (sym (none_at most_transactions k) ∙ e));
    }

pub one_order : OneOrder
unfolding order fresh_world
one_order cs = order_from_lem fresh_world (replicate most_transactions []) cs fresh_ordered
