-- Every request keeps a sound world sound.
use mathlib.Core.Path.{◌≡◌, refl, ◌∙◌}
use mathlib.Core.Bool.{Bool, true, false, cond, not, ◌&&◌, and-eq-true_iff}
use mathlib.Core.List.{[], ◌∷◌, map}
use mathlib.Core.Option.{Option, none, some}
use Prim.Native.Nat.{ℕ, ◌-◌, ◌≤◌}
use native.Mathlib.Omega.{arith}
use lib.ListN.{length, get_or, set, length-set, length-append}
use lib.Dec.{eqb, ltb, leb}
use borrow.Author.Tests.{ltb-true, leb-true}
use Rattle.rules.specs.Size.{most_changes, longest_token, last_domain}
use Rattle.rules.specs.Octets.{Octets}
use Rattle.rules.specs.Entries.{is_empty, lowest}
use Rattle.rules.specs.Path.{Domain, Connection, domain_of, Names, is_control}
use Rattle.rules.specs.Node.{Table, owned_by}
use Rattle.rules.specs.Payload.{Ask, Place, path, event, Request, ask, watch, unwatch, start, end, introduce, release, domain_path, is_introduced}
use Rattle.rules.specs.Payload.{reset, Parsed, unknown, invalid, request}
use Rattle.rules.specs.Answer.{EINVAL, ENOSYS, EACCES, EEXIST, ENOENT, ENOSPC, EAGAIN, Reply, refused, OK, Change, Answer, answer}
use Rattle.rules.specs.Event.{Watch, place_text}
use Rattle.rules.specs.Layout.{Transaction, table_of}
use Rattle.rules.specs.Sound.{introduced, known, twin, watched}
use Rattle.rules.specs.World.{World, Outcome, staled_if, without_transactions, without_watches, speaks_for, left, to, on_store, transaction_of}
use Rattle.rules.specs.World.{in_transaction, copy_of, asked, place_fits, watching, unwatching, starting, closing, committing, ending, introducing}
use Rattle.rules.specs.World.{removal_of, releasing, resetting, for_control, for_place, handle}
use Rattle.rules.specs.Call.{outcome_of}
use Rattle.rules.proofs.Cases.{cond_case, cond-known}
use Rattle.rules.proofs.Tables.{each_append}
use Rattle.rules.proofs.Places.{At, at_below, at_without, length_without}
use Rattle.rules.proofs.Fitting.{without_all-fits}
use Rattle.rules.proofs.GoodAnswers.{change-good}
use Rattle.rules.proofs.GoodNodes.{without_all-good}
use Rattle.rules.proofs.GoodRequests.{AskedGood, WatchedGood, RequestGood, ParsedGood}
use Rattle.rules.proofs.SoundWorld.{TransactionSound, TableSound, SoundWorld, table_decoded, asked-sound, known_grown, known_shrunk, known_range}
use Rattle.rules.proofs.SoundWorld.{domains_grown, domains_shrunk}
use Rattle.rules.proofs.SoundEntries.{watches-left, watches_grown, transactions-left, transactions-written, unstaled, transactions-staled}
use Rattle.rules.proofs.SoundEntries.{closed-before, owned_fine, Controlled, depth-fits, place-good, place-fits, change-fits}
use Rattle.rules.proofs.OpenTransactions.{length-staled_if, named}

-- ── requests on the sound world w ──

module _ (w : World) (s : SoundWorld w) where
  abbrev Keeps : Outcome → Type 0
  Keeps y = SoundWorld y.world

  left_keeps : (r : Reply) → Keeps (left w r)
  unfolding left
  left_keeps r = s

  closing_keeps : (k : ℕ) (r : Reply) → Keeps (closing w k r)
  unfolding closing to staled_if
  closing_keeps k r =
      record {
        nodes = s.nodes;
        domains = s.domains;
        watches = s.watches;
        transactions = transactions-staled false (set w.transactions k none) s.transactions (length-set w.transactions k none)
            (closed-before w.transactions k);
      }

  committing_keeps : (k : ℕ) (x : Transaction) → At w.transactions k x → Keeps (committing w k x)
  unfolding committing to copy_of
  committing_keeps k x e =
      record {
        nodes = table_decoded _ (s.transactions.each k x e).copy;
        domains = s.domains;
        watches = s.watches;
        transactions = transactions-staled (not (is_empty x.changes)) (set w.transactions k none) s.transactions (length-set w.transactions k none)
            (closed-before w.transactions k);
      }

  resetting_keeps : (c : Connection) → Keeps (resetting w c)
  unfolding resetting to without_transactions without_watches staled_if
  resetting_keeps c =
      record {
        nodes = s.nodes;
        domains = s.domains;
        watches = watches-left _ _ s.watches (length_without _ w.watches)
            (λ i v q. let p = (at_without _ w.watches i v q).0 in (p, (s.watches.each i v p).known));
        transactions = transactions-staled false _ s.transactions (length_without _ w.transactions) (λ k y q. (at_without _ w.transactions k y q).0);
      }

  on_store_keeps : (d : Domain) (a : Ask) (ns : Names) → d ≤ last_domain → AskedGood a ns → Keeps (on_store w (answer d a ns w.nodes))
  unfolding on_store to staled_if is_empty
  on_store_keeps d a ns h f = go (answer d a ns w.nodes).change
    where
      x : Answer
      x = answer d a ns w.nodes

      go : (m : Option Change) → Keeps (on_store w (record { reply = x.reply; table = x.table; change = m }))
      go none = left_keeps x.reply
      go (some c) =
          record {
            nodes = asked-sound d a ns w.nodes h f s.nodes;
            domains = s.domains;
            watches = s.watches;
            transactions = transactions-staled true w.transactions s.transactions refl (λ k y q. q);
          }

  -- a request in a transaction
  in_transaction_keeps : (d : Domain) (a : Ask) (ns : Names) (k : ℕ) (x : Transaction) → At w.transactions k x → d ≤ last_domain → AskedGood a ns
      → Keeps (in_transaction w k x (answer d a ns (copy_of w k)))
  unfolding in_transaction to copy_of
  in_transaction_keeps d a ns k x e h f = go z.change refl
    where
      copy : Table
      copy = table_of (get_or w.copies k [])

      z : Answer
      z = answer d a ns copy

      held : TransactionSound w.domains (get_or w.copies k []) x
      held = s.transactions.each k x e

      before : TableSound copy
      before = table_decoded (get_or w.copies k []) held.copy

      go : (m : Option Change) → z.change ≡ m → Keeps (in_transaction w k x (record { reply = z.reply; table = z.table; change = m }))
      go none p = left_keeps z.reply
      go (some c) p =
          cond-known Keeps (ltb (length x.changes) most_changes) _ _ (λ l.
          let told = change-good d a ns copy before.good before.fitting f.names f.proper c p in
          record {
            nodes = s.nodes;
            domains = s.domains;
            watches = s.watches;
            transactions = transactions-written k _ z.table s.transactions (at_below w.transactions k x e) (asked-sound d a ns copy h f before) (λ y.
                record {
                  known = held.known;
                  few = rw (length-append x.changes (c ∷ [])) (omega (arith, ltb-true (length x.changes) most_changes l));
                  good = each_append _ x.changes (c ∷ []) held.good (told.1, tt);
                  fit = each_append _ x.changes (c ∷ []) held.fit (change-fits c ns f.names told, tt);
                  copy = y;
                });
          }) (λ l. left_keeps (refused ENOSPC))

  asked_keeps : (c : Connection) (tx : ℕ) (a : Ask) (ns : Names) → domain_of c ≤ last_domain → AskedGood a ns → Keeps (asked w c tx a ns)
  unfolding asked
  asked_keeps c tx a ns h f = cond_case Keeps (eqb tx 0) _ _ (on_store_keeps (domain_of c) a ns h f) (go (transaction_of w c tx) refl)
    where
      go : (m : Option Transaction) → transaction_of w c tx ≡ m
          → Keeps (elim m [ none ↦ left w (refused ENOENT) | some x ↦ in_transaction w (tx - 1) x (answer (domain_of c) a ns (copy_of w (tx - 1))) ])
      go none e = left_keeps (refused ENOENT)
      go (some x) e = in_transaction_keeps (domain_of c) a ns (tx - 1) x (named w tx c x e).0 h f

  -- watches
  watching_keeps : (c : Connection) (p : Place) (t : Octets) (depth : Option ℕ) → known (domain_of c) w.domains ≡ true → WatchedGood c p t depth →
      Controlled c p
      → Keeps (watching w c p t depth)
  unfolding watching to
  watching_keeps c p t depth k f h =
      cond-known Keeps (watched c (place_text p) t w.watches) _ _ (λ x. left_keeps (refused EEXIST)) (λ x.
      cond-known Keeps (place_fits w p && (leb (length t) longest_token && ltb (lowest w.watches) (length w.watches))) _ _ (λ y.
      let q = (and-eq-true_iff (place_fits w p) (leb (length t) longest_token && ltb (lowest w.watches) (length w.watches))).0 y in
      let r = (and-eq-true_iff (leb (length t) longest_token) (ltb (lowest w.watches) (length w.watches))).0 q.1 in
      record {
        nodes = s.nodes;
        domains = s.domains;
        watches = watches_grown w.domains w.watches _ s.watches
            (record {
              known = k;
              token = f.token;
              place = place-good w c p depth q.0 f.place f.depth h;
              depth-fits = depth-fits p depth f.depth;
              token-fits = leb-true _ _ r.0;
              place-fits = place-fits w c p q.0 f.place;
            }) x;
        transactions = s.transactions;
      }) (λ y. left_keeps (refused ENOSPC)))

  unwatching_keeps : (c : Connection) (p : Place) (t : Octets) → Keeps (unwatching w c p t)
  unfolding unwatching to
  unwatching_keeps c p t =
      cond_case Keeps (watched c (place_text p) t w.watches) _ _
      (record {
        nodes = s.nodes;
        domains = s.domains;
        watches = watches-left w.domains _ s.watches (length_without (twin c (place_text p) t) w.watches)
            (λ i v q. let p = (at_without _ w.watches i v q).0 in (p, (s.watches.each i v p).known));
        transactions = s.transactions;
      })
      (left_keeps (refused ENOENT))

  -- a START
  starting_keeps : (c : Connection) → known (domain_of c) w.domains ≡ true → Keeps (starting w c)
  unfolding starting to
  starting_keeps c h =
      cond-known Keeps (ltb (lowest w.transactions) (length w.transactions)) _ _ (λ l.
      record {
        nodes = s.nodes;
        domains = s.domains;
        watches = s.watches;
        transactions = transactions-written (lowest w.transactions) _ w.nodes s.transactions (ltb-true _ _ l) s.nodes (λ y.
            record { known = h; few = omega arith; good = tt; fit = tt; copy = y });
      }) (λ l. left_keeps (refused ENOSPC))

  ending_keeps : (c : Connection) (tx : ℕ) (commit : Bool) → Keeps (ending w c tx commit)
  unfolding ending
  ending_keeps c tx commit = go (transaction_of w c tx) refl
    where
      go : (m : Option Transaction) → transaction_of w c tx ≡ m
          → Keeps (elim m [
            | none ↦ left w (refused ENOENT)
            | some x ↦ cond commit (cond x.stale (closing w (tx - 1) (refused EAGAIN)) (committing w (tx - 1) x)) (closing w (tx - 1) OK)
          ])
      go none e = left_keeps (refused ENOENT)
      go (some x) e =
          cond_case Keeps commit _ _ (cond_case Keeps x.stale _ _ (closing_keeps (tx - 1) (refused EAGAIN))
          (committing_keeps (tx - 1) x (named w tx c x e).0)) (closing_keeps (tx - 1) OK)

  -- domains
  introducing_keeps : (d page channel : ℕ) → (1 ≤ d) × (d ≤ last_domain) → Keeps (introducing w d page channel)
  unfolding introducing
  introducing_keeps d page channel h =
      cond-known Keeps (introduced d w.domains) _ _ (λ x. left_keeps (refused EEXIST)) (λ x.
      cond_case Keeps (ltb (lowest w.domains) (length w.domains)) _ _
      (record {
        nodes = s.nodes;
        domains = domains_grown w.domains d s.domains x h.0 h.1;
        watches = watches-left _ w.watches s.watches refl (λ i v q. (q, known_grown w.domains _ d (s.watches.each i v q).known));
        transactions = transactions-left _ w.transactions s.transactions refl
            (λ k y q. (y, q, refl, known_grown w.domains _ d (s.transactions.each k y q).known));
      })
      (left_keeps (refused ENOSPC)))

  releasing_keeps : (d : Domain) → (1 ≤ d) × (d ≤ last_domain) → Keeps (releasing w d)
  unfolding releasing to without_watches without_transactions speaks_for
  releasing_keeps d h =
      cond_case Keeps (introduced d w.domains) _ _
      (record {
        nodes =
            record {
              good = without_all-good _ w.nodes s.nodes.good (owned_fine w.nodes d s.nodes.good h.0);
              fitting = without_all-fits _ w.nodes s.nodes.fitting;
            };
        domains = domains_shrunk w.domains (eqb d) s.domains;
        watches = watches-left _ _ s.watches (length_without (λ (v : Watch). eqb d (domain_of v.owner)) w.watches) (λ i v q.
            let p = at_without (λ (v : Watch). eqb d (domain_of v.owner)) w.watches i v q in
            (p.0, known_shrunk w.domains _ d (s.watches.each i v p.0).known p.1));
        transactions = transactions-left _ _ s.transactions
            (length-staled_if (not (is_empty (map (removal_of w) (owned_by w.nodes d)))) _
            ∙ length_without (λ (x : Transaction). eqb d (domain_of x.holder)) w.transactions) (λ k y q.
            let r = unstaled (not (is_empty (map (removal_of w) (owned_by w.nodes d)))) _ k y q in
            let p = at_without (λ (x : Transaction). eqb d (domain_of x.holder)) w.transactions k r.0 r.1 in
            (r.0, p.0, r.3, rw r.2 (known_shrunk w.domains _ d (s.transactions.each k r.0 p.0).known p.1)));
      })
      (left_keeps (refused ENOENT))

  -- every request of a known sender
  control_keeps : (c : Connection) (y : Outcome) → (is_control (domain_of c) ≡ true → Keeps y) → Keeps (for_control w c y)
  unfolding for_control
  control_keeps c y h = cond-known Keeps (is_control (domain_of c)) _ _ h (λ e. left_keeps (refused EACCES))

  place_keeps : (c : Connection) (p : Place) (y : Outcome) → (Controlled c p → Keeps y) → Keeps (for_place w c p y)
  unfolding for_place
  place_keeps c (path r ns) y h = h tt
  place_keeps c (event e) y h = control_keeps c y h

  handle_keeps : (c : Connection) (tx : ℕ) (q : Request) → known (domain_of c) w.domains ≡ true → RequestGood c q → Keeps (handle w c tx q)
  unfolding handle
  handle_keeps c tx (ask a ns) h f = asked_keeps c tx a ns (known_range w.domains (domain_of c) s.domains h) f
  handle_keeps c tx (watch p t depth) h f = place_keeps c p _ (watching_keeps c p t depth h f)
  handle_keeps c tx (unwatch p t) h f = place_keeps c p _ (λ u. unwatching_keeps c p t)
  handle_keeps c tx start h f = starting_keeps c h
  handle_keeps c tx (end commit) h f = ending_keeps c tx commit
  handle_keeps c tx (introduce d page channel) h f = control_keeps c _ (λ u. introducing_keeps d page channel f)
  handle_keeps c tx (release d) h f = control_keeps c _ (λ u. releasing_keeps d f)
  handle_keeps c tx (domain_path d) h f = left_keeps _
  handle_keeps c tx (is_introduced d) h f = left_keeps _
  handle_keeps c tx reset h f = resetting_keeps c

  pub outcome_keeps : (c : Connection) (tx : ℕ) (p : Parsed) → known (domain_of c) w.domains ≡ true → ParsedGood c p → Keeps (outcome_of w c tx p)
  unfolding outcome_of
  outcome_keeps c tx unknown h f = left_keeps (refused ENOSYS)
  outcome_keeps c tx invalid h f = left_keeps (refused EINVAL)
  outcome_keeps c tx (request q) h f = handle_keeps c tx q h f
