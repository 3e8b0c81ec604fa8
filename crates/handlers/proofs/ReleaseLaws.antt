-- What RELEASE comes to.
use mathlib.Core.Path.{◌≡◌, refl, sym, ap, subst, ◌∙◌}
use mathlib.Core.Bool.{Bool, true, false, not}
use mathlib.Core.List.{List, [], ◌∷◌, ◌++◌, map}
use Prim.Native.Nat.{ℕ, ◌+◌, ◌*◌, ◌≤◌, ◌<◌}
use native.Mathlib.Omega.{arith}
use lib.Dec.{eqb, eqb-suc-zero}
use lib.ListN.{length, take, length-map, length-take}
use lib.Seq.{length-take-le}
use Rattle.rules.specs.Size.{last_domain, slots, most_records, events_size, record_size}
use Rattle.rules.proofs.Senders.{speaks-own}
use Rattle.rules.specs.Octets.{Octets}
use Rattle.rules.specs.Entries.{is_empty, without}
use Rattle.rules.specs.Domain.{Domain}
use Rattle.rules.specs.Path.{release_name}
use Rattle.rules.specs.Node.{Table, owned_by, without_all}
use Rattle.rules.specs.Answer.{OK, ENOENT, refused, Change}
use Rattle.rules.specs.Event.{Watch, Watches, Record, heard, heard_of}
use Rattle.rules.specs.Layout.{Transaction, Transactions, Domains, table_bytes, table_of, watches_bytes, watches_of, transactions_bytes, transactions_of}
use Rattle.rules.specs.Layout.{domains_bytes, domains_of}
use Rattle.rules.specs.Sound.{introduced}
use Rattle.rules.specs.World as W
use Rattle.rules.specs.World.{World, left, to, staled, staled_if, without_watches, without_transactions, releasing, with_nodes, with_watches}
use Rattle.rules.specs.World.{with_transactions, with_domains}
use Rattle.rules.proofs.GoodNodes.{without_all-good}
use Rattle.rules.proofs.Fitting.{without_all-fits}
use Rattle.rules.proofs.Slots.{table-read}
use Rattle.rules.proofs.SoundWorld.{TableSound, table_encoded, table_decoded}
use Rattle.rules.proofs.SoundEntries.{owned_fine}
use Rattle.rules.proofs.OpenTransactions.{empty_mapped}
use Rattle.rules.proofs.Changes.{heard-few}
use Rattle.rules.proofs.Tables.{Each}
use Rattle.lookup.specs.Children.{AllAsked}
use Rattle.lookup.specs.Walk.{Owned}
use Rattle.watches.specs.Watch.{KeptWatches}
use Rattle.transactions.specs.Transaction.{KeptTransactions}
use Rattle.transactions.proofs.Written.{without-transactions}
use Rattle.watches.proofs.Written.{without-watches}
use Rattle.events.specs.Records as Events
use Rattle.events.specs.Stores.{Stores, removal_of, event_name}
use Rattle.events.proofs.RecordLaws.{recorded_more, recorded-length}
use Rattle.std.specs.Prelude.{Ok}
use Rattle.replies.specs.Framed.{Told}
use Rattle.replies.specs.Handled.{Outcome, Handled, with_events}
use Rattle.replies.specs.Does.{tables, its_copies}
use Rattle.handlers.specs.Releasing.{Forgotten, Releasable, Released}
use Rattle.handlers.proofs.Ways.{same_tables_lem, heard_so}
use Rattle.handlers.proofs.PlainLaws.{recorded-first}

-- ── the side tables ──

pub ended-kept : (xs : Octets) → KeptTransactions xs → (d : Domain) (t : Octets) → t ≡ transactions_bytes (without_transactions (eqb d) (transactions_of xs)) →
    KeptTransactions t × (transactions_of t ≡ without_transactions (eqb d) (transactions_of xs))
unfolding without_transactions
ended-kept xs k d t e = without-transactions xs k (λ (x : Transaction). eqb d x.holder) t e

unwatched-kept : (ws : Octets) → KeptWatches ws → (d : Domain) (t : Octets) → t ≡ watches_bytes (without_watches (eqb d) (watches_of ws)) →
    KeptWatches t × (watches_of t ≡ without_watches (eqb d) (watches_of ws))
unfolding without_watches
unwatched-kept ws k d t e = without-watches ws k (λ (v : Watch). eqb d v.owner) t e

module _ (ws xs ds : Octets) (k : KeptTransactions xs) (d : Domain) (ws' xs₁ xs' ds' : Octets)
    (unwatched : ws' ≡ watches_bytes (without_watches (eqb d) (watches_of ws)))
    (ended : xs₁ ≡ transactions_bytes (without_transactions (eqb d) (transactions_of xs))) (gone : ds' ≡ domains_bytes (without (eqb d) (domains_of ds))) where
  pub forgotten-stale : (b : Bool) → b ≡ true → xs' ≡ transactions_bytes (staled (transactions_of xs₁)) → Forgotten ws xs ds d b ws' xs' ds'
  unfolding staled_if
  forgotten-stale b e h =
      record {
        unwatched = unwatched;
        ended = rw e (h ∙ ap (λ (y : Transactions). transactions_bytes (staled y)) (ended-kept xs k d xs₁ ended).1);
        forgotten = gone;
      }

  pub forgotten_still : (b : Bool) → b ≡ false → xs' ≡ xs₁ → Forgotten ws xs ds d b ws' xs' ds'
  unfolding staled_if
  forgotten_still b e h = record { unwatched = unwatched; ended = rw e (h ∙ ended); forgotten = gone }

-- ── the nodes ──

-- a removal creates nothing
no_parents : (t : Table) (is : List ℕ) → Each (λ (c : Change). c.parents < 1) (map (removal_of t) is)
unfolding removal_of
no_parents t [] = tt
no_parents t (i ∷ is) = (omega arith, no_parents t is)

none_left : (is : List ℕ) → is_empty is ≡ eqb (length is) 0
unfolding is_empty
none_left [] = refl
none_left (i ∷ is) = rw eqb-suc-zero refl

module _ (nodes ws xs ds events : Octets) (s : Releasable nodes ws xs ds events) (d : Domain) (low : 1 ≤ d) (list : List ℕ) (long : length list ≡ slots)
    (n : ℕ) (o : Owned nodes d list n) where
  abbrev pub mine : List ℕ
  mine = owned_by (table_of nodes) d

  abbrev pub rest : Table
  rest = without_all (table_of nodes) mine

  rest-sound : TableSound rest
  rest-sound =
      let t = table_decoded nodes s.sound in
      record {
        good = without_all-good mine (table_of nodes) t.good (owned_fine (table_of nodes) d t.good low);
        fitting = without_all-fits mine (table_of nodes) t.fitting;
      }

  -- whether there are any
  pub any_mine : not (eqb n 0) ≡ not (is_empty mine)
  any_mine =
      let e : length mine ≡ n = ap length (sym o.all) ∙ length-take-le n list (omega (arith, o.few, long)) in
      ap not (sym (none_left mine ∙ ap (λ (k : ℕ). eqb k 0) e))

  module _ (nodes' : Octets) (removed : nodes' ≡ table_bytes (without_all (table_of nodes) (take n list))) where
    pub left-nodes : nodes' ≡ table_bytes rest
    left-nodes = removed ∙ ap (λ (is : List ℕ). table_bytes (without_all (table_of nodes) is)) o.all

    back : table_of nodes' ≡ rest
    back = ap table_of left-nodes ∙ table-read rest rest-sound.fitting.long rest-sound.fitting.all

    module _ (removal : Bool) (ws' xs' ds' : Octets) (f : Forgotten ws xs ds d removal ws' xs' ds') (before : Octets) (b : before ≡ nodes) where
      -- what the records of the removals want
      pub removals_ready : Stores before nodes' ws' × (n ≤ length list) × (n ≤ most_records) × AllAsked before (take n list) × (length events ≡ events_size)
      removals_ready = (
        record { was = rw b s.sound; is = rw left-nodes (table_encoded rest rest-sound).0; kept = (unwatched-kept ws s.watching d ws' f.unwatched).0 },
        omega (arith, o.few, long),
        omega (arith, o.few),
        rw b o.asked,
        s.room,
      )

      abbrev gone_heard : List Record
      gone_heard = heard (table_of before) (table_of nodes') (watches_of ws') (map (removal_of (table_of before)) (take n list))

      module _ (events₁ : Octets) (n₁ : ℕ) (r : Events.Recorded 0 gone_heard events events₁ n₁) where
        few : n₁ ≤ n
        few =
            let gone = map (removal_of (table_of before)) (take n list) in
            let h = heard-few (table_of before) (table_of nodes') (watches_of ws') 1 gone (no_parents (table_of before) (take n list)) in
            let l : length (map (removal_of (table_of before)) (take n list)) ≤ n = simp (length-map, length-take) (omega arith) in
            omega (arith, r.count, h, l)

        many : (0 + length gone_heard) * record_size ≤ length events
        many = rw s.room (omega (arith, few, r.count, o.few))

        -- what the record of the domain's event wants
        pub domain_ready : KeptWatches ws' × Events.Room events₁ n₁ 1
        domain_ready = (
          (unwatched-kept ws s.watching d ws' f.unwatched).0,
          record { whole = recorded-length 0 _ events events₁ n₁ many r ∙ s.room; few = omega (arith, o.few, few) },
        )

        pub released : removal ≡ not (is_empty mine) → (events' : Octets) (m : ℕ) →
            Events.Recorded n₁ (heard_of (event_name true) d (watches_of ws')) events₁ events' m →
            Released nodes ws xs ds d events nodes' ws' xs' ds' events' m
        unfolding event_name
        released e events' m q =
            let j = recorded_more 0 _ _ events events₁ events' n₁ m (omega arith) r q in
            let w = (unwatched-kept ws s.watching d ws' f.unwatched).1 in
            record {
              removed = left-nodes;
              without = subst (λ (x : Bool). Forgotten ws xs ds d x ws' xs' ds') e f;
              recorded = rw (b, back, w, o.all) at j;
            }

-- ── the request ──

module _ (w : World) (d : Domain) (ds : Domains) (here : w.domains ≡ ds) where
  pub release-unknown : introduced d ds ≡ false → releasing w d ≡ left w (refused ENOENT)
  unfolding releasing left
  release-unknown h = rw (here, h) refl

  abbrev pub gone : List ℕ
  gone = owned_by w.nodes d

  abbrev pub watching : Watches
  watching = without_watches (eqb d) w.watches

  pub release-done : 1 ≤ d → d ≤ last_domain → introduced d ds ≡ true → releasing w d
      ≡ to w OK
      (with_domains (with_transactions (with_watches (with_nodes w (without_all w.nodes gone)) watching)
      (staled_if (not (is_empty gone)) (without_transactions (eqb d) w.transactions))) (without (eqb d) ds))
      (heard w.nodes (without_all w.nodes gone) watching (map (removal_of w.nodes) gone) ++ heard_of release_name d watching)
  unfolding releasing left to W.removal_of removal_of
  release-done low high h = rw (here, h, empty_mapped (W.removal_of w) gone, speaks-own d low high) refl

module _ (nodes ws xs ds : Octets) (d : Domain) (events nodes' ws' xs' ds' events' : Octets) (n : ℕ)
    (q : Released nodes ws xs ds d events nodes' ws' xs' ds' events' n)
    (w : World) (nw : w.nodes ≡ table_of nodes) (ww : w.watches ≡ watches_of ws) (xw : w.transactions ≡ transactions_of xs)
    (dw : w.domains ≡ domains_of ds) where
  pub released-handled : 1 ≤ d → d ≤ last_domain → introduced d (domains_of ds) ≡ true → (reply reply' : Octets) (x : ℕ) (r : Outcome) →
      Told OK (Ok x) reply reply' → r ≡ with_events (Ok x) n →
      Handled (releasing w d) (tables nodes' (its_copies w) ws' xs' ds') reply reply' events events' r
  released-handled low high h reply reply' x r t p =
      let e = release-done w d (domains_of ds) dw low high h in
      let f = recorded-first _ _ _ _ q.recorded in
      heard_so w _ reply r OK _ _ reply' events events' x n _ e p t (f.0 ∙ rw (nw, ww) refl) (f.1 ∙ rw (nw, ww) refl)
      (same_tables_lem (q.removed ∙ rw nw refl) refl (q.without.unwatched ∙ rw ww refl) (q.without.ended ∙ rw (nw, xw) refl) q.without.forgotten)
