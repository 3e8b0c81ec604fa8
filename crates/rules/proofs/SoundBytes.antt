-- Soundness of the bytes: a sound world's bytes are sound, and sound bytes mean a sound world.
use mathlib.Core.Path.{◌≡◌, sym, ◌∙◌, ap, subst}
use mathlib.Core.Bool.{true, ◌&&◌, and-eq-true_iff}
use mathlib.Core.List.{List, map, flat_map}
use mathlib.Core.Option.{Option, none, some}
use Prim.Native.Nat.{ℕ, ◌*◌, ◌≤◌, ◌<◌}
use lib.ListN.{length, take, drop, length-map}
use lib.Dec.{eqb}
use borrow.Author.Tests.{eqb-true, eq-eqb}
use Rattle.rules.specs.Size.{most_transactions, most_domains, most_watches, table_size, copies_size, domains_size, watches_size, transactions_size}
use Rattle.rules.specs.Size.{transaction_size, most_changes}
use Rattle.rules.specs.Octets.{Octets, same, chunks, field}
use Rattle.rules.specs.Path.{domain_of}
use Rattle.rules.specs.Event.{Watch, Watches}
use Rattle.rules.specs.Layout.{Domains, Transaction, Transactions, table_bytes, table_of, domains_bytes, domains_of, watches_bytes, watches_of}
use Rattle.rules.specs.Layout.{transaction_in, transactions_bytes, transactions_of}
use Rattle.rules.specs.Sound.{known, good_domains, sound_domains, good_watch, good_watches, sound_watches, good_table, sound_table, good_transactions}
use Rattle.rules.specs.Sound.{sound_transactions, good_place, no_nul}
use Rattle.rules.specs.World.{World}
use Rattle.rules.specs.Call.{Tables, sized_tables, sound, Lendable, world_of, tables_of}
use Rattle.rules.proofs.Compare.{same_refl, same_eq}
use Rattle.rules.proofs.Tables.{Each, length_encoded, length-chunks, decoded_at}
use Rattle.rules.proofs.Slots.{table-read}
use Rattle.rules.proofs.Places.{At, at_below, every_at, related_one}
use Rattle.rules.proofs.EntryLayouts.{whole, copies-read, rows_sized, rows_joined, domains-read, length-domains, watches-read, length-watches}
use Rattle.rules.proofs.DecodedEntries.{WatchRead, place-named, watch_in_lem, watch_decoded, transaction_in_lem, transaction_decoded}
use Rattle.rules.proofs.TransactionLayouts.{ChangeFits, transactions-read, length-transactions}
use Rattle.rules.proofs.SoundWorld.{DomainsSound, WatchSound, twins, WatchesSound, TransactionsSound, SoundWorld, table_encoded, table_decoded}
use Rattle.rules.proofs.SoundEntries.{twins_sym}
use Rattle.rules.proofs.SoundTables.{domains-good, good-domains, domains_fit, watches-parts, watches-good, watches_fit, changes-good}
use Rattle.rules.proofs.SoundTables.{good-changes, transactions-good, good-transactions, transactions_fit}

-- ── a sound world's bytes ──

module _ (w : World) (s : SoundWorld w) where
  nodes_back : table_of (table_bytes w.nodes) ≡ w.nodes
  nodes_back = table-read w.nodes s.nodes.fitting.long s.nodes.fitting.all

  domains_back : domains_of (domains_bytes w.domains) ≡ w.domains
  domains_back = domains-read w.domains s.domains.long (domains_fit w.domains s.domains)

  watches_back : watches_of (watches_bytes w.watches) ≡ w.watches
  watches_back = watches-read w.watches s.watches.long (watches_fit w.domains w.watches s.domains s.watches)

  transactions_back : transactions_of (transactions_bytes w.transactions) ≡ w.transactions
  transactions_back = transactions-read w.transactions s.transactions.long
      (transactions_fit w.domains w.transactions w.copies s.domains s.transactions)

  copies_back : chunks most_transactions table_size (flat_map whole w.copies) ≡ w.copies
  copies_back = ap (λ (n : ℕ). chunks n table_size (flat_map whole w.copies)) (sym s.transactions.copies)
      ∙ copies-read table_size w.copies s.transactions.sized

  pub world_back : world_of (tables_of w) ≡ w
  unfolding world_of tables_of
  world_back = λ i. record {
    nodes = nodes_back i;
    copies = copies_back i;
    watches = watches_back i;
    transactions = transactions_back i;
    domains = domains_back i;
  }

  length_of_domains : length (domains_bytes w.domains) ≡ domains_size
  length_of_domains = length-domains w.domains (domains_fit w.domains s.domains) ∙ rw s.domains.long

  length_of_watches : length (watches_bytes w.watches) ≡ watches_size
  length_of_watches = length-watches w.watches (watches_fit w.domains w.watches s.domains s.watches) ∙ rw s.watches.long

  length_of_transactions : length (transactions_bytes w.transactions) ≡ transactions_size
  length_of_transactions = length-transactions w.transactions (transactions_fit w.domains w.transactions w.copies s.domains s.transactions)
      ∙ rw s.transactions.long

  length_of_copies : length (flat_map whole w.copies) ≡ copies_size
  length_of_copies = length_encoded whole table_size w.copies s.transactions.sized ∙ rw s.transactions.copies

  encoded_sized : sized_tables (tables_of w) ≡ true
  unfolding sized_tables tables_of
  encoded_sized =
      rw (
        eq-eqb _ _ (table_encoded w.nodes s.nodes).1,
        eq-eqb _ _ length_of_copies,
        eq-eqb _ _ length_of_watches,
        eq-eqb _ _ length_of_transactions,
        eq-eqb _ _ length_of_domains,
      )

  encoded_domains : sound_domains (domains_bytes w.domains) ≡ true
  unfolding sound_domains
  encoded_domains = rw (domains_back, eq-eqb _ _ length_of_domains, same_refl (domains_bytes w.domains)) (domains-good w.domains s.domains)

  encoded_watches : sound_watches w.domains (watches_bytes w.watches) ≡ true
  unfolding sound_watches
  encoded_watches = rw (watches_back, eq-eqb _ _ length_of_watches, same_refl (watches_bytes w.watches)) (watches-good w.domains w.watches s.watches)

  encoded_transactions : sound_transactions w.domains w.copies (transactions_bytes w.transactions) ≡ true
  unfolding sound_transactions
  encoded_transactions =
      rw (transactions_back, eq-eqb _ _ length_of_transactions, same_refl (transactions_bytes w.transactions))
      (transactions-good w.domains w.transactions w.copies (s.transactions.copies ∙ sym s.transactions.long)
      (λ k x q. let y = s.transactions.each k x q in (y.known, changes-good x.changes y.good, y.copy)))

  encoded_sound : sound (tables_of w) ≡ true
  unfolding sound tables_of
  encoded_sound = rw (domains_back, copies_back, (table_encoded w.nodes s.nodes).0, encoded_domains, encoded_watches, encoded_transactions)

  pub encoded : Lendable (tables_of w)
  encoded = record { sized = encoded_sized; sound = encoded_sound }

-- ── what sound bytes mean ──

-- an entry that was read, and the row that it was read from
row_of : {A : Type 0} (decode : Octets → Option A) (n k : ℕ) (s : Octets) (i : ℕ) (x : A) → At (map decode (chunks n k s)) i x →
    (row : Octets) × (decode row ≡ some x)
row_of decode n k s i x e =
    let l : i < n = rw (length-map (chunks n k s) decode, length-chunks n k s) at (at_below (map decode (chunks n k s)) i x e) in
    (take k (drop (i * k) s), sym (decoded_at decode n k i s none l) ∙ e)

module _ (t : Tables) (l : Lendable t) where
  ds : Domains
  ds = domains_of t.domains

  ws : Watches
  ws = watches_of t.watches

  xs : Transactions
  xs = transactions_of t.transactions

  cs : List Octets
  cs = chunks most_transactions table_size t.copies

  -- the parts of the two tests
  sizes : (eqb (length t.nodes) table_size ≡ true) × (eqb (length t.copies) copies_size ≡ true)
  unfolding sized_tables
  sizes =
      let p = (and-eq-true_iff (eqb (length t.nodes) table_size) (eqb (length t.copies) copies_size
      && (eqb (length t.watches) watches_size && (eqb (length t.transactions) transactions_size && eqb (length t.domains) domains_size)))).0
      l.sized in (
        p.0,
        ((and-eq-true_iff (eqb (length t.copies) copies_size)
            (eqb (length t.watches) watches_size && (eqb (length t.transactions) transactions_size && eqb (length t.domains) domains_size))).0 p.1).0,
      )

  tests : (sound_table t.nodes ≡ true) × (sound_domains t.domains ≡ true) × (sound_watches ds t.watches ≡ true)
      × (sound_transactions ds cs t.transactions ≡ true)
  unfolding sound ds cs
  tests =
      let p = (and-eq-true_iff (sound_table t.nodes) (sound_domains t.domains
      && (sound_watches ds t.watches && sound_transactions ds cs t.transactions))).0 l.sound in
      let q = (and-eq-true_iff (sound_domains t.domains) (sound_watches ds t.watches && sound_transactions ds cs t.transactions)).0 p.1 in
      let r = (and-eq-true_iff (sound_watches ds t.watches) (sound_transactions ds cs t.transactions)).0 q.1 in
      (p.0, q.0, r.0, r.1)

  domains_test : (same (domains_bytes ds) t.domains ≡ true) × (good_domains ds ≡ true)
  unfolding sound_domains ds
  domains_test =
      (and-eq-true_iff (same (domains_bytes ds) t.domains) (good_domains ds)).0
      ((and-eq-true_iff (eqb (length t.domains) domains_size) (same (domains_bytes ds) t.domains && good_domains ds)).0 tests.1).1

  watches_test : (same (watches_bytes ws) t.watches ≡ true) × (good_watches ds ws ≡ true)
  unfolding sound_watches ws
  watches_test =
      (and-eq-true_iff (same (watches_bytes ws) t.watches) (good_watches ds ws)).0
      ((and-eq-true_iff (eqb (length t.watches) watches_size) (same (watches_bytes ws) t.watches && good_watches ds ws)).0 tests.2).1

  transactions_test : (same (transactions_bytes xs) t.transactions ≡ true) × (good_transactions ds xs cs ≡ true)
  unfolding sound_transactions xs
  transactions_test =
      (and-eq-true_iff (same (transactions_bytes xs) t.transactions) (good_transactions ds xs cs)).0
      ((and-eq-true_iff (eqb (length t.transactions) transactions_size) (same (transactions_bytes xs) t.transactions && good_transactions ds xs cs)).0
      tests.3).1

  nodes_test : same (table_bytes (table_of t.nodes)) t.nodes ≡ true
  unfolding sound_table
  nodes_test =
      ((and-eq-true_iff (same (table_bytes (table_of t.nodes)) t.nodes) (good_table (table_of t.nodes))).0
      ((and-eq-true_iff (eqb (length t.nodes) table_size) (same (table_bytes (table_of t.nodes)) t.nodes && good_table (table_of t.nodes))).0
      tests.0).1).0

  decoded_domains : DomainsSound ds
  unfolding ds domains_of
  decoded_domains = good-domains ds (length-map (chunks most_domains _ t.domains) _ ∙ length-chunks most_domains _ t.domains) domains_test.1

  decoded_watch : (i : ℕ) (v : Watch) → At ws i v → WatchSound ds v
  unfolding ws watches_of good_watch
  decoded_watch i v e =
      let r = row_of _ most_watches _ t.watches i v e in
      let w = subst WatchRead (watch_in_lem r.0 v r.1) (watch_decoded r.0 (field r.0 0 6)) in
      let g = every_at (good_watch ds) ws (watches-parts ds ws watches_test.1).0 i v e in
      let p = (and-eq-true_iff (known (domain_of v.owner) ds) (no_nul v.token && good_place v.owner v.depth v.place)).0 g in
      let q = (and-eq-true_iff (no_nul v.token) (good_place v.owner v.depth v.place)).0 p.1 in
      record {
        known = p.0;
        token = q.0;
        place = q.1;
        depth-fits = w.depth;
        token-fits = w.token;
        place-fits = w.place (place-named v.owner v.depth v.place q.1);
      }

  decoded_watches : WatchesSound ds ws
  unfolding ws watches_of
  decoded_watches =
      record {
        long = length-map (chunks most_watches _ t.watches) _ ∙ length-chunks most_watches _ t.watches;
        each = decoded_watch;
        differ = related_one twins twins_sym ws (watches-parts ds ws watches_test.1).1;
      }

  decoded_transactions : TransactionsSound ds xs cs
  unfolding xs cs transactions_of
  decoded_transactions =
      record {
        long = long;
        copies = length-chunks most_transactions table_size t.copies;
        sized = rows_sized most_transactions table_size t.copies (eqb-true _ _ sizes.1);
        each = λ k x e.
            let r = row_of transaction_in most_transactions transaction_size t.transactions k x e in
            let w = subst (λ (y : Transaction). (length y.changes ≤ most_changes) × Each ChangeFits y.changes) (transaction_in_lem r.0 x r.1)
            (transaction_decoded r.0 (field r.0 0 3)) in
            let g = good-transactions ds xs cs transactions_test.1 (length-chunks most_transactions table_size t.copies ∙ sym long) k x e in
            record { known = g.0; few = w.0; good = good-changes x.changes g.1; fit = w.1; copy = g.2 };
      }
    where
      long : length (map transaction_in (chunks most_transactions transaction_size t.transactions)) ≡ most_transactions
      long = length-map (chunks most_transactions transaction_size t.transactions) transaction_in
          ∙ length-chunks most_transactions transaction_size t.transactions

  pub decoded : SoundWorld (world_of t)
  unfolding world_of ds ws xs cs
  decoded = record { nodes = table_decoded t.nodes tests.0; domains = decoded_domains; watches = decoded_watches; transactions = decoded_transactions }

  -- the copies' bytes as rows are the copies' bytes
  pub bytes_back : tables_of (world_of t) ≡ t
  unfolding tables_of world_of ds ws xs cs
  bytes_back = λ i. record {
    nodes = same_eq _ _ nodes_test i;
    copies = rows_joined most_transactions table_size t.copies (eqb-true _ _ sizes.1) i;
    watches = same_eq _ _ watches_test.0 i;
    transactions = same_eq _ _ transactions_test.0 i;
    domains = same_eq _ _ domains_test.0 i;
  }
