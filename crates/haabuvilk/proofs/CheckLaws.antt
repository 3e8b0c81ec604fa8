-- The checks before a request is looked at, one by one.
use mathlib.Core.Path.{◌≡◌, refl, sym, ap, ◌∙◌}
use mathlib.Core.Bool.{true, false, ◌&&◌}
use mathlib.Core.List.{List, [], ◌∷◌}
use mathlib.Core.Option.{Option, none, some}
use Prim.Native.Nat.{ℕ, ◌+◌, ◌*◌, ◌-◌, ◌<◌, ◌≤◌}
use native.Mathlib.Nat.{add-sub_cancel_left}
use native.Mathlib.Numerals.{add-one}
use lib.ListN.{length, get_or, take, drop, drop_of_length-le}
use lib.Seq.{drop-cons}
use borrow.Author.Tests.{lt-ltb, le-ltb, eq-eqb, ne_eqb}
use Rattle.rules.specs.Size.{header_size, longest_payload, most_transactions, table_size, reply_size, events_size}
use Rattle.rules.specs.Octets.{Octets, little_endian, chunks}
use Rattle.rules.specs.Domain.{Connection, domain_of}
use Rattle.rules.specs.Layout.{opened, Transaction, Transactions, transactions_of, domains_of}
use Rattle.rules.specs.Sound.{sound_table, sound_domains, sound_watches, known}
use Rattle.rules.specs.Call.{Tables, handled, wrong_size, unsound, stranger, broken, overlong, sized_tables, sound, len_of, frame_verdict, request_verdict}
use Rattle.rules.proofs.Tables.{length-chunks, decoded_at}
use Rattle.rules.proofs.EntryLayouts.{whole, map_whole}
use Rattle.domains.specs.Entry.{taken}
use Rattle.transactions.specs.Checks.{sound_entries, sound_copies}
use Rattle.domains.proofs.Tests.{and_first, and_rest}
use Rattle.domains.proofs.Search.{free_none, taken-some}
use Rattle.transactions.proofs.Laws.{length-transactions_of}
use Rattle.transactions.proofs.Good.{sound-parts}
use Rattle.haabuvilk.specs.Checks.{sound_copy}

-- ── copies ──

pub copy-closed : (x : Option Transaction) (copy : Octets) → taken x ≡ false → sound_copy x copy ≡ true
unfolding sound_copy
copy-closed x copy f = rw (free_none x f)

pub copy_open : (x : Option Transaction) (copy : Octets) → taken x ≡ true → sound_copy x copy ≡ sound_table copy
unfolding sound_copy
copy_open x copy t = rw (taken-some (opened 0) x t)

-- copy k, as the code takes it
pub copy-part : (copies : Octets) (k : ℕ) → sound_table (take (k * table_size + table_size - k * table_size) (drop (k * table_size) copies))
    ≡ sound_table (take table_size (drop (k * table_size) copies))
copy-part copies k = ap (λ (n : ℕ). sound_table (take n (drop (k * table_size) copies))) (add-sub_cancel_left (k * table_size) table_size)

copies_cons : (x : Option Transaction) (copy : Octets) (xs : Transactions) (copies : List Octets) →
    sound_copies (x ∷ xs) (copy ∷ copies) ≡ (sound_copy x copy && sound_copies xs copies)
unfolding sound_copies sound_copy
copies_cons none copy xs copies = refl
copies_cons (some x) copy xs copies = refl

module _ (copies transactions : Octets) (i : ℕ) where
  copy_at : i < 3 → get_or (chunks most_transactions table_size copies) i [] ≡ take table_size (drop (i * table_size) copies)
  copy_at h =
      sym (ap (λ (l : List Octets). get_or l i []) (map_whole (chunks most_transactions table_size copies)))
      ∙ decoded_at whole most_transactions table_size i copies [] h

  -- the copies from place i on
  pub copies_next : i < 3 → sound_copies (drop i (transactions_of transactions)) (drop i (chunks most_transactions table_size copies))
      ≡ (sound_copy (get_or (transactions_of transactions) i none) (take table_size (drop (i * table_size) copies))
      && sound_copies (drop (i + 1) (transactions_of transactions)) (drop (i + 1) (chunks most_transactions table_size copies)))
  copies_next h =
      rw (
        drop-cons (transactions_of transactions) i none (rw (length-transactions_of transactions) h),
        drop-cons (chunks most_transactions table_size copies) i [] (rw (length-chunks most_transactions table_size copies) h),
        add-one,
        copy_at h,
      )
      (copies_cons _ _ _ _)

  pub copies_over : 3 ≤ i → sound_copies (drop i (transactions_of transactions)) (drop i (chunks most_transactions table_size copies)) ≡ true
  unfolding sound_copies
  copies_over h = rw (drop_of_length-le (transactions_of transactions) {i = i} (rw (length-transactions_of transactions) h))

-- ── the message's frame ──

module _ (m : Octets) where
  pub frame_short : length m < header_size → frame_verdict m ≡ broken
  unfolding frame_verdict
  frame_short h = rw (lt-ltb (length m) header_size h)

  module _ (n : ℕ) (h : header_size ≤ length m) (e : n ≡ little_endian m 12) where
    pub frame_overlong : longest_payload < n → frame_verdict m ≡ overlong
    unfolding frame_verdict len_of
    frame_overlong l = rw (le-ltb (length m) header_size h, ← e, lt-ltb longest_payload n l)

    pub frame_whole : n ≤ longest_payload → length m ≡ header_size + n → frame_verdict m ≡ handled
    unfolding frame_verdict len_of
    frame_whole l q = rw (le-ltb (length m) header_size h, ← e, le-ltb longest_payload n l, eq-eqb (length m) (header_size + n) q)

    pub frame_broken : n ≤ longest_payload → (length m ≡ header_size + n → ⊥) → frame_verdict m ≡ broken
    unfolding frame_verdict len_of
    frame_broken l q = rw (le-ltb (length m) header_size h, ← e, le-ltb longest_payload n l, ne_eqb (length m) (header_size + n) q)

-- ── the tables ──

module _ (t : Tables) where
  pub unsound-nodes : sound_table t.nodes ≡ false → sound t ≡ false
  unfolding sound
  unsound-nodes n = rw n

  module _ (n : sound_table t.nodes ≡ true) where
    pub unsound-domains : sound_domains t.domains ≡ false → sound t ≡ false
    unfolding sound
    unsound-domains d = rw (n, d)

    module _ (d : sound_domains t.domains ≡ true) where
      pub unsound-watches : sound_watches (domains_of t.domains) t.watches ≡ false → sound t ≡ false
      unfolding sound
      unsound-watches w = rw (n, d, w)

      module _ (w : sound_watches (domains_of t.domains) t.watches ≡ true) where
        transactions-left : sound t ≡ (sound_entries (domains_of t.domains) t.transactions
            && sound_copies (transactions_of t.transactions) (chunks most_transactions table_size t.copies))
        unfolding sound
        transactions-left =
            rw (n, d, w)
            (sound-parts (domains_of t.domains) (chunks most_transactions table_size t.copies) t.transactions
            (length-chunks most_transactions table_size t.copies ∙ sym (length-transactions_of t.transactions)))

        pub unsound_entries : sound_entries (domains_of t.domains) t.transactions ≡ false → sound t ≡ false
        unsound_entries e = transactions-left ∙ and_first _ _ e

        pub copies-left : sound_entries (domains_of t.domains) t.transactions ≡ true →
            sound t ≡ sound_copies (transactions_of t.transactions) (chunks most_transactions table_size t.copies)
        copies-left e = transactions-left ∙ and_rest _ _ e

-- ── the verdict ──

module _ (t : Tables) (reply events : Octets) (c : Connection) (m : Octets) where
  pub unsized_tables : sized_tables t ≡ false → request_verdict t reply events c m ≡ wrong_size
  unfolding request_verdict
  unsized_tables z = rw z

  module _ (z : sized_tables t ≡ true) where
    pub unsized_reply : (length reply ≡ reply_size → ⊥) → request_verdict t reply events c m ≡ wrong_size
    unfolding request_verdict
    unsized_reply r = rw (z, ne_eqb (length reply) reply_size r)

    module _ (r : length reply ≡ reply_size) where
      pub unsized_events : (length events ≡ events_size → ⊥) → request_verdict t reply events c m ≡ wrong_size
      unfolding request_verdict
      unsized_events e = rw (z, eq-eqb (length reply) reply_size r, ne_eqb (length events) events_size e)

      module _ (e : length events ≡ events_size) where
        pub unsound-tables : sound t ≡ false → request_verdict t reply events c m ≡ unsound
        unfolding request_verdict
        unsound-tables s = rw (z, eq-eqb (length reply) reply_size r, eq-eqb (length events) events_size e, s)

        module _ (s : sound t ≡ true) where
          pub unknown-sender : known (domain_of c) (domains_of t.domains) ≡ false → request_verdict t reply events c m ≡ stranger
          unfolding request_verdict
          unknown-sender k = rw (z, eq-eqb (length reply) reply_size r, eq-eqb (length events) events_size e, s, k)

          pub frame_left : known (domain_of c) (domains_of t.domains) ≡ true → request_verdict t reply events c m ≡ frame_verdict m
          unfolding request_verdict
          frame_left k = rw (z, eq-eqb (length reply) reply_size r, eq-eqb (length events) events_size e, s, k)
