-- All five tables, and what one request does to them: steps 3 to 7 of the order of checks.
use Rattle.std.specs.Prelude.{Bool, true, cond, not, ◌&&◌, List, [], ◌∷◌, ◌++◌, map, ℕ, zero, suc, ◌-◌, length, get_or, set, replicate, eqb, ltb, leb}
use Rattle.std.proofs.Math.Option.{Option, none, some}
use Rattle.rules.specs.Size.{most_transactions, most_watches, most_domains, most_changes, longest_token, table_size}
use Rattle.rules.specs.Octets.{Octets, text, nul, decimal}
use Rattle.rules.specs.Entries.{is_empty, lowest, without}
use Rattle.rules.specs.Domain.{Domain, Connection, domain_of, is_control}
use Rattle.rules.specs.Path.{Names, base, fits, path_text, introduce_name, release_name}
use Rattle.rules.specs.Node.{Table, fresh_table, owned_by, without_all, path_of}
use Rattle.rules.specs.Payload.{Ask, Place, path, event, Request, ask, watch, unwatch, start, end, introduce, release, domain_path, is_introduced, reset}
use Rattle.rules.specs.Answer.{EACCES, EEXIST, ENOENT, ENOSPC, EAGAIN, Reply, done, refused, OK, Change, Answer, answer}
use Rattle.rules.specs.Event.{Watch, Watches, Record, place_text, heard, heard_of, first_heard}
use Rattle.rules.specs.Layout.{table_bytes, table_of, Domains, Transaction, Transactions, opened, as_stale, with_change}
use Rattle.rules.specs.Sound.{introduced, known, twin, watched}

-- a copy is kept as bytes, since that of a closed transaction may hold anything
pub record World : Type 0 where
  pub nodes : Table
  pub copies : List Octets
  pub watches : Watches
  pub transactions : Transactions
  pub domains : Domains

pub record Outcome : Type 0 where
  pub reply : Reply
  pub world : World
  pub records : List Record
  pub page : ℕ
  pub channel : ℕ

-- ── the tables with one of them changed ──

abbrev pub with_nodes : World → Table → World
with_nodes w t = record { nodes = t; copies = w.copies; watches = w.watches; transactions = w.transactions; domains = w.domains }

abbrev pub with_copy : World → ℕ → Table → World
with_copy w k t =
    record { nodes = w.nodes; copies = set w.copies k (table_bytes t); watches = w.watches; transactions = w.transactions; domains = w.domains }

abbrev pub with_watches : World → Watches → World
with_watches w ws = record { nodes = w.nodes; copies = w.copies; watches = ws; transactions = w.transactions; domains = w.domains }

abbrev pub with_transactions : World → Transactions → World
with_transactions w xs = record { nodes = w.nodes; copies = w.copies; watches = w.watches; transactions = xs; domains = w.domains }

abbrev pub with_domains : World → Domains → World
with_domains w ds = record { nodes = w.nodes; copies = w.copies; watches = w.watches; transactions = w.transactions; domains = ds }

-- "Fresh: the root only, empty value, permission `n0`, other tables empty."
unfoldable pub fresh_world : World
fresh_world =
    record {
      nodes = fresh_table;
      copies = replicate most_transactions (replicate table_size 0);
      watches = replicate most_watches none;
      transactions = replicate most_transactions none;
      domains = replicate most_domains none;
    }

-- ── entries that go, and transactions that become stale ──

unfoldable pub staled : Transactions → Transactions
staled [] = []
staled (none ∷ xs) = none ∷ staled xs
staled (some x ∷ xs) = some (as_stale x) ∷ staled xs

unfoldable pub staled_if : Bool → Transactions → Transactions
staled_if b xs = cond b (staled xs) xs

-- the open transactions, told of what changed the main table: a plain change, another one's commit, a RELEASE
abbrev pub told : List Change → Transactions → Transactions
told cs xs = staled_if (not (is_empty cs)) xs

unfoldable pub without_transactions : (Connection → Bool) → Transactions → Transactions
without_transactions theirs xs = without (λ (x : Transaction). theirs x.holder) xs

unfoldable pub without_watches : (Connection → Bool) → Watches → Watches
without_watches theirs ws = without (λ (v : Watch). theirs v.owner) ws

-- a connection of domain d
unfoldable pub speaks_for : Domain → Connection → Bool
speaks_for d c = eqb d (domain_of c)

-- ── requests on the tables w ──

module _ (w : World) where
  -- "A refused request changes no table."
  unfoldable pub left : Reply → Outcome
  left r = record { reply = r; world = w; records = []; page = 0; channel = 0 }

  unfoldable pub to : Reply → World → List Record → Outcome
  to r after rs = record { reply = r; world = after; records = rs; page = 0; channel = 0 }

  -- "A change outside transactions (the holder's own too) makes all open transactions stale."
  unfoldable pub on_store : Answer → Outcome
  on_store a =
      elim a.change [
        | none ↦ left a.reply
        | some c ↦ to a.reply
            (with_transactions (with_nodes w a.table) (told (c ∷ []) w.transactions))
            (heard w.nodes a.table w.watches (c ∷ []))
      ]

  -- step 4: "an open transaction of the sender"
  unfoldable pub transaction_of : Connection → ℕ → Option Transaction
  transaction_of c zero = none
  transaction_of c (suc k) = elim (get_or w.transactions k none) [ none ↦ none | some x ↦ cond (eqb c x.holder) (some x) none ]

  -- in transaction k a change goes to the copy, and a ninth is ENOSPC
  unfoldable pub in_transaction : ℕ → Transaction → Answer → Outcome
  in_transaction k x a =
      elim a.change [
        | none ↦ left a.reply
        | some c ↦ cond (ltb (length x.changes) most_changes)
            (to a.reply (with_transactions (with_copy w k a.table) (set w.transactions k (some (with_change x c)))) [])
            (left (refused ENOSPC))
      ]

  unfoldable pub copy_of : ℕ → Table
  copy_of k = table_of (get_or w.copies k [])

  unfoldable pub asked : Connection → ℕ → Ask → Names → Outcome
  asked c tx a ns =
      cond (eqb tx 0) (on_store (answer (domain_of c) a ns w.nodes))
      (elim (transaction_of c tx) [
        | none ↦ left (refused ENOENT)
        | some x ↦ in_transaction (tx - 1) x (answer (domain_of c) a ns (copy_of (tx - 1)))
      ])

  unfoldable pub place_fits : Place → Bool
  place_fits (path r ns) = fits ns
  place_fits (event e) = true

  -- "EEXIST: the sender has that full watch path and token already"
  unfoldable pub watching : Connection → Place → Octets → Option ℕ → Outcome
  watching c p t depth =
      let k = lowest w.watches in
      let ws = set w.watches k (some (record { owner = c; place = p; depth = depth; token = t })) in
      cond (watched c (place_text p) t w.watches) (left (refused EEXIST))
      (cond (place_fits p && (leb (length t) longest_token && ltb k (length w.watches)))
      (to OK (with_watches w ws) (first_heard k p ws))
      (left (refused ENOSPC)))

  -- "an unknown UNWATCH (by owner, full path and token): ENOENT"
  unfoldable pub unwatching : Connection → Place → Octets → Outcome
  unwatching c p t =
      cond (watched c (place_text p) t w.watches)
      (to OK (with_watches w (without (twin c (place_text p) t) w.watches)) [])
      (left (refused ENOENT))

  -- "START answers the smallest of 1, 2, 3 that isn't open" and "copies the table's bytes"
  unfoldable pub starting : Connection → Outcome
  starting c =
      let k = lowest w.transactions in
      cond (ltb k (length w.transactions))
      (to (done (decimal (suc k) ++ nul)) (with_transactions (with_copy w k w.nodes) (set w.transactions k (some (opened c)))) [])
      (left (refused ENOSPC))

  -- "a closed copy is kept as it is"
  unfoldable pub closing : ℕ → Reply → Outcome
  closing k r = to r (with_transactions w (set w.transactions k none)) []

  -- "commit copies them back"; with a change it makes all other open transactions stale
  unfoldable pub committing : ℕ → Transaction → Outcome
  committing k x =
      to OK
      (with_transactions (with_nodes w (copy_of k)) (told x.changes (set w.transactions k none)))
      (heard w.nodes (copy_of k) w.watches x.changes)

  -- "END with T is EAGAIN exactly if stale. Both END forms close."
  unfoldable pub ending : Connection → ℕ → Bool → Outcome
  ending c tx commit =
      elim (transaction_of c tx) [
        | none ↦ left (refused ENOENT)
        | some x ↦ cond commit (cond x.stale (closing (tx - 1) (refused EAGAIN)) (committing (tx - 1) x)) (closing (tx - 1) OK)
      ]

  -- "or the domain is introduced": EEXIST
  unfoldable pub introducing : Domain → ℕ → ℕ → Outcome
  introducing d page channel =
      let k = lowest w.domains in
      cond (introduced d w.domains) (left (refused EEXIST))
      (cond (ltb k (length w.domains))
      (record {
        reply = OK;
        world = with_domains w (set w.domains k (some d));
        records = heard_of introduce_name d w.watches;
        page = page;
        channel = channel;
      })
      (left (refused ENOSPC)))

  unfoldable pub removal_of : ℕ → Change
  removal_of i = record { removal = true; parents = 0; names = path_of w.nodes i }

  -- "RELEASE drops the domain's watches and transactions and every node it owns, with all below."
  unfoldable pub releasing : Domain → Outcome
  releasing d =
      let owned = owned_by w.nodes d in
      let after = without_all w.nodes owned in
      let ws = without_watches (speaks_for d) w.watches in
      let changes = map removal_of owned in
      cond (introduced d w.domains)
      (to OK
      (with_domains (with_transactions (with_watches (with_nodes w after) ws) (told changes (without_transactions (speaks_for d) w.transactions)))
      (without (eqb d) w.domains))
      (heard w.nodes after ws changes ++ heard_of release_name d ws))
      (left (refused ENOENT))

  -- "RESET_WATCHES drops the sender's watches and transactions."
  unfoldable pub resetting : Connection → Outcome
  resetting c =
      to OK (with_transactions (with_watches w (without_watches (eqb c) w.watches)) (without_transactions (eqb c) w.transactions)) []

  -- step 3: "INTRODUCE, RELEASE, or WATCH or UNWATCH on an `@` path, from a sender other than 0: EACCES"
  unfoldable pub for_control : Connection → Outcome → Outcome
  for_control c o = cond (is_control (domain_of c)) o (left (refused EACCES))

  unfoldable pub for_place : Connection → Place → Outcome → Outcome
  for_place c (path r ns) o = o
  for_place c (event e) o = for_control c o

  -- `T` or `F` (`T` for 0)
  unfoldable pub introduced_text : Domain → Octets
  introduced_text d = cond (known d w.domains) (text "T") (text "F")

  -- what a connection's request does
  unfoldable pub handle : Connection → ℕ → Request → Outcome
  handle c tx (ask a ns) = asked c tx a ns
  handle c tx (watch p t depth) = for_place c p (watching c p t depth)
  handle c tx (unwatch p t) = for_place c p (unwatching c p t)
  handle c tx start = starting c
  handle c tx (end commit) = ending c tx commit
  handle c tx (introduce d page channel) = for_control c (introducing d page channel)
  handle c tx (release d) = for_control c (releasing d)
  handle c tx (domain_path d) = left (done (path_text (base d) ++ nul))
  handle c tx (is_introduced d) = left (done (introduced_text d ++ nul))
  handle c tx reset = resetting c
