-- What TRANSACTION_END comes to.
use mathlib.Core.Path.{◌≡◌, refl, sym, ap, ◌∙◌}
use mathlib.Core.Bool.{Bool, true, false, cond, not, false≢true, true≢false}
use mathlib.Core.List.{List, [], ◌∷◌, flat_map}
use mathlib.Core.Option.{Option, none, some}
use Prim.Native.Nat.{ℕ, zero, suc, ◌+◌, ◌-◌, ◌*◌, ◌≤◌, ◌<◌}
use native.Mathlib.Omega.{arith}
use lib.Dec.{eqb}
use lib.ListN.{length, set, get_or, take, drop, get_or-eq_default}
use Rattle.rules.specs.Size.{most_transactions, table_size}
use Rattle.rules.specs.Octets.{Octets, chunks, paste}
use Rattle.rules.specs.Entries.{is_empty}
use Rattle.rules.specs.Domain.{Connection}
use Rattle.rules.specs.Answer.{Reply, OK, ENOENT, EAGAIN, refused, Change}
use Rattle.rules.specs.Event.{Record, heard}
use Rattle.rules.specs.Layout.{Transaction, Transactions, table_bytes, table_of, watches_of, transactions_bytes, transactions_of, record_bytes}
use Rattle.rules.specs.World as W
use Rattle.rules.specs.World.{World, left, to, staled, staled_if, closing, committing, ending, copy_of, with_nodes, with_transactions, told}
use Rattle.rules.proofs.Paste.{paste-whole}
use Rattle.domains.specs.Entry.{taken, passes, entry_or}
use Rattle.transactions.specs.Transaction.{KeptTransactions, transaction_of, held_by, OpenTransaction}
use Rattle.slots.proofs.Canonical.{sound_canonical}
use Rattle.std.specs.Prelude.{Ok}
use Rattle.events.specs.Records as Events
use Rattle.events.specs.Stores.{Stores}
use Rattle.replies.specs.Framed.{Told}
use Rattle.replies.specs.Handled.{Outcome, Handled, with_events}
use Rattle.replies.specs.Does.{tables, its_copies, its_watches, its_domains}
use Rattle.handlers.specs.Asking.{copy_in}
use Rattle.handlers.specs.Transacting.{Holds, HeldOr, Committable}
use Rattle.handlers.proofs.Ways.{same_tables_lem, heard_so}
use Rattle.handlers.proofs.AskingLaws.{copy-part, copy_of_lem}
use Rattle.handlers.proofs.PlainLaws.{recorded-first}
use Rattle.handlers.proofs.StartLaws.{three_transactions}

-- ── who holds it ──

-- a transaction, if connection c holds it
held_of : Connection → Option Transaction → Option Transaction
held_of c none = none
held_of c (some x) = cond (eqb c x.holder) (some x) none

held_at : (w : World) (c : Connection) (k : ℕ) (m : Option Transaction) → get_or w.transactions k none ≡ m → W.transaction_of w c (suc k) ≡ held_of c m
unfolding W.transaction_of held_of
held_at w c k m e = ap by e ∙ go m
  where
    by : Option Transaction → Option Transaction
    by m = elim m [ none ↦ none | some x ↦ cond (eqb c x.holder) (some x) none ]

    go : (m : Option Transaction) → by m ≡ held_of c m
    go none = refl
    go (some x) = refl

pub zero_held : (s : Octets) (c : Connection) → HeldOr s c 0 false
unfolding W.transaction_of
zero_held s c w e = refl

pub past_held : (s : Octets) (c : Connection) (tx : ℕ) → 3 < tx → HeldOr s c tx false
unfolding held_of
past_held s c zero h w e = absurd (omega arith)
past_held s c (suc k) h w e =
    held_at w c k none (ap (λ (xs : Transactions). get_or xs k none) e ∙ get_or-eq_default (transactions_of s) none (rw (three_transactions s) (omega arith)))

module _ (s : Octets) (c : Connection) (k : ℕ) (kept : KeptTransactions s) (below : k < most_transactions) where
  pub place_held : (b : Bool) (m : Option Transaction) → get_or (transactions_of s) k none ≡ m → b ≡ passes (held_by c) m → HeldOr s c (suc k) b
  unfolding passes held_by held_of entry_or taken
  place_held true none q e = absurd (false≢true (sym e))
  place_held true (some x) q e =
      let z : suc k - 1 ≡ k = omega arith in
      record {
        low = omega arith;
        place = rw z (record { below = below; kept = kept; used = ap taken q });
        found = λ w t. held_at w c k (some x) (ap (λ (xs : Transactions). get_or xs k none) t ∙ q) ∙ rw (sym e, z, q) refl;
      }
  place_held false none q e = λ w t. held_at w c k none (ap (λ (xs : Transactions). get_or xs k none) t ∙ q)
  place_held false (some x) q e = λ w t. held_at w c k (some x) (ap (λ (xs : Transactions). get_or xs k none) t ∙ q) ∙ rw (sym e) refl

pub held_or : (s : Octets) (c : Connection) (tx : ℕ) (b : Bool) → KeptTransactions s → (tx ≡ 0 → ⊥) → tx ≤ 3 →
    b ≡ passes (held_by c) (get_or (transactions_of s) (tx - 1) none) → HeldOr s c tx b
held_or s c zero b k z l e = absurd (z refl)
held_or s c (suc n) b k z l e =
    place_held s c n k (omega arith) b _ refl
    (e ∙ ap (λ (j : ℕ). passes (held_by c) (get_or (transactions_of s) j none)) (let y : suc n - 1 ≡ n = omega arith in y))

-- a test of it, by its answer b
pub it_holds : (s : Octets) (c : Connection) (tx : ℕ) (b : Bool) → HeldOr s c tx b → not b ≡ false → Holds s c tx
it_holds s c tx true h e = h
it_holds s c tx false h e = absurd (true≢false e)

pub none_held : (s : Octets) (c : Connection) (tx : ℕ) (b : Bool) → HeldOr s c tx b → not b ≡ true → HeldOr s c tx false
none_held s c tx true h e = absurd (false≢true e)
none_held s c tx false h e = h

-- ── what it comes to ──

module _ (w : World) (c : Connection) (tx : ℕ) where
  -- as the transaction that it names says
  ended_by : Bool → Option Transaction → W.Outcome
  ended_by b m =
      elim m [
        | none ↦ left w (refused ENOENT)
        | some x ↦ cond b (cond x.stale (closing w (tx - 1) (refused EAGAIN)) (committing w (tx - 1) x)) (closing w (tx - 1) OK)
      ]

  ended : (b : Bool) (m : Option Transaction) → W.transaction_of w c tx ≡ m → ending w c tx b ≡ ended_by b m
  unfolding ending ended_by
  ended b m h = ap (ended_by b) h

  pub end-unknown : (b : Bool) → W.transaction_of w c tx ≡ none → ending w c tx b ≡ left w (refused ENOENT)
  unfolding ended_by
  end-unknown b h = ended b none h

  module _ (x : Transaction) (held : W.transaction_of w c tx ≡ some x) where
    abbrev pub closed : Reply → W.Outcome
    closed r = to w r (with_transactions w (set w.transactions (tx - 1) none)) []

    pub end_dropped : ending w c tx false ≡ closed OK
    unfolding ended_by closing
    end_dropped = ended false (some x) held

    pub end-stale : x.stale ≡ true → ending w c tx true ≡ closed (refused EAGAIN)
    unfolding ended_by closing
    end-stale h = ended true (some x) held ∙ rw h refl

    pub end_commits : x.stale ≡ false → ending w c tx true ≡ committing w (tx - 1) x
    unfolding ended_by
    end_commits h = ended true (some x) held ∙ rw h refl

-- ── a commit ──

-- the table without the one that is committed; the others stale if it had a change
module _ (cs : List Change) (t : Octets) (ys : Transactions) where
  pub committed_still : length cs ≡ 0 → t ≡ transactions_bytes ys → t ≡ transactions_bytes (staled_if (not (is_empty cs)) ys)
  unfolding staled_if is_empty
  committed_still h e = go cs h
    where
      go : (cs : List Change) → length cs ≡ 0 → t ≡ transactions_bytes (cond (not (is_empty cs)) (staled ys) ys)
      go [] h = e
      go (c ∷ cs) h = absurd (omega arith)

  pub committed_stale : (length cs ≡ 0 → ⊥) → t ≡ transactions_bytes (staled ys) → t ≡ transactions_bytes (staled_if (not (is_empty cs)) ys)
  unfolding staled_if is_empty
  committed_stale h e = go cs h
    where
      go : (cs : List Change) → (length cs ≡ 0 → ⊥) → t ≡ transactions_bytes (cond (not (is_empty cs)) (staled ys) ys)
      go [] h = absurd (h refl)
      go (c ∷ cs) h = e

module _ (w : World) (k : ℕ) (x : Transaction) where
  pub commit_done : committing w k x
      ≡ to w OK
      (with_transactions (with_nodes w (copy_of w k)) (told x.changes (set w.transactions k none)))
      (heard w.nodes (copy_of w k) w.watches x.changes)
  unfolding committing
  commit_done = refl

-- the node table takes the copy's bytes
module _ (nodes cs ws xs reply events : Octets) (s : Committable nodes cs ws xs reply events) (k : ℕ) (o : OpenTransaction xs k) where
  abbrev t : Octets
  t = take (k * table_size + table_size - k * table_size) (drop (k * table_size) cs)

  here : t ≡ copy_in cs k
  here = copy-part cs k

  table-long : length nodes ≡ table_size
  table-long = (sound_canonical nodes s.sound).whole

  copy-long : length t ≡ table_size
  copy-long = ap length here ∙ (sound_canonical (copy_in cs k) (s.copy k o)).whole

  -- what the records of its changes want
  pub committing_stores : Stores nodes t ws
  committing_stores = record { was = s.sound; is = rw here (s.copy k o); kept = s.watching }

  -- what its copying wants
  pub copy-fits : 0 + length t ≤ length nodes
  copy-fits = omega (arith, copy-long, table-long)

  module _ (nodes' : Octets) (put : nodes' ≡ paste 0 t nodes) (w : World) (nw : w.nodes ≡ table_of nodes)
      (cw : w.copies ≡ chunks most_transactions table_size cs) (ww : w.watches ≡ watches_of ws)
      (xw : w.transactions ≡ transactions_of xs) where
    pub commit_handled : (xs' reply' events' : Octets) (n r : ℕ) (out : Outcome)
        → xs' ≡ transactions_bytes (staled_if (not (is_empty (transaction_of xs k).changes)) (set (transactions_of xs) k none))
        → Events.Recorded 0 (heard (table_of nodes) (table_of t) (watches_of ws) (transaction_of xs k).changes) events events' n
        → Told OK (Ok r) reply reply' → out ≡ with_events (Ok r) n
        → Handled (committing w k (transaction_of xs k)) (tables nodes' (its_copies w) (its_watches w) xs' (its_domains w)) reply reply' events events' out
    commit_handled xs' reply' events' n r out e h told p =
        let f = recorded-first _ _ _ _ h in
        let c : table_of t ≡ copy_of w k = ap table_of here ∙ sym (copy_of_lem w cs k cw o.below) in
        let made = (transaction_of xs k).changes in
        let same : heard (table_of nodes) (table_of t) (watches_of ws) made ≡ heard w.nodes (copy_of w k) w.watches made = rw (c, nw, ww) refl in
        heard_so w _ reply out OK _ _ reply' events events' r n _ (commit_done w k (transaction_of xs k)) p told
        (f.0 ∙ ap (λ (rs : List Record). paste 0 (flat_map record_bytes rs) events) same) (f.1 ∙ ap length same)
        (same_tables_lem
        (put ∙ paste-whole t nodes (copy-long ∙ sym table-long) ∙ here
        ∙ (sym (sound_canonical (copy_in cs k) (s.copy k o)).kept ∙ ap table_bytes (sym (copy_of_lem w cs k cw o.below)))) refl refl
        (e ∙ ap (λ (y : Transactions). transactions_bytes (staled_if (not (is_empty (transaction_of xs k).changes)) (set y k none))) (sym xw)) refl)
