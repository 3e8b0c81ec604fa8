-- Transactions opened, closed, made stale and extended: what a written place leaves.
use mathlib.Core.Path.{◌≡◌, refl, sym, ap, ◌∙◌}
use mathlib.Core.Bool.{Bool, true, false}
use mathlib.Core.List.{List, [], ◌∷◌, ◌++◌, map, flat_map}
use mathlib.Core.Option.{Option, none, some}
use Prim.Native.Nat.{ℕ, suc, ◌+◌, ◌*◌, ◌/◌, ◌%◌, ◌≤◌, ◌<◌}
use native.Mathlib.Nat.{add-zero}
use native.Mathlib.Omega.{arith}
use lib.Dec.{lit≤}
use lib.ListN.{length, get_or, set, replicate, length-replicate}
use lib.Seq.{set-get_or}
use Rattle.rules.specs.Size.{most_transactions, changes_at, transaction_size, changes_size}
use Rattle.rules.specs.Octets.{Octets, paste, padded}
use Rattle.rules.specs.Entries.{without}
use Rattle.rules.specs.Layout.{opened, Transaction, Transactions, change_bytes, transaction_bytes, transaction_in, transactions_bytes, transactions_of}
use Rattle.rules.specs.World.{staled}
use Rattle.rules.proofs.Paste.{paste_sets, paste_append, length-paste}
use Rattle.rules.proofs.Tables.{each_at}
use Rattle.rules.proofs.DecodedEntries.{decoded_transactions_fit}
use Rattle.rules.proofs.TransactionLayouts.{TransactionFits, MaybeTransaction, transaction_width, transaction_read}
use Rattle.rules.proofs.Joined.{set-paste}
use Rattle.domains.specs.Entry.{taken, passes}
use Rattle.transactions.specs.Transaction.{KeptTransactions, transaction_of, stale_of}
use Rattle.domains.specs.Freed.{freed_from, Freed}
use Rattle.domains.proofs.FreeLaws.{kept_freed, freed_where}
use Rattle.domains.proofs.Search.{free_none, taken-some, swept_before}
use Rattle.domains.proofs.Rows.{Writable, wrote, wrote_kept, swept_kept, swept-end, without-kept}
use Rattle.transactions.proofs.Parts.{paste_row}
use Rattle.transactions.proofs.Laws.{three_of, transaction_parts, transaction_wide, length-transactions_of, row_parts, changes-read, open_fits}

abbrev CanWrite : Option Transaction → Type 0
CanWrite = Writable transaction_bytes transaction_in transaction_size transaction_wide

writable : (m : Option Transaction) → MaybeTransaction m → CanWrite m
writable m f = record { width = transaction_width m f; back = transaction_read m f }

stale-fits : (x : Transaction) → TransactionFits x → MaybeTransaction (stale_of (some x))
unfolding stale_of
stale-fits x f = record { holder = f.holder; few = f.few; changes = f.changes }

stale_writable : (m : Option Transaction) → MaybeTransaction m → CanWrite (stale_of m)
unfolding stale_of
stale_writable none f = writable none tt
stale_writable (some x) f = writable (stale_of (some x)) (stale-fits x f)

-- a stale transaction's bytes, but for the first as before
stale-bytes : (x : Transaction) → TransactionFits x → (b : ℕ) → b ≡ 192 + length x.changes
    → paste 0 (b ∷ []) (three_of x ++ padded changes_size (flat_map change_bytes x.changes)) ≡ transaction_bytes (stale_of (some x))
unfolding paste stale_of
stale-bytes x f b e =
    ap (λ (n : ℕ). n ∷ (x.holder / 256 % 256) ∷ (x.holder % 256) ∷ padded changes_size (flat_map change_bytes x.changes)) e
    ∙ sym (transaction_parts (record { holder = x.holder; stale = true; changes = x.changes }) f.holder f.few)

opened-fits : (o : ℕ) → o < 65536 → MaybeTransaction (some (opened o))
opened-fits o h = record { holder = h; few = lit≤ tt; changes = tt }

opened-bytes : (o : ℕ) → o < 65536 → transaction_bytes (some (opened o)) ≡ (128 ∷ (o / 256 % 256) ∷ (o % 256) ∷ []) ++ replicate changes_size 0
unfolding padded flat_map
opened-bytes o h = transaction_parts (opened o) h (lit≤ tt)

staled-map : (xs : Transactions) → map stale_of xs ≡ staled xs
unfolding stale_of staled
staled-map [] = refl
staled-map (none ∷ xs) = ap (◌∷◌ none) (staled-map xs)
staled-map (some x ∷ xs) = ap (◌∷◌ (some (record { holder = x.holder; stale = true; changes = x.changes }))) (staled-map xs)

pub kept-transactions : (s : Octets) → KeptTransactions s → transactions_bytes (transactions_of s) ≡ s
unfolding transactions_of transactions_bytes
kept-transactions s c = c.same

module _ (s : Octets) (c : KeptTransactions s) (k : ℕ) (h : k < most_transactions) where
  -- where place k begins
  abbrev at : ℕ
  at = k * transaction_size

  pub closed : paste at (replicate transaction_size 0) s ≡ transactions_bytes (set (transactions_of s) k none)
  unfolding transactions_of transactions_bytes transaction_bytes
  closed = sym (wrote transaction_bytes transaction_in transaction_size transaction_wide most_transactions s c k none h (transaction_width none tt))

  -- what the bytes are and mean after a place is closed, or opened for connection o
  pub close_kept : (t : Octets) → t ≡ transactions_bytes (set (transactions_of s) k none)
      → KeptTransactions t × (transactions_of t ≡ set (transactions_of s) k none)
  unfolding transactions_of transactions_bytes
  close_kept = wrote_kept transaction_bytes transaction_in transaction_size transaction_wide most_transactions s c k none (writable none tt)

  -- ── an open place ──

  pub put_open : (o : ℕ) → o < 65536
      → set (set (set (paste (at + changes_at) (replicate changes_size 0) s) at 128) (at + 1) (o / 256 % 256)) (at + 2) (o % 256)
      ≡ transactions_bytes (set (transactions_of s) k (some (opened o)))
  unfolding transactions_of transactions_bytes
  put_open o ho =
      let whole = c.whole in
      let zeros : Octets = replicate changes_size 0 in
      let x = paste (at + changes_at) zeros s in
      let head : Octets = 128 ∷ (o / 256 % 256) ∷ (o % 256) ∷ [] in
      let l : length x ≡ length s = length-paste (at + changes_at) zeros s (rw length-replicate (omega arith)) in
      let one : at + 1 ≡ suc at = omega arith in
      let two : at + 2 ≡ suc (suc at) = omega arith in
      let sets : set (set (set x at 128) (at + 1) (o / 256 % 256)) (at + 2) (o % 256) ≡ paste at head x =
      rw (one, two) (paste_sets at head x (rw l (omega arith))) in
      let y = some (opened o) in
      sets
      ∙ sym (paste_append at head zeros s (omega arith))
      ∙ ap (λ (b : Octets). paste at b s) (sym (opened-bytes o ho))
      ∙ sym (wrote transaction_bytes transaction_in transaction_size transaction_wide most_transactions s c k y h (transaction_width y (opened-fits o ho)))

  -- ── stale ──

  pub left-stale : taken (get_or (transactions_of s) k none) ≡ false → s
      ≡ transactions_bytes (set (transactions_of s) k (stale_of (get_or (transactions_of s) k none)))
  unfolding stale_of
  left-stale f =
      let e = free_none (get_or (transactions_of s) k none) f in
      sym (rw (ap stale_of e ∙ sym e, set-get_or (transactions_of s) k none) (kept-transactions s c))

  pub put_stale : taken (get_or (transactions_of s) k none) ≡ true
      → set s at (192 + get_or s at 0 % 16) ≡ transactions_bytes (set (transactions_of s) k (stale_of (get_or (transactions_of s) k none)))
  unfolding transactions_of transactions_bytes
  put_stale u =
      let whole = c.whole in
      let b = 192 + get_or s at 0 % 16 in
      let x = transaction_of s k in
      let e : get_or (transactions_of s) k none ≡ some x = taken-some (opened 0) (get_or (transactions_of s) k none) u in
      let w = transaction_width (stale_of (some x)) (stale-fits x (open_fits s k h u)) in
      set-paste s at b (omega arith)
      ∙ ap (λ (p : ℕ). paste p (b ∷ []) s) (sym (add-zero at))
      ∙ sym (paste_row s at transaction_size 0 (b ∷ []) (omega arith) (lit≤ tt))
      ∙ ap (λ (r : Octets). paste at r s)
      (ap (paste 0 (b ∷ [])) (row_parts s k h c u) ∙ stale-bytes x (open_fits s k h u) b (ap (λ (n : ℕ). 192 + n) (changes-read s k h c u)))
      ∙ sym (wrote transaction_bytes transaction_in transaction_size transaction_wide most_transactions s c k (stale_of (some x)) h w)
      ∙ ap (λ (m : Option Transaction). transactions_bytes (set (transactions_of s) k (stale_of m))) (sym e)

  place-fits : MaybeTransaction (get_or (transactions_of s) k none)
  place-fits = each_at MaybeTransaction (transactions_of s) k none (decoded_transactions_fit s) (rw (length-transactions_of s) h)

  pub swept-stale : (xs : Transactions) → transactions_of s ≡ swept_before stale_of k xs
      → (t : Octets) → t ≡ transactions_bytes (set (transactions_of s) k (stale_of (get_or (transactions_of s) k none)))
      → KeptTransactions t × (transactions_of t ≡ swept_before stale_of (k + 1) xs)
  unfolding transactions_of transactions_bytes
  swept-stale xs =
      swept_kept transaction_bytes transaction_in transaction_size transaction_wide most_transactions s c k _
      (stale_writable (get_or (transactions_of s) k none) place-fits) stale_of xs refl

-- the ends of the sweeps
pub swept_stales : (s t : Octets) → KeptTransactions s → (i : ℕ) → most_transactions ≤ i → transactions_of s ≡ swept_before stale_of i (transactions_of t)
    → s ≡ transactions_bytes (staled (transactions_of t))
unfolding transactions_of transactions_bytes
swept_stales s t c i h e =
    swept-end transaction_bytes transaction_in transaction_size transaction_wide most_transactions s c stale_of t i h e
    ∙ ap (flat_map transaction_bytes) (staled-map _)

none_zero : transaction_bytes none ≡ replicate transaction_size 0
unfolding transaction_bytes
none_zero = refl

-- what places freed leave, whatever was asked of them
module _ (s : Octets) (c : KeptTransactions s) where
  pub freed-kept : (answers : List Bool) → length answers ≤ most_transactions → KeptTransactions (freed_from transaction_size 0 answers s)
  freed-kept answers h =
      kept_freed transaction_bytes transaction_in transaction_size transaction_wide most_transactions (writable none tt) none_zero 0 answers s (omega arith) c

  pub freed-transactions : (test : Transaction → Bool) (says : Octets → ℕ → Bool → Type 0)
      → ((t : Octets) (i : ℕ) (b : Bool) → KeptTransactions t → i < most_transactions → says t i b → b ≡ passes test (get_or (transactions_of t) i none))
      → (t : Octets) → Freed transaction_size says most_transactions s t → t ≡ transactions_bytes (without test (transactions_of s))
  unfolding transactions_of transactions_bytes
  freed-transactions test says told t =
      freed_where transaction_bytes transaction_in transaction_size transaction_wide most_transactions (writable none tt) none_zero test says told s t c

-- what the bytes are and mean after entries are closed, or all made stale
pub without-transactions : (s : Octets) → KeptTransactions s → (test : Transaction → Bool) (t : Octets)
    → t ≡ transactions_bytes (without test (transactions_of s)) → KeptTransactions t × (transactions_of t ≡ without test (transactions_of s))
unfolding transactions_of transactions_bytes
without-transactions s c = without-kept transaction_bytes transaction_in transaction_size transaction_wide most_transactions s c (writable none tt)
