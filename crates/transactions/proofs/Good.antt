-- What is asked of transactions, and that it is what sound_transactions asks but for the copies.
use mathlib.Core.Path.{◌≡◌, refl, sym, ap, ◌∙◌}
use mathlib.Core.Bool.{Bool, true, false, ◌&&◌, true≢false, and-false}
use mathlib.Core.List.{List, [], ◌∷◌}
use mathlib.Core.Option.{Option, none, some}
use Prim.Native.Nat.{ℕ, ◌-◌, ◌≤◌, ◌<◌}
use native.Mathlib.Omega.{arith}
use lib.ListN.{length}
use lib.Dec.{eqb, ltb, leb}
use borrow.Author.Tests.{lt-ltb, ltb-true, ne_eqb}
use Rattle.rules.specs.Size.{most_transactions, transaction_size, transactions_size}
use Rattle.rules.specs.Octets.{Octets, same}
use Rattle.rules.specs.Path.{domain_of, fits, path_text, names_in, is_full}
use Rattle.rules.specs.Answer.{Change}
use Rattle.rules.specs.Layout.{opened, Domains, Transaction, Transactions, transaction_bytes, transaction_in, transactions_bytes, transactions_of}
use Rattle.rules.specs.Sound.{known, good_removal, good_change, good_changes, good_transactions, sound_transactions, sound_table}
use Rattle.rules.proofs.PathLaws.{text-full, text-names}
use Rattle.rules.proofs.TransactionLayouts.{ChangeFits}
use Rattle.rules.proofs.Changes.{good-parts, parts-good}
use Rattle.rules.proofs.Reencoding.{both_ways}
use Rattle.domains.specs.Entry.{taken, entry_or}
use Rattle.transactions.specs.Transaction.{KeptTransactions, no_change, change_given}
use Rattle.transactions.specs.Checks.{good_open, all_open_good, sound_entries, sound_copies}
use Rattle.domains.proofs.Turns.{ListCheck}
use Rattle.domains.proofs.Search.{free_none, taken-some}
use Rattle.domains.proofs.Rows.{same_kept, checked-kept}
use Rattle.transactions.proofs.Laws.{transaction_wide}

-- ── a change ──

module _ (c : Change) (f : ChangeFits c) (p : Octets) (e : p ≡ path_text c.names) where
  pub path-full : is_full p ≡ true
  path-full = rw e (text-full c.names f.names (omega (arith, f.short)))

  names_are : names_in p ≡ c.names
  names_are = rw e (text-names c.names f.names (omega (arith, f.short)))

  pub change_unfit : fits (names_in p) ≡ false → good_change c ≡ false
  unfolding good_change
  change_unfit h = rw (ap fits (sym names_are) ∙ h)

  -- what was read is the change
  pub given_is : (r : Bool) (k : ℕ) → r ≡ c.removal → k ≡ c.parents → change_given r k p ≡ c
  unfolding change_given
  given_is r k a b = λ i. record { removal = a i; parents = b i; names = names_are i }

module _ (r : Bool) (k : ℕ) (p : Octets) (h : fits (names_in p) ≡ true) where
  pub removed-made : r ≡ true → (k ≡ 0 → ⊥) → good_change (change_given r k p) ≡ false
  unfolding good_change good_removal change_given
  removed-made e z = rw (h, e, ne_eqb k 0 z) (and-false (leb k (length (names_in p) - 1)))

  pub removed-none : r ≡ true → k ≡ 0 → (n : ℕ) → n ≡ length (names_in p) → good_change (change_given r k p) ≡ ltb 0 n
  unfolding change_given
  removed-none e z n q =
      both_ways (λ g. lt-ltb 0 n (omega (arith, ((good-parts _ g).removed e).1))) λ t.
      let named : 0 < length (names_in p) = omega (arith, ltb-true 0 n t) in
      parts-good _ (record { fitting = h; above = omega arith; removed = λ b. (z, named) })

  pub written_none : r ≡ false → k ≡ 0 → good_change (change_given r k p) ≡ true
  unfolding change_given
  written_none e z = parts-good _ (record { fitting = h; above = omega arith; removed = λ b. absurd (true≢false (sym b ∙ e)) })

  pub written-made : r ≡ false → (k ≡ 0 → ⊥) → (n : ℕ) → n ≡ length (names_in p) → good_change (change_given r k p) ≡ ltb k n
  unfolding change_given
  written-made e z n q =
      both_ways (λ g. lt-ltb k n (omega (arith, z, (good-parts _ g).above))) λ t.
      let few : k ≤ length (names_in p) - 1 = omega (arith, ltb-true k n t) in
      parts-good _ (record { fitting = h; above = few; removed = λ b. absurd (true≢false (sym b ∙ e)) })

pub changes-none : good_changes [] ≡ true
unfolding good_changes
changes-none = refl

pub changes_cons : (c : Change) (cs : List Change) → good_changes (c ∷ cs) ≡ (good_change c && good_changes cs)
unfolding good_changes
changes_cons c cs = refl

abbrev pub changes_check : ListCheck Change
changes_check = record { stand = no_change; all = good_changes; one = λ c cs. good_change c; empty = changes-none; next = changes_cons }

-- ── a transaction ──

module _ (ds : Domains) (x : Option Transaction) where
  pub open_free : taken x ≡ false → good_open ds x ≡ true
  unfolding good_open
  open_free f = rw (free_none x f)

  module _ (t : taken x ≡ true) where
    open_is : good_open ds x ≡ (known (domain_of (entry_or (opened 0) x).holder) ds && good_changes (entry_or (opened 0) x).changes)
    unfolding good_open
    open_is = ap (good_open ds) (taken-some (opened 0) x t)

    pub open_unknown : known (domain_of (entry_or (opened 0) x).holder) ds ≡ false → good_open ds x ≡ false
    open_unknown k = open_is ∙ rw k

    pub open_known : known (domain_of (entry_or (opened 0) x).holder) ds ≡ true → good_open ds x ≡ good_changes (entry_or (opened 0) x).changes
    open_known k = open_is ∙ rw k

pub entries_none : (ds : Domains) → all_open_good ds [] ≡ true
unfolding all_open_good
entries_none ds = refl

pub entries_cons : (ds : Domains) (x : Option Transaction) (xs : Transactions) → all_open_good ds (x ∷ xs) ≡ (good_open ds x && all_open_good ds xs)
unfolding all_open_good
entries_cons ds x xs = refl

abbrev pub entries_check : Domains → ListCheck (Option Transaction)
entries_check ds = record { stand = none; all = all_open_good ds; one = λ x xs. good_open ds x; empty = entries_none ds; next = entries_cons ds }

-- ── entries and copies ──

-- a copy for each place
pub entries_copies : (ds : Domains) (xs : Transactions) (copies : List Octets) → length copies ≡ length xs
    → good_transactions ds xs copies ≡ (all_open_good ds xs && sound_copies xs copies)
unfolding good_transactions all_open_good good_open sound_copies
entries_copies ds [] copies h = refl
entries_copies ds (x ∷ xs) [] h = absurd (omega arith)
entries_copies ds (none ∷ xs) (copy ∷ copies) h = entries_copies ds xs copies (omega arith)
entries_copies ds (some x ∷ xs) (copy ∷ copies) h =
    rw (entries_copies ds xs copies (omega arith))
    (regroup (known (domain_of x.holder) ds) (good_changes x.changes) (sound_table copy) (all_open_good ds xs) (sound_copies xs copies))
  where
    regroup : (a b c d e : Bool) → (a && (b && (c && (d && e)))) ≡ ((a && b && d) && (c && e))
    regroup true true true d e = refl
    regroup true true false true e = refl
    regroup true true false false e = refl
    regroup true false c d e = refl
    regroup false b c d e = refl

-- sound_transactions is sound_entries, and each open copy sound
pub sound-parts : (ds : Domains) (copies : List Octets) (s : Octets) → length copies ≡ length (transactions_of s)
    → sound_transactions ds copies s ≡ (sound_entries ds s && sound_copies (transactions_of s) copies)
unfolding sound_transactions sound_entries
sound-parts ds copies s h =
    let xs = transactions_of s in
    rw (entries_copies ds xs copies h)
    (regroup (eqb (length s) transactions_size) (same (transactions_bytes xs) s) (all_open_good ds xs) (sound_copies xs copies))
  where
    regroup : (a b c d : Bool) → (a && (b && (c && d))) ≡ ((a && (b && c)) && d)
    regroup true true c d = refl
    regroup true false c d = refl
    regroup false b c d = refl

pub kept_of : (s : Octets) → length s ≡ transactions_size → same (transactions_bytes (transactions_of s)) s ≡ true → KeptTransactions s
unfolding transactions_of transactions_bytes
kept_of s w e = same_kept transaction_bytes transaction_in transaction_size transaction_wide most_transactions s w e

pub sound-kept : (ds : Domains) (s : Octets) → sound_entries ds s ≡ true → KeptTransactions s
unfolding sound_entries transactions_of transactions_bytes
sound-kept ds s h =
    checked-kept transaction_bytes transaction_in transaction_size transaction_wide most_transactions s (all_open_good ds (transactions_of s)) h
