-- Transactions as bytes: what the bytes of a place say.
use mathlib.Core.Path.{◌≡◌, refl, sym, ap, ◌∙◌}
use mathlib.Core.Bool.{true, cond}
use mathlib.Core.List.{[], ◌∷◌, ◌++◌, flat_map}
use mathlib.Core.Option.{none, some}
use Prim.Native.Nat.{ℕ, ◌+◌, ◌*◌, ◌/◌, ◌%◌, ◌≤◌, ◌<◌}
use native.Mathlib.Nat.{add-zero, mod-lt}
use native.Mathlib.Omega.{arith}
use lib.ListN.{length, get_or, take, drop}
use lib.Dec.{eqb, leb, lit<, lit≤}
use Rattle.rules.specs.Size.{most_transactions, changes_at, transaction_size, transactions_size, most_changes, changes_size}
use Rattle.rules.specs.Octets.{Octets, field, bits_at, big_endian, bit, padded, pack, pack_from, ◌bits◌}
use Rattle.rules.specs.Layout.{opened, Transaction, change_bytes, transaction_bytes, transaction_in, transaction_at, transactions_of}
use Rattle.rules.proofs.Fields.{field-part, field_two, field_three, bit_small, bit_back}
use Rattle.rules.proofs.Cases.{cond_case}
use Rattle.rules.proofs.DecodedEntries.{transaction_decoded}
use Rattle.rules.proofs.TransactionLayouts.{TransactionFits, MaybeTransaction, transaction_width, transaction_at_lem}
use Rattle.domains.specs.Entry.{taken}
use Rattle.octets.specs.Read.{Bytes}
use Rattle.octets.specs.Read.{Read}
use Rattle.transactions.specs.Transaction.{KeptTransactions, transaction_of}
use Rattle.domains.proofs.Tests.{taken-cond, entry_is}
use Rattle.octets.proofs.PlaceLaws.{first_bit}
use Rattle.domains.proofs.Rows.{length-table, first-listed, entry-bytes}

-- ── the bytes of a transaction ──

-- the three bytes of the fields: stale, how many changes, holder
abbrev pub three_bytes : ℕ → ℕ → ℕ → Octets
three_bytes m n o = (128 + 64 * m + n) ∷ (o / 256 % 256) ∷ (o % 256) ∷ []

three : (m n o : ℕ) → m < 2 → n < 16 → o < 65536
    → big_endian changes_at (pack (1 bits 1 ∷ 1 bits m ∷ 2 bits 0 ∷ 4 bits n ∷ 16 bits o ∷ [])) ≡ three_bytes m n o
unfolding big_endian pack pack_from
three m n o hm hn ho =
    let p = pack (1 bits 1 ∷ 1 bits m ∷ 2 bits 0 ∷ 4 bits n ∷ 16 bits o ∷ []) in
    let a : p / 256 / 256 % 256 ≡ 128 + 64 * m + n = omega arith in
    let b : p / 256 % 256 ≡ o / 256 % 256 = omega arith in
    let c : p % 256 ≡ o % 256 = omega arith in
    λ i. a i ∷ b i ∷ c i ∷ []

abbrev pub three_of : Transaction → Octets
three_of x = three_bytes (bit x.stale) (length x.changes) x.holder

pub transaction_parts : (x : Transaction) → x.holder < 65536 → length x.changes ≤ most_changes
    → transaction_bytes (some x) ≡ three_of x ++ padded changes_size (flat_map change_bytes x.changes)
unfolding transaction_bytes
transaction_parts x ho hn =
    ap (λ (a : Octets). a ++ padded changes_size (flat_map change_bytes x.changes))
    (three (bit x.stale) (length x.changes) x.holder (bit_small x.stale) (omega arith) ho)

pub read_fits : (r : Octets) (head : ℕ) → TransactionFits (transaction_at r head)
unfolding transaction_at bits_at
read_fits r head = let d = transaction_decoded r head in record { holder = mod-lt _ (lit< tt); few = d.0; changes = d.1 }

pub transaction_wide : (r : Octets) → length (transaction_bytes (transaction_in r)) ≡ transaction_size
unfolding transaction_in
transaction_wide r =
    let head = field r 0 changes_at in
    transaction_width _ (cond_case MaybeTransaction (eqb (bits_at head 23 1) 1) (some (transaction_at r head)) none (read_fits r head) tt)

pub length-transactions_of : (s : Octets) → length (transactions_of s) ≡ most_transactions
unfolding transactions_of
length-transactions_of s = length-table transaction_bytes transaction_in transaction_size transaction_wide most_transactions s

marks_back : (b m n : ℕ) → b ≡ 128 + 64 * m + n → m < 2 → n ≤ most_changes → (b / 64 % 2 ≡ m) × (b % 16 ≡ n)
marks_back b m n e hm hn = (omega arith, omega arith)

-- ── place k of a table ──

module _ (s : Octets) (k : ℕ) (h : k < most_transactions) where
  -- where place k begins
  abbrev at : ℕ
  at = k * transaction_size

  abbrev row : Octets
  row = take transaction_size (drop at s)

  abbrev head : ℕ
  head = field s at changes_at

  place_is : get_or (transactions_of s) k none ≡ cond (eqb (bits_at head 23 1) 1) (some (transaction_at row head)) none
  unfolding transaction_in
  place_is = transaction_at_lem s k h ∙ rw (field-part s at transaction_size 0 changes_at (omega arith), add-zero)

  pub is_read : taken (get_or (transactions_of s) k none) ≡ true → transaction_of s k ≡ transaction_at row head
  is_read u = entry_is (eqb (bits_at head 23 1) 1) (transaction_at row head) (opened 0) place_is u

  pub own-bytes : KeptTransactions s → taken (get_or (transactions_of s) k none) ≡ true → row ≡ transaction_bytes (some (transaction_of s k))
  unfolding transactions_of
  own-bytes c u = entry-bytes transaction_bytes transaction_in transaction_size transaction_wide most_transactions s c k h (opened 0) u

  -- what fits of an open transaction
  pub open_fits : taken (get_or (transactions_of s) k none) ≡ true → TransactionFits (transaction_of s k)
  open_fits u = rw (is_read u) (read_fits row head)

  module _ (bytes : Bytes s) (whole : length s ≡ transactions_size) where
    head_bytes : head ≡ (get_or s at 0 * 256 + get_or s (at + 1) 0) * 256 + get_or s (at + 2) 0
    head_bytes = field_three s at (omega arith)

    pub used_byte : leb 128 (get_or s at 0) ≡ taken (get_or (transactions_of s) k none)
    used_byte = rw (place_is, taken-cond) (first_bit s bytes at 2 23 refl (omega arith))

    pub holder-read : taken (get_or (transactions_of s) k none) ≡ true → (r : ℕ) → Read s (at + 1) 2 r → r ≡ (transaction_of s k).holder
    unfolding transaction_at bits_at
    holder-read u r w =
        let e : at + 1 + 1 ≡ at + 2 = omega arith in
        let v = rw e at (w.value ∙ field_two s (at + 1) (omega arith)) in
        let y = bytes (at + 1) in
        let z = bytes (at + 2) in
        let q : r ≡ bits_at head 0 16 = omega (arith, head_bytes) in
        q ∙ sym (ap Transaction.holder (is_read u))

  module _ (c : KeptTransactions s) (u : taken (get_or (transactions_of s) k none) ≡ true) where
    abbrev x : Transaction
    x = transaction_of s k

    pub row_parts : row ≡ three_of x ++ padded changes_size (flat_map change_bytes x.changes)
    row_parts = own-bytes c u ∙ transaction_parts x (open_fits u).holder (open_fits u).few

    first_three : get_or s at 0 ∷ get_or s (at + 1) 0 ∷ get_or s (at + 2) 0 ∷ [] ≡ three_of x
    first_three =
        let whole = c.whole in
        first-listed s at transaction_size changes_at (three_of x) (padded changes_size (flat_map change_bytes x.changes)) (lit≤ tt) (omega arith) refl
        row_parts

    pub first_is : get_or s at 0 ≡ 128 + 64 * bit x.stale + length x.changes
    first_is = let e = first_three in cc

    marks : (get_or s at 0 / 64 % 2 ≡ bit x.stale) × (get_or s at 0 % 16 ≡ length x.changes)
    marks = marks_back _ _ _ first_is (bit_small x.stale) (open_fits u).few

    pub stale-read : eqb (get_or s at 0 / 64 % 2) 1 ≡ x.stale
    stale-read = rw marks.0 (bit_back x.stale)

    pub changes-read : get_or s at 0 % 16 ≡ length x.changes
    changes-read = marks.1
