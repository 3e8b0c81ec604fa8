-- Whether the bytes of transactions are those of what they mean, by tests of their parts.
use mathlib.Core.Path.{◌≡◌, refl, sym, ap, ap₂, ◌∙◌}
use mathlib.Core.Bool.{Bool, false, ◌&&◌}
use mathlib.Core.List.{List, [], ◌∷◌, ◌++◌, map, flat_map}
use mathlib.Core.Option.{none, some}
use Prim.Native.Nat.{ℕ, zero, suc, ◌+◌, ◌*◌, ◌-◌, ◌/◌, ◌%◌, ◌≤◌, ◌<◌}
use native.Mathlib.Nat.{add_comm, add-sub_cancel_left, suc-mul}
use native.Mathlib.Omega.{arith}
use lib.ListN.{length, get_or, take, drop, replicate, length-append, length-drop, length-map, take-append-drop}
use lib.Seq.{take-add, take-take, drop-drop}
use lib.Dec.{eqb, lit≤}
use borrow.Author.Tests.{le-leb, lt-leb}
use Rattle.rules.specs.Size.{most_transactions, changes_at, transaction_size, transactions_size, most_changes, change_size, changes_size}
use Rattle.rules.specs.Octets.{Octets, same, all_zero, padded, chunks, field, bits_at, bit}
use Rattle.rules.specs.Answer.{Change}
use Rattle.rules.specs.Layout.{opened, Transaction, change_bytes, change_in, transaction_bytes, transaction_in, transaction_at, transactions_of}
use Rattle.rules.proofs.Compare.{eq_same}
use Rattle.rules.proofs.Fields.{field_three, bit_small}
use Rattle.rules.proofs.Tables.{length-chunks}
use Rattle.rules.proofs.TransactionLayouts.{TransactionFits}
use Rattle.octets.specs.Read.{Bytes}
use Rattle.domains.specs.Kept.{kept_at}
use Rattle.octets.specs.Numbers.{rest_zero}
use Rattle.transactions.specs.Checks.{changes_kept}
use Rattle.rules.proofs.Reencoding.{same_zeros, same_append}
use Rattle.domains.proofs.Rows.{part_at, part_length, listed_from, first-listed, differ, free_kept, used-kept}
use Rattle.octets.proofs.Padding.{drop-take}
use Rattle.octets.proofs.Bytes.{bit_of, pair_forward}
use Rattle.transactions.proofs.Laws.{three_of, transaction_parts, transaction_wide, read_fits, used_byte, is_read}
use Rattle.transactions.proofs.ChangesKept.{change-long}

-- ── the parts of a place ──

chunks-take : (n m k : ℕ) (s : Octets) → n ≤ m → take n (chunks m k s) ≡ chunks n k s
unfolding chunks
chunks-take zero m k s h = refl
chunks-take (suc n) zero k s h = absurd (omega arith)
chunks-take (suc n) (suc m) k s h = ap (λ (l : List Octets). take k s ∷ l) (chunks-take n m k (drop k s) (omega arith))

drop-take_add : (k m : ℕ) (s : Octets) → drop k (take (k + m) s) ≡ take m (drop k s)
drop-take_add k m s = drop-take k (k + m) s ∙ ap (λ (j : ℕ). take j (drop k s)) (add-sub_cancel_left k m)

chunks_front : (n k : ℕ) (s : Octets) → chunks n k (take (n * k) s) ≡ chunks n k s
unfolding chunks
chunks_front zero k s = refl
chunks_front (suc n) k s =
    let e : suc n * k ≡ k + n * k = suc-mul n k ∙ add_comm (n * k) k in
    ap₂ ◌∷◌ (rw e (take-take k (k + n * k) s (omega arith)))
    (ap (chunks n k) (ap (λ (m : ℕ). drop k (take m s)) e ∙ drop-take_add k (n * k) s) ∙ chunks_front n k (drop k s))

rows_long : (rs : List Octets) → length (flat_map change_bytes (map change_in rs)) ≡ length rs * change_size
unfolding flat_map
rows_long [] = refl
rows_long (r ∷ rs) =
    length-append (change_bytes (change_in r)) (flat_map change_bytes (map change_in rs))
    ∙ ap₂ ◌+◌ (change-long r) (rows_long rs)
    ∙ (let e : change_size + length rs * change_size ≡ suc (length rs) * change_size = omega arith in e)

first_forward : (b : ℕ) → 128 ≤ b → b < 256 → b / 16 % 4 ≡ 0 → 128 + 64 * bit (eqb (b / 64 % 2) 1) + b % 16 ≡ b
first_forward b l h z = rw (bit_of (b / 64 % 2) (omega arith)) (omega arith)

three_fields : (a b d : ℕ) → a < 256 → b < 256 → d < 256
    → let m = (a * 256 + b) * 256 + d in (bits_at m 22 1 ≡ a / 64 % 2) × (bits_at m 16 4 ≡ a % 16) × (bits_at m 0 16 ≡ b * 256 + d)
unfolding bits_at
three_fields a b d ha hb hd =
    let m = (a * 256 + b) * 256 + d in
    let p : m / 65536 ≡ a = omega arith in
    let q : m / 4194304 ≡ a / 64 = omega arith in
    (ap (λ (n : ℕ). n % 2) q, ap (λ (n : ℕ). n % 16) p, omega arith)

marks_back : (b m n : ℕ) → b ≡ 128 + 64 * m + n → m < 2 → n ≤ most_changes → (b / 16 % 4 ≡ 0) × (b % 16 ≡ n)
marks_back b m n e hm hn = (omega arith, omega arith)

module _ (s : Octets) (k : ℕ) (h : k < most_transactions) (bytes : Bytes s) (whole : length s ≡ transactions_size) where
  -- where place k begins
  abbrev at : ℕ
  at = k * transaction_size

  abbrev place : Octets
  place = take transaction_size (drop at s)

  abbrev head : ℕ
  head = field s at changes_at

  abbrev x : Transaction
  x = transaction_at place head

  abbrev kept : Bool
  kept = kept_at most_transactions transaction_size transaction_bytes transaction_in s k

  abbrev first : ℕ
  first = get_or s at 0

  none-bytes : transaction_bytes none ≡ replicate transaction_size 0
  unfolding transaction_bytes
  none-bytes = refl

  -- a closed place is all zero
  pub free_same : first < 128 → all_zero (part_at s at transaction_size) ≡ kept
  unfolding transactions_of
  free_same u =
      free_kept transaction_bytes transaction_in transaction_size transaction_wide most_transactions s k h whole none-bytes
      (sym (used_byte s k h bytes whole) ∙ lt-leb 128 _ u)

  first_three : take changes_at (drop at s) ≡ first ∷ get_or s (at + 1) 0 ∷ get_or s (at + 2) 0 ∷ []
  first_three = listed_from s at changes_at (omega arith)

  module _ (u : 128 ≤ first) where
    kept_is : kept ≡ same (transaction_bytes (some x)) place
    unfolding transactions_of
    kept_is =
        let t = sym (used_byte s k h bytes whole) ∙ le-leb 128 _ u in
        used-kept transaction_bytes transaction_in transaction_size transaction_wide most_transactions s k h (opened 0) t
        ∙ ap (λ (y : Transaction). same (transaction_bytes (some y)) place) (is_read s k h t)

    x_fits : TransactionFits x
    x_fits = read_fits place head

    x_parts : transaction_bytes (some x) ≡ three_of x ++ padded changes_size (flat_map change_bytes x.changes)
    x_parts = transaction_parts x x_fits.holder x_fits.few

    marks_said : transaction_bytes (some x) ≡ place → (first / 16 % 4 ≡ 0) × (first % 16 ≤ most_changes)
    marks_said own =
        let rest = padded changes_size (flat_map change_bytes x.changes) in
        let e : first ∷ get_or s (at + 1) 0 ∷ get_or s (at + 2) 0 ∷ [] ≡ three_of x =
        first-listed s at transaction_size changes_at (three_of x) rest (lit≤ tt) (omega arith) refl (sym own ∙ x_parts) in
        let b : first ≡ 128 + 64 * bit x.stale + length x.changes = cc in
        let m = marks_back _ _ _ b (bit_small x.stale) x_fits.few in
        (m.0, rw m.1 x_fits.few)

    not_own : (transaction_bytes (some x) ≡ place → ⊥) → kept ≡ false
    not_own f = kept_is ∙ differ (transaction_bytes (some x)) place f

    pub kept-marked : (first / 16 % 4 ≡ 0 → ⊥) → kept ≡ false
    kept-marked z = not_own λ own. z (marks_said own).0

    pub kept_many : most_changes < first % 16 → kept ≡ false
    kept_many l = not_own λ own. omega (arith, (marks_said own).1)

    module _ (z : first / 16 % 4 ≡ 0) (l : first % 16 ≤ most_changes) where
      abbrev n : ℕ
      n = first % 16

      abbrev body : Octets
      body = take changes_size (drop (at + changes_at) s)

      abbrev front : Octets
      front = take (n * change_size) (drop (at + changes_at) s)

      head_fields : (bits_at head 22 1 ≡ first / 64 % 2) × (bits_at head 16 4 ≡ n) × (bits_at head 0 16 ≡ get_or s (at + 1) 0 * 256 + get_or s (at + 2) 0)
      unfolding bits_at
      head_fields = rw (field_three s at (omega arith)) (three_fields _ _ _ (bytes at) (bytes (at + 1)) (bytes (at + 2)))

      place_body : place ≡ take changes_at (drop at s) ++ body
      place_body = take-add changes_at changes_size (drop at s)
          ∙ ap (λ (r : Octets). take changes_at (drop at s) ++ take changes_size r) (drop-drop changes_at at s)

      body_is : drop changes_at place ≡ body
      body_is = drop-take_add changes_at changes_size (drop at s) ∙ ap (take changes_size) (drop-drop changes_at at s)

      front_is : take (n * change_size) body ≡ front
      front_is = take-take (n * change_size) changes_size (drop (at + changes_at) s) (omega arith)

      rows : List Octets
      rows = chunks n change_size front

      changes_are : x.changes ≡ map change_in rows
      unfolding transaction_at rows
      changes_are =
          rw (head_fields.1, body_is, chunks-take n most_changes change_size body l)
          (ap (map change_in) (sym (chunks_front n change_size body) ∙ ap (chunks n change_size) front_is))

      few : length x.changes ≡ n
      unfolding rows
      few = ap length changes_are ∙ length-map (chunks n change_size front) change_in ∙ length-chunks n change_size front

      three_is : three_of x ≡ take changes_at (drop at s)
      unfolding transaction_at
      three_is =
          let p = pair_forward (get_or s (at + 1) 0) (get_or s (at + 2) 0) (bytes (at + 1)) (bytes (at + 2)) in
          rw (few, head_fields.0, head_fields.2, first_forward first u (bytes at) z, p.0, p.1) (sym first_three)

      front_long : length front ≡ n * change_size
      front_long = part_length s (at + changes_at) (n * change_size) (omega arith)

      all-long : length (flat_map change_bytes (map change_in rows)) ≡ n * change_size
      unfolding rows
      all-long = rows_long (chunks n change_size front) ∙ ap (λ (m : ℕ). m * change_size) (length-chunks n change_size front)

      pub kept-parts : kept ≡ (changes_kept n front && rest_zero s (at + changes_at) (n * change_size) changes_size)
      unfolding changes_kept padded rows
      kept-parts =
          let all = flat_map change_bytes (map change_in rows) in
          let e : length all ≡ n * change_size = all-long in
          let bl : length body ≡ changes_size = part_length s (at + changes_at) changes_size (omega arith) in
          kept_is
          ∙ ap₂ same (x_parts ∙ ap (λ (cs : List Change). three_of x ++ padded changes_size (flat_map change_bytes cs)) changes_are) place_body
          ∙ same_append (three_of x) (padded changes_size all) (take changes_at (drop at s)) body (ap length three_is)
          ∙ ap₂ ◌&&◌ (eq_same three_is)
          (ap (same (padded changes_size all))
          (sym (take-append-drop (n * change_size) body) ∙ ap (λ (r : Octets). r ++ drop (n * change_size) body) front_is))
          ∙ same_append all (replicate (changes_size - length all) 0) front (drop (n * change_size) body) (e ∙ sym front_long)
          ∙ ap (λ (b : Bool). same all front && b) (same_zeros (changes_size - length all) (drop (n * change_size) body) (rw (length-drop, bl, e)))
