-- A change added to an open transaction: what that leaves.
use mathlib.Core.Path.{◌≡◌, refl, sym, ap, ap₂, ◌∙◌}
use mathlib.Core.Bool.{Bool, true, false}
use mathlib.Core.List.{[], ◌∷◌, ◌++◌, flat_map}
use mathlib.Core.Option.{some}
use Prim.Native.Nat.{ℕ, suc, ◌+◌, ◌*◌, ◌/◌, ◌%◌, ◌≤◌, ◌<◌}
use native.Mathlib.Nat.{add-zero, add_assoc}
use native.Mathlib.Omega.{arith}
use lib.ListN.{length, get_or, set, take, drop, length-append}
use lib.Dec.{lit≤}
use Rattle.rules.specs.Size.{most_transactions, changes_at, transaction_size, most_changes, change_size, changes_size, longest_path, deepest}
use Rattle.rules.specs.Octets.{Octets, padded, paste, bit}
use Rattle.rules.specs.Path.{path_text, names_in, is_full}
use Rattle.rules.specs.Layout.{Transaction, change_bytes, transaction_bytes, transaction_in, transactions_bytes, transactions_of}
use Rattle.rules.proofs.PathLaws.{full}
use Rattle.rules.proofs.Tables.{each_map, length_encoded, paste_past, flat_last, each_append}
use Rattle.rules.proofs.Paste.{paste_sets, paste_append, length-paste}
use Rattle.rules.proofs.TransactionLayouts.{ChangeFits, TransactionFits, transaction_width}
use Rattle.rules.proofs.Fields.{bit_small}
use Rattle.rules.proofs.Joined.{set-paste}
use Rattle.transactions.specs.Transaction.{transaction_of, change_given, changed_by, RoomForChange}
use Rattle.rules.proofs.Slots.{length-padded}
use Rattle.domains.proofs.Rows.{part_length, wrote}
use Rattle.transactions.proofs.Parts.{paste_row, paste_twice, row_pasted, padded_more}
use Rattle.transactions.proofs.Laws.{three_of, transaction_parts, transaction_wide, row_parts, first_is, open_fits}
use Rattle.transactions.proofs.ChangeLaws.{two_bytes, change-parts, change-wide}

-- ── the change's own bytes ──

given-fits : (r : Bool) (n : ℕ) (p : Octets) → n < deepest → is_full p ≡ true → length p ≤ longest_path → ChangeFits (change_given r n p)
unfolding change_given
given-fits r n p few f h = record { parents = few; names = (full p f).names; short = rw (← (full p f).text) h }

given-parts : (r : Bool) (n : ℕ) (p : Octets) → n < deepest → is_full p ≡ true → length p ≤ longest_path
    → change_bytes (change_given r n p) ≡ two_bytes (bit r) n (length p) ++ padded longest_path p
unfolding change_given
given-parts r n p few f h =
    let e : path_text (names_in p) ≡ p = sym (full p f).text in
    change-parts (change_given r n p) (given-fits r n p few f h) ∙ rw e

pub mark_small : (r : Bool) → 128 * bit r ≤ 128
mark_small true = lit≤ tt
mark_small false = lit≤ tt

-- two stores, after the text was put in
pub put_two : (s : Octets) (at : ℕ) (r : Bool) (n : ℕ) (p : Octets)
    → at + change_size ≤ length s → n < deepest → is_full p ≡ true → length p ≤ longest_path → (m : ℕ) → m ≡ 128 * bit r
    → set (set (paste (at + 2) (padded longest_path p) s) at (m + 2 * n + length p / 256 % 2)) (at + 1) (length p % 256)
    ≡ paste at (change_bytes (change_given r n p)) s
put_two s at r n p h few f hp m e =
    let text = padded longest_path p in
    let lt : length text ≡ longest_path = length-padded longest_path p hp in
    let x = paste (at + 2) text s in
    let l : length x ≡ length s = length-paste (at + 2) text s (rw lt (omega arith)) in
    let one : at + 1 ≡ suc at = omega arith in
    let q : m + 2 * n + length p / 256 % 2 ≡ 128 * bit r + 2 * n + length p / 256 = omega arith in
    let head = two_bytes (bit r) n (length p) in
    let sets : set (set x at (m + 2 * n + length p / 256 % 2)) (at + 1) (length p % 256) ≡ paste at head x =
    rw (one, q) (paste_sets at head x (rw l (omega arith))) in
    sets ∙ sym (paste_append at head text s (omega arith)) ∙ ap (λ (b : Octets). paste at b s) (sym (given-parts r n p few f hp))

-- ── the transaction's bytes ──

module _ (x : Transaction) (f : TransactionFits x) (few : length x.changes < most_changes)
    (r : Bool) (n : ℕ) (p : Octets) (fit : n < deepest) (full : is_full p ≡ true) (short : length p ≤ longest_path) where
  longer : length (x.changes ++ change_given r n p ∷ []) ≡ length x.changes + 1
  longer = length-append x.changes (change_given r n p ∷ [])

  changed-fits : TransactionFits (changed_by x r n p)
  unfolding changed_by
  changed-fits =
      record {
        holder = f.holder;
        few = rw longer (omega arith);
        changes = each_append ChangeFits x.changes (change_given r n p ∷ []) f.changes (given-fits r n p fit full short, tt);
      }

  rows_long : length (flat_map change_bytes x.changes) ≡ length x.changes * change_size
  rows_long = length_encoded change_bytes change_size x.changes (each_map ChangeFits _ change-wide x.changes f.changes)

  changed-bytes : (b : ℕ) → b ≡ 128 + 64 * bit x.stale + length x.changes + 1
      → paste 0 (b ∷ [])
      (paste (changes_at + length x.changes * change_size) (change_bytes (change_given r n p))
      (three_of x ++ padded changes_size (flat_map change_bytes x.changes)))
      ≡ transaction_bytes (some (changed_by x r n p))
  unfolding changed_by paste
  changed-bytes b e =
      let rows = flat_map change_bytes x.changes in
      let c = change_bytes (change_given r n p) in
      let wide : length c ≡ change_size = change-wide (change_given r n p) (given-fits r n p fit full short) in
      let rl = rows_long in
      let count : b ≡ 128 + 64 * bit x.stale + length (x.changes ++ change_given r n p ∷ []) = rw longer (omega arith) in
      let more = padded_more changes_size rows c (rw (rl, wide) (omega arith)) in
      ap (paste 0 (b ∷ [])) (paste_past (three_of x) (padded changes_size rows) c (length x.changes * change_size))
      ∙ first-set b (128 + 64 * bit x.stale + length x.changes) _ _ (paste (length x.changes * change_size) c (padded changes_size rows))
      ∙ ap₂ (λ (m : ℕ) (t : Octets). m ∷ (x.holder / 256 % 256) ∷ (x.holder % 256) ∷ t) count
      (sym (rw rl at more) ∙ ap (padded changes_size) (sym (flat_last change_bytes x.changes (change_given r n p))))
      ∙ sym (transaction_parts (changed_by x r n p) f.holder changed-fits.few)
    where
      first-set : (b u v w : ℕ) (t : Octets) → paste 0 (b ∷ []) (u ∷ v ∷ w ∷ t) ≡ b ∷ v ∷ w ∷ t
      first-set b u v w t = refl

module _ (s : Octets) (k n : ℕ) (p : Octets) (room : RoomForChange s k n p) (r : Bool) where
  -- where place k begins
  abbrev at : ℕ
  at = k * transaction_size

  abbrev x : Transaction
  x = transaction_of s k

  fits : TransactionFits x
  fits = open_fits s k room.place.below room.place.used

  pub room_within : at + changes_at + length x.changes * change_size + change_size ≤ length s
  room_within = omega (arith, room.place.below, room.place.kept.whole, room.few)

  pub first_small : get_or s at 0 + 1 < 256
  first_small = omega (arith, first_is s k room.place.below room.place.kept room.place.used, room.few, bit_small x.stale)

  pub put_changed : set (paste (at + changes_at + length x.changes * change_size) (change_bytes (change_given r n p)) s) at (get_or s at 0 + 1)
      ≡ transactions_bytes (set (transactions_of s) k (some (changed_by x r n p)))
  unfolding transactions_of transactions_bytes
  put_changed =
      let place = room.place in
      let below = place.below in
      let whole = place.kept.whole in
      let few = room.few in
      let b = get_or s at 0 + 1 in
      let c = change_bytes (change_given r n p) in
      let y = some (changed_by x r n p) in
      let row = take transaction_size (drop at s) in
      let off = changes_at + length x.changes * change_size in
      let wide : length c ≡ change_size = change-wide (change_given r n p) (given-fits r n p room.fits room.full room.short) in
      let lr : length row ≡ transaction_size = part_length s at transaction_size (omega arith) in
      let R = paste off c row in
      let lR : length R ≡ transaction_size = length-paste off c row (rw (lr, wide) (omega arith)) ∙ lr in
      let t = paste at R s in
      let lt : length t ≡ length s = length-paste at R s (rw lR (omega arith)) in
      let inner : paste (at + changes_at + length x.changes * change_size) c s ≡ t =
      ap (λ (n : ℕ). paste n c s) (add_assoc at changes_at (length x.changes * change_size))
      ∙ sym (paste_row s at transaction_size off c (omega arith) (rw wide (omega arith))) in
      let first = ap (λ (n : ℕ). n + 1) (first_is s k below place.kept place.used) in
      let bytes : paste 0 (b ∷ []) R ≡ transaction_bytes y =
      ap (λ (q : Octets). paste 0 (b ∷ []) (paste off c q)) (row_parts s k below place.kept place.used)
      ∙ changed-bytes x fits few r n p room.fits room.full room.short b first in
      let width = transaction_width y (changed-fits x fits few r n p room.fits room.full room.short) in
      ap (λ (l : Octets). set l at b) inner
      ∙ set-paste t at b (rw lt (omega arith))
      ∙ ap (λ (n : ℕ). paste n (b ∷ []) t) (sym (add-zero at))
      ∙ sym (paste_row t at transaction_size 0 (b ∷ []) (rw lt (omega arith)) (lit≤ tt))
      ∙ ap (λ (q : Octets). paste at (paste 0 (b ∷ []) q) t) (row_pasted s at transaction_size R (omega arith) lR)
      ∙ paste_twice s at R (paste 0 (b ∷ []) R) (omega arith) (length-paste 0 (b ∷ []) R (rw lR (lit≤ tt)))
      ∙ ap (λ (q : Octets). paste at q s) bytes
      ∙ sym (wrote transaction_bytes transaction_in transaction_size transaction_wide most_transactions s place.kept k y below width)
