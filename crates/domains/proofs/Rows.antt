-- Tables of places of one width: their parts, whether the bytes re-encode to themselves, and what a written place leaves of bytes that do.
use mathlib.Core.Path.{◌≡◌, refl, sym, ap, ◌∙◌}
use mathlib.Core.Bool.{Bool, true, false, ◌&&◌, and-true}
use mathlib.Core.List.{List, [], ◌∷◌, ◌++◌, map, flat_map}
use mathlib.Core.Option.{Option, none, some}
use Prim.Native.Nat.{ℕ, zero, suc, ◌+◌, ◌*◌, ◌-◌, ◌≤◌, ◌<◌, zero-le, suc-le-suc}
use native.Mathlib.Nat.{suc-mul, zero-mul, add-suc, add-sub_cancel_left, mul-le-mul_right}
use native.Mathlib.Numerals.{add-one}
use native.Mathlib.Omega.{arith}
use lib.ListN.{length, get_or, take, drop, set, length-map, length-drop, length-set, take-append-drop, replicate}
use lib.Seq.{drop-drop, drop-cons, take_at, take-take, length-take-le, set-get_or}
use lib.Dec.{eqb}
use Rattle.std.specs.List.{list_all, range_with_len}
use Rattle.std.proofs.lemmas.List.Folds.{list_all-map}
use Rattle.std.proofs.lemmas.List.FromFn.{fill_by_all}
use borrow.Author.Tests.{eq-eqb, ne_eqb, eqb-true, eqb-false}
use Rattle.rules.specs.Octets.{Octets, same, all_zero, padded, chunks, paste}
use Rattle.rules.specs.Layout.{text_at}
use Rattle.rules.proofs.Fields.{take-drop-take}
use Rattle.rules.proofs.Cases.{cond_case}
use Rattle.rules.proofs.Compare.{both_true, same_refl, same_eq}
use Rattle.rules.proofs.Places.{is_false}
use Rattle.rules.proofs.Tables.{Each, Wide, each_at, each_set, length-chunks, decoded_at, encoded_at, length_encoded, written, decoded, each_map}
use Rattle.rules.specs.Entries.{without}
use Rattle.rules.proofs.Reencoding.{same_zeros, same_append, same-padded}
use Rattle.octets.specs.Numbers.{rest_zero}
use Rattle.domains.specs.Entry.{taken, passes, entry_or, dropped_if}
use Rattle.domains.specs.Kept.{Kept, kept_at}
use Rattle.octets.proofs.Bytes.{agree}
use Rattle.domains.proofs.Search.{free_none, taken-some, dropped_is, dropped_not, swept_before, swept_next, swept_all, without-map}

pub eqb_swap : (x y : ℕ) → eqb x y ≡ eqb y x
eqb_swap x y = agree (λ p. eq-eqb y x (sym (eqb-true x y p))) (λ p. ne_eqb y x (λ q. eqb-false x y p (sym q)))

-- lists that differ in their first byte at most
pub same_first : (x y : ℕ) (r : Octets) → same (x ∷ r) (y ∷ r) ≡ eqb y x
unfolding same
same_first x y r = rw (same_refl r, and-true) (eqb_swap x y)

-- one more byte of a part
pub part_next : (s : Octets) (p n : ℕ) → p < length s → take (suc n) (drop p s) ≡ get_or s p 0 ∷ take n (drop (suc p) s)
part_next s p n h = rw (drop-cons s p 0 h)

-- n bytes one by one: those from p + j on, and those from p on
abbrev behind : Octets → ℕ → ℕ → ℕ → Octets
behind s p j zero = []
behind s p j (suc n) = get_or s (p + j) 0 ∷ behind s p (suc j) n

abbrev pub listed : Octets → ℕ → ℕ → Octets
listed s p zero = []
listed s p (suc n) = get_or s p 0 ∷ behind s p 1 n

part-behind : (s : Octets) (p j n : ℕ) → p + j + n ≤ length s → take n (drop (p + j) s) ≡ behind s p j n
part-behind s p j zero h = refl
part-behind s p j (suc n) h =
    part_next s (p + j) n (omega arith)
    ∙ ap (λ (l : Octets). get_or s (p + j) 0 ∷ l)
    (ap (λ (q : ℕ). take n (drop q s)) (sym (add-suc p j)) ∙ part-behind s p (suc j) n (rw (add-suc p j) (omega arith)))

pub listed_from : (s : Octets) (p n : ℕ) → p + n ≤ length s → take n (drop p s) ≡ listed s p n
listed_from s p zero h = refl
listed_from s p (suc n) h =
    part_next s p n (omega arith)
    ∙ ap (λ (l : Octets). get_or s p 0 ∷ l) (ap (λ (q : ℕ). take n (drop q s)) (sym (add-one p)) ∙ part-behind s p 1 n (omega arith))

pub part_length : (s : Octets) (p n : ℕ) → p + n ≤ length s → length (take n (drop p s)) ≡ n
part_length s p n h = length-take-le n (drop p s) (rw length-drop (omega arith))

-- the first n bytes of a place of k bytes, where its parts are known
pub first-listed : (s : Octets) (p k n : ℕ) (front rest : Octets) → n ≤ k → p + k ≤ length s → length front ≡ n → take k (drop p s) ≡ front ++ rest →
    listed s p n ≡ front
first-listed s p k n front rest h l w e =
    sym (listed_from s p n (omega arith)) ∙ sym (take-take n k (drop p s) h) ∙ ap (take n) e ∙ take_at front rest n w

-- n bytes from p on, as the code takes them
abbrev pub part_at : Octets → ℕ → ℕ → Octets
part_at s p n = take (p + n - p) (drop p s)

-- a text of a place of `size` bytes, as the part of the table that the code returns
pub text-part : (s : Octets) (p size j k n : ℕ) → n ≤ k → j + k ≤ size → part_at s (p + j) n ≡ text_at (take size (drop p s)) j k n
unfolding text_at
text-part s p size j k n hn hk =
    ap (λ (m : ℕ). take m (drop (p + j) s)) (add-sub_cancel_left (p + j) n)
    ∙ ap (take n) (sym (drop-drop j p s))
    ∙ sym (take-take n k _ hn ∙ take-drop-take n j size (drop p s) (omega arith))

-- the same text, as it begins its field
pub text-field : (s : Octets) (p size j k n : ℕ) → n ≤ k → j + k ≤ size → text_at (take size (drop p s)) j k n ≡ take n (take k (drop (p + j) s))
text-field s p size j k n hn hk =
    sym (text-part s p size j k n hn hk)
    ∙ ap (λ (m : ℕ). take m (drop (p + j) s)) (add-sub_cancel_left (p + j) n)
    ∙ sym (take-take n k (drop (p + j) s) hn)

-- a text's field is the padded text where the rest of it is zero
pub same-field : (s : Octets) (p k n : ℕ) → p + k ≤ length s → n ≤ k →
    same (padded k (take n (take k (drop p s)))) (take k (drop p s)) ≡ rest_zero s p n k
same-field s p k n h l = same-padded k n (take k (drop p s)) (part_length s p k h) l

pub differ : (a b : Octets) → (a ≡ b → ⊥) → same a b ≡ false
differ a b f = is_false (same a b) λ e. f (same_eq a b e)

-- ── whether rows re-encode to themselves ──

module _ {B : Type 0} (encode : B → Octets) (decode : Octets → B) (k : ℕ) (wide : (r : Octets) → length (encode (decode r)) ≡ k) where
  abbrev pub row_kept : Octets → Bool
  row_kept r = same (encode (decode r)) r

  kept_each : (n : ℕ) (s : Octets) → length s ≡ n * k → same (flat_map encode (map decode (chunks n k s))) s ≡ list_all row_kept (chunks n k s)
  unfolding chunks flat_map same
  kept_each zero [] e = refl
  kept_each zero (x ∷ s) e = absurd (omega (arith, zero-mul k))
  kept_each (suc n) s e =
      let more : suc n * k ≡ n * k + k = suc-mul n k in
      let first = take k s in
      let rest = flat_map encode (map decode (chunks n k (drop k s))) in
      ap (same (encode (decode first) ++ rest)) (sym (take-append-drop k s))
      ∙ same_append (encode (decode first)) rest first (drop k s) (wide first ∙ sym (length-take-le k s (omega arith)))
      ∙ ap (◌&&◌ (row_kept first)) (kept_each n (drop k s) (rw length-drop (omega arith)))

  -- the row in place i
  abbrev pub kept_row : Octets → ℕ → Bool
  kept_row s i = row_kept (take k (drop (i * k) s))

  -- n rows re-encode to themselves where a test of each says so
  pub rows_all : (n : ℕ) (s : Octets) → length s ≡ n * k → (test : ℕ → Bool) → ((i : ℕ) → i < n → test i ≡ kept_row s i)
      → list_all test (range_with_len 0 n) ≡ same (flat_map encode (map decode (chunks n k s))) s
  rows_all n s whole test each =
      let rows = map row_kept (chunks n k s) in
      let itself : Bool → Bool = λ b. b in
      let so_many : length rows ≡ n = length-map (chunks n k s) row_kept ∙ length-chunks n k s in
      let they_are = fill_by_all test rows n false so_many (λ i h. decoded_at row_kept n k i s false h ∙ sym (each i h)) in
      sym (list_all-map itself test (range_with_len 0 n))
      ∙ ap (list_all itself) (sym they_are)
      ∙ list_all-map itself row_kept (chunks n k s)
      ∙ sym (kept_each n s whole)

-- ── tables of places ──

module _ {A : Type 0} (encode : Option A → Octets) (decode : Octets → Option A) (k : ℕ) (wide : (r : Octets) → length (encode (decode r)) ≡ k) where
  -- n places of k bytes
  abbrev pub table : ℕ → Octets → List (Option A)
  table n s = map decode (chunks n k s)

  each_wide : (n : ℕ) (s : Octets) → Each (Wide encode k) (table n s)
  unfolding chunks
  each_wide zero s = tt
  each_wide (suc n) s = (wide (take k s), each_wide n (drop k s))

  pub length-table : (n : ℕ) (s : Octets) → length (table n s) ≡ n
  length-table n s = length-map (chunks n k s) decode ∙ length-chunks n k s

  -- ── whether a place's bytes re-encode to themselves ──

  module _ (n : ℕ) (s : Octets) (i : ℕ) (h : i < n) where
    abbrev place : Option A
    place = get_or (table n s) i none

    abbrev row : Octets
    row = take k (drop (i * k) s)

    read : decode row ≡ place
    read = sym (decoded_at decode n k i s none h)

    -- a free place's do where they are all zero
    pub free_kept : length s ≡ n * k → encode none ≡ replicate k 0 → taken place ≡ false → all_zero (part_at s (i * k) k) ≡ kept_at n k encode decode s i
    unfolding kept_at
    free_kept whole z f =
        let fits : suc i * k ≤ n * k = mul-le-mul_right k h in
        let more : suc i * k ≡ i * k + k = suc-mul i k in
        rw (add-sub_cancel_left, read, free_none place f, z) (sym (same_zeros k row (part_length s (i * k) k (omega arith))))

    -- a used one's where they are those of its entry
    pub used-kept : (stand : A) → taken place ≡ true → kept_at n k encode decode s i ≡ same (encode (some (entry_or stand place))) row
    unfolding kept_at
    used-kept stand t = ap (λ (x : Option A). same (encode x) row) (read ∙ taken-some stand place t)

  -- ── bytes that re-encode to themselves ──

  -- an entry of the width that is read back
  pub record Writable (x : Option A) : Type 0 where
    pub width : length (encode x) ≡ k
    pub back : decode (encode x) ≡ x

  dropped_case : (test : A → Bool) (x : Option A) → Writable none → Writable x → Writable (dropped_if test x)
  unfolding dropped_if
  dropped_case test none p q = p
  dropped_case test (some x) p q = cond_case Writable (test x) none (some x) p q

  each_place : (P : Option A → Type 0) (xs : List (Option A)) → ((i : ℕ) → i < length xs → P (get_or xs i none)) → Each P xs
  each_place P [] h = tt
  each_place P (x ∷ xs) h = (h 0 (suc-le-suc zero-le), each_place P xs (λ i l. h (suc i) (suc-le-suc l)))

  each_mapped : (P : Option A → Type 0) (f : Option A → Option A) (xs : List (Option A)) → Each (λ (x : Option A). P (f x)) xs → Each P (map f xs)
  each_mapped P f [] e = tt
  each_mapped P f (x ∷ xs) e = (e.0, each_mapped P f xs e.1)

  pub same_kept : (n : ℕ) (s : Octets) → length s ≡ n * k → same (flat_map encode (table n s)) s ≡ true → Kept n k encode decode s
  same_kept n s w e = record { whole = w; same = same_eq (flat_map encode (table n s)) s e }

  -- as those of a sound table do, whatever else is asked of it
  pub checked-kept : (n : ℕ) (s : Octets) (more : Bool) → (eqb (length s) (n * k) && (same (flat_map encode (table n s)) s && more)) ≡ true
      → Kept n k encode decode s
  checked-kept n s more h =
      let p = both_true (eqb (length s) (n * k)) (same (flat_map encode (table n s)) s && more) h in
      same_kept n s (eqb-true (length s) (n * k) p.0) (both_true (same (flat_map encode (table n s)) s) more p.1).0

  module _ (n : ℕ) (s : Octets) (c : Kept n k encode decode s) where
    -- the bytes of place i
    place-bytes : (i : ℕ) → i < n → take k (drop (i * k) s) ≡ encode (get_or (table n s) i none)
    place-bytes i h =
        ap (λ (r : Octets). take k (drop (i * k) r)) (sym c.same)
        ∙ encoded_at encode k (table n s) i none (each_wide n s) (rw (length-table n s) h)

    pub entry-bytes : (i : ℕ) → i < n → (stand : A) → taken (get_or (table n s) i none) ≡ true →
        take k (drop (i * k) s) ≡ encode (some (entry_or stand (get_or (table n s) i none)))
    entry-bytes i h stand t = place-bytes i h ∙ ap encode (taken-some stand (get_or (table n s) i none) t)

    -- a written place changes its own bytes alone
    pub wrote : (i : ℕ) (y : Option A) → i < n → length (encode y) ≡ k → flat_map encode (set (table n s) i y) ≡ paste (i * k) (encode y) s
    wrote i y h w = written encode k (table n s) i y (each_wide n s) w (rw (length-table n s) h) ∙ ap (paste (i * k) (encode y)) c.same

    re_read : Each (λ (x : Option A). decode (encode x) ≡ x) (table n s)
    re_read =
        each_place _ (table n s) λ i l.
        let h : i < n = rw (length-table n s) at l in
        ap decode (sym (place-bytes i h)) ∙ sym (decoded_at decode n k i s none h)

    -- what a place holds may be written again
    pub place_again : (i : ℕ) → i < n → Writable (get_or (table n s) i none)
    place_again i h =
        let l : i < length (table n s) = rw (length-table n s) h in
        record { width = each_at _ (table n s) i none (each_wide n s) l; back = each_at _ (table n s) i none re_read l }

    module _ (i : ℕ) (y : Option A) (w : Writable y) where
      means : table n (flat_map encode (set (table n s) i y)) ≡ set (table n s) i y
      means =
          let m : length (set (table n s) i y) ≡ n = length-set (table n s) i y ∙ length-table n s in
          ap (λ (j : ℕ). table j (flat_map encode (set (table n s) i y))) (sym m)
          ∙ decoded encode k decode (set (table n s) i y) (each_set _ (table n s) i y (each_wide n s) w.width) (each_set _ (table n s) i y re_read w.back)

      -- the bytes after a place is written: kept, and they mean the table with that place written
      pub wrote_kept : (t : Octets) → t ≡ flat_map encode (set (table n s) i y) → Kept n k encode decode t × (table n t ≡ set (table n s) i y)
      wrote_kept t e =
          let l = length_encoded encode k (set (table n s) i y) (each_set _ (table n s) i y (each_wide n s) w.width) in
          rw e (record { whole = l ∙ ap (λ (j : ℕ). j * k) (length-set (table n s) i y ∙ length-table n s); same = ap (flat_map encode) means }, means)

      -- a turn of a sweep that writes this
      pub swept_kept : (f : Option A → Option A) (xs : List (Option A)) → f (get_or (table n s) i none) ≡ y → table n s ≡ swept_before f i xs
          → (t : Octets) → t ≡ flat_map encode (set (table n s) i (f (get_or (table n s) i none)))
          → Kept n k encode decode t × (table n t ≡ swept_before f (i + 1) xs)
      swept_kept f xs p e t q =
          let next = wrote_kept t (rw p at q) in
          (next.0, next.1 ∙ (rw (← p, e) (swept_next f i xs)))

    -- a place without its entry, if that passes a test
    module _ (i : ℕ) (h : i < n) (empty : Writable none) (test : A → Bool) where
      pub freed : passes test (get_or (table n s) i none) ≡ true
          → paste (i * k) (encode none) s ≡ flat_map encode (set (table n s) i (dropped_if test (get_or (table n s) i none)))
      freed p = sym (wrote i none h empty.width) ∙ ap (λ (m : Option A). flat_map encode (set (table n s) i m)) (sym (dropped_is test _ p))

      pub left : passes test (get_or (table n s) i none) ≡ false → s ≡ flat_map encode (set (table n s) i (dropped_if test (get_or (table n s) i none)))
      left p = sym (rw (dropped_not test _ p, set-get_or (table n s) i none) c.same)

      pub dropped_kept : (xs : List (Option A)) → table n s ≡ swept_before (dropped_if test) i xs
          → (t : Octets) → t ≡ flat_map encode (set (table n s) i (dropped_if test (get_or (table n s) i none)))
          → Kept n k encode decode t × (table n t ≡ swept_before (dropped_if test) (i + 1) xs)
      dropped_kept xs = swept_kept i _ (dropped_case test (get_or (table n s) i none) empty (place_again i h)) (dropped_if test) xs refl

    -- the end of a sweep of the table that t had
    pub swept-end : (f : Option A → Option A) (t : Octets) (i : ℕ) → n ≤ i → table n s ≡ swept_before f i (table n t) → s ≡ flat_map encode (map f (table n t))
    swept-end f t i h e = sym c.same ∙ ap (flat_map encode) (e ∙ swept_all f i (table n t) (rw (length-table n t) h))

    pub dropped_end : (test : A → Bool) (t : Octets) (i : ℕ) → n ≤ i → table n s ≡ swept_before (dropped_if test) i (table n t) →
        s ≡ flat_map encode (without test (table n t))
    dropped_end test t i h e = swept-end (dropped_if test) t i h e ∙ ap (flat_map encode) (without-map test (table n t))

    -- every place made what a function makes of it: kept, and they mean that
    pub mapped_kept : (f : Option A → Option A) → ((i : ℕ) → i < n → Writable (f (get_or (table n s) i none)))
        → (t : Octets) → t ≡ flat_map encode (map f (table n s)) → Kept n k encode decode t × (table n t ≡ map f (table n s))
    mapped_kept f can t e =
        let xs = table n s in
        let ys = map f xs in
        let Can : Option A → Type 0 = λ x. Writable (f x) in
        let Back : Option A → Type 0 = λ x. decode (encode x) ≡ x in
        let each : Each Can xs = each_place Can xs (λ i l. can i (rw (length-table n s) at l)) in
        let width : Each (Wide encode k) ys = each_mapped (Wide encode k) f xs (each_map Can _ (λ x w. w.width) xs each) in
        let back : Each Back ys = each_mapped Back f xs (each_map Can _ (λ x w. w.back) xs each) in
        let m : length ys ≡ n = length-map xs f ∙ length-table n s in
        let d : table n (flat_map encode ys) ≡ ys = ap (λ (j : ℕ). table j (flat_map encode ys)) (sym m) ∙ decoded encode k decode ys width back in
        rw e (record { whole = length_encoded encode k ys width ∙ ap (λ (j : ℕ). j * k) m; same = ap (flat_map encode) d }, d)

    pub without-kept : Writable none → (test : A → Bool) → (t : Octets) → t ≡ flat_map encode (without test (table n s))
        → Kept n k encode decode t × (table n t ≡ without test (table n s))
    without-kept empty test t e =
        let w = without-map test (table n s) in
        let r = mapped_kept (dropped_if test) (λ i h. dropped_case test (get_or (table n s) i none) empty (place_again i h)) t
        (e ∙ ap (flat_map encode) (sym w)) in
        (r.0, r.1 ∙ w)
