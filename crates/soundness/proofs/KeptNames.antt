-- Names with zeros behind them; names of small letters, by the last byte that each place may have.
use mathlib.Core.Path.{◌≡◌, refl, sym, ap, ◌∙◌}
use mathlib.Core.Bool.{Bool, true, false, ◌&&◌, ◌||◌, and-true, and-false, and_assoc, or-false}
use mathlib.Core.List.{[], ◌∷◌, ◌++◌, append_assoc}
use mathlib.Core.Logic.{◌⊎◌, inl, inr}
use Prim.Native.Nat.{ℕ, zero, suc, ◌+◌, ◌*◌, ◌-◌, ◌≤◌, ◌<◌}
use native.Mathlib.Nat.{add-sub_cancel_left}
use native.Mathlib.Omega.{arith}
use lib.ListN.{length, take, drop, replicate, length-replicate, length-drop, replicate-append-replicate}
use lib.Seq.{take_all, drop_at, take-take, length-take-le}
use lib.Dec.{eqb, leb}
use borrow.Author.Tests.{eq-eqb, ne_eqb, leb-true}
use Rattle.rules.specs.Size.{slots, table_size, slot_size, name_at, longest_name}
use Rattle.rules.specs.Octets.{Octets, all_zero}
use Rattle.rules.specs.Path.{all_bytes, is_name}
use Rattle.rules.specs.Node.{node_at}
use Rattle.rules.specs.Layout.{table_of}
use Rattle.rules.specs.Sound.{good_name}
use Rattle.rules.proofs.Compare.{both_true}
use Rattle.slots.specs.Slot.{slot_at, is_used, name_length}
use Rattle.slots.proofs.Reading.{name-part}
use Rattle.soundness.specs.Parts.{half_name, kept_name, name_kept, small_letters}
use Rattle.soundness.proofs.Tests.{stop, pass, both}
use Rattle.soundness.proofs.NameLaws.{byte_small, name-parts, other_name, root-good}
use Rattle.octets.proofs.Padding.{late_fault, no_fault, first_decides, behind, piece}

-- ── a turn of `small_letters`, and its end ──

pub letters_turn : {s l xs zs : Octets} {b z : ℕ} (a : Bool) {w : Bool} → s ≡ b ∷ xs → l ≡ z ∷ zs → w ≡ a && small_letters s l →
    w ≡ (a && (leb b z && (leb 97 b || eqb z 0))) && small_letters xs zs
unfolding small_letters
letters_turn a h k e = e ∙ rw (h, k) (sym (and_assoc a _ _))

pub letters_end : (s l : Octets) (a : Bool) {w : Bool} → (length s ≡ 0) ⊎ (length l ≡ 0) → w ≡ a && small_letters s l → a ≡ w
unfolding small_letters
letters_end s l a h e = sym (e ∙ rw (by s l h) (and-true a))
  where
    by : (s l : Octets) → (length s ≡ 0) ⊎ (length l ≡ 0) → small_letters s l ≡ true
    by [] l h = refl
    by (c ∷ cs) [] h = refl
    by (c ∷ cs) (z ∷ zs) (inl h) = absurd (omega arith)
    by (c ∷ cs) (z ∷ zs) (inr h) = absurd (omega arith)

-- ── what small letters and zeros are ──

zeros : (m : ℕ) (s : Octets) → length s ≤ m → small_letters s (replicate m 0) ≡ true → all_zero s ≡ true
unfolding small_letters all_zero
zeros m [] h e = refl
zeros zero (c ∷ cs) h e = absurd (omega arith)
zeros (suc m) (c ∷ cs) h e =
    let p = both_true (leb c 0 && (leb 97 c || true)) (small_letters cs (replicate m 0)) e in
    let q = leb-true c 0 (both_true (leb c 0) (leb 97 c || true) p.0).0 in
    both (eq-eqb c 0 (omega arith)) (zeros m cs (omega arith) p.1)

letters : (n : ℕ) (s zs : Octets) → n ≤ length s → small_letters s (replicate n 122 ++ zs) ≡ true →
    (all_bytes (take n s) ≡ true) × (small_letters (drop n s) zs ≡ true)
unfolding small_letters all_bytes
letters zero s zs h e = (refl, e)
letters (suc n) [] zs h e = absurd (omega arith)
letters (suc n) (c ∷ cs) zs h e =
    let p = both_true (leb c 122 && (leb 97 c || false)) (small_letters cs (replicate n 122 ++ zs)) e in
    let q = both_true (leb c 122) (leb 97 c || false) p.0 in
    let small : 97 ≤ c = leb-true 97 c (sym (or-false (leb 97 c)) ∙ q.1) in
    let r = letters n cs zs (omega arith) p.1 in
    (both (sym (byte_small c small) ∙ q.0) r.0, r.1)

-- sixteen places for small letters, then sixteen for zeros
abbrev pub lasts : Octets
lasts = replicate 16 122 ++ replicate 16 0

pub lasts_whole : (n : ℕ) → take (32 - (half_name - n)) (drop (half_name - n) lasts) ≡ drop (half_name - n) lasts
lasts_whole n = take_all _ _ (omega (arith, length-drop (half_name - n) lasts))

lasts_from : (n : ℕ) → n ≤ 16 → drop (half_name - n) lasts ≡ replicate n 122 ++ replicate 16 0
lasts_from n h =
    let e : 16 - n + n ≡ 16 = omega arith in
    let front : ◌≡◌ {A = Octets} (replicate 16 122) (replicate (half_name - n) 122 ++ replicate n 122) =
    sym (replicate-append-replicate (half_name - n) n 122 ∙ rw e refl) in
    ap (λ (l : Octets). drop (half_name - n) (l ++ replicate 16 0)) front
    ∙ ap (drop (half_name - n)) (append_assoc (replicate (half_name - n) 122) (replicate n 122) (replicate 16 0))
    ∙ drop_at (replicate (half_name - n) 122) (replicate n 122 ++ replicate 16 0) (half_name - n) (length-replicate (half_name - n) 122)

-- ── a name in its field, as the code tests it ──

front : (t : Octets) (at k : ℕ) → take (at + k - at) (drop at t) ≡ take k (drop at t)
front t at k = rw add-sub_cancel_left refl

module _ (t : Octets) (at n : ℕ) where
  -- the second half of the field, and half a field from the name's end on
  abbrev second : Octets
  second = take (at + longest_name - (at + half_name)) (drop (at + half_name) t)

  abbrev first : Octets
  first = take (at + n + 16 - (at + n)) (drop (at + n) t)

  abbrev behind-name : Octets
  behind-name = take (at + longest_name - (at + n)) (drop (at + n) t)

  second_is : second ≡ drop 16 (take longest_name (drop at t))
  second_is = behind t at longest_name half_name (omega arith)

  pub no_name : n ≡ 0 → false ≡ kept_name t at n
  unfolding kept_name is_name
  no_name e = sym (rw e (and-false (all_zero (drop 0 (take longest_name (drop at t))))))

  pub long_fault : n ≤ longest_name → all_zero behind-name ≡ false → false ≡ kept_name t at n
  unfolding kept_name
  long_fault h e = stop _ (ap all_zero (sym (behind t at longest_name n h)) ∙ e)

  pub long-name : {r : Bool} → n ≤ longest_name → all_zero behind-name ≡ true → r ≡ is_name (take (at + n - at) (drop at t)) → r ≡ kept_name t at n
  unfolding kept_name
  long-name h e f = pass (ap all_zero (sym (behind t at longest_name n h)) ∙ e) (f ∙ ap is_name (front t at n))

  module _ (h : n ≤ 16) where
    pub second_fault : all_zero second ≡ false → false ≡ kept_name t at n
    unfolding kept_name
    second_fault e = stop _ (late_fault (drop at t) n half_name longest_name h (omega arith) (ap all_zero (sym second_is) ∙ e))

    module _ (z : all_zero second ≡ true) where
      first_is : all_zero first ≡ all_zero (drop n (take longest_name (drop at t)))
      first_is = ap all_zero (piece t at n half_name) ∙ first_decides (drop at t) n half_name longest_name h (omega arith) (ap all_zero (sym second_is) ∙ z)

      pub first_fault : all_zero first ≡ false → false ≡ kept_name t at n
      unfolding kept_name
      first_fault e = stop _ (sym first_is ∙ e)

      pub short-name : {r : Bool} → all_zero first ≡ true → r ≡ is_name (take (at + n - at) (drop at t)) → r ≡ kept_name t at n
      unfolding kept_name
      short-name e f = pass (sym first_is ∙ e) (f ∙ ap is_name (front t at n))

      pub small_name : (n ≡ 0 → ⊥) → at + longest_name ≤ length t → small_letters (take (at + half_name - at) (drop at t)) (drop (half_name - n) lasts) ≡ true →
          true ≡ kept_name t at n
      unfolding kept_name
      small_name some whole e =
          let y = drop at t in
          let long : length y ≡ length t - at = length-drop at t in
          let half : length (take 16 y) ≡ 16 = length-take-le 16 y (omega arith) in
          let p = letters n (take 16 y) (replicate 16 0) (omega arith) (rw (front t at 16, lasts_from n h) at e) in
          let past : all_zero (drop n (take 16 y)) ≡ true = zeros 16 (drop n (take 16 y)) (rw (length-drop n (take 16 y)) (omega arith)) p.1 in
          let bytes : all_bytes (take n y) ≡ true = ap all_bytes (sym (take-take n 16 y h)) ∙ p.0 in
          let many : length (take n y) ≡ n = length-take-le n y (omega arith) in
          pass (no_fault y n half_name longest_name h (omega arith) past (ap all_zero (sym second_is) ∙ z))
          (sym (name-parts (take n y) ∙ rw (bytes, many, ne_eqb n 0 some) refl))

-- ── the name of a slot ──

module _ (t : Octets) (i : ℕ) (h : i < slots) (u : is_used (slot_at t i) ≡ true) (l : name_length t i ≤ longest_name) {n : ℕ} (e : n ≡ name_length t i) where
  text : take n (drop (i * slot_size + name_at) t) ≡ (node_at (table_of t) i).name
  text = rw e (sym (front t (i * slot_size + name_at) (name_length t i)) ∙ name-part t i h u l)

  pub other_kept : {r : Bool} → (i ≡ 0 → ⊥) → r ≡ kept_name t (i * slot_size + name_at) n → r ≡ name_kept t i
  unfolding kept_name name_kept
  other_kept z f = f ∙ ap (λ (b : Bool). all_zero (drop n (take longest_name (drop (i * slot_size + name_at) t))) && b) (ap is_name text ∙ other_name i _ z)
      ∙ rw e refl

  pub root-named : i ≡ 0 → (n ≡ 0 → ⊥) → length t ≡ table_size → false ≡ name_kept t i
  unfolding name_kept
  root-named z some whole =
      let many : length (take n (drop (i * slot_size + name_at) t)) ≡ n = length-take-le n _ (rw (length-drop (i * slot_size + name_at) t) (omega arith)) in
      let bad : good_name i (node_at (table_of t) i).name ≡ false = sym (root-good z text) ∙ rw many (ne_eqb n 0 some) in
      sym (rw bad (and-false (all_zero (drop (name_length t i) (take longest_name (drop (i * slot_size + name_at) t))))))

  pub root_kept : {r : Bool} → i ≡ 0 → n ≡ 0 → r ≡ all_zero (take (i * slot_size + name_at + longest_name - (i * slot_size + name_at))
      (drop (i * slot_size + name_at) t)) → r ≡ name_kept t i
  unfolding name_kept
  root_kept z none f =
      let good : good_name i (node_at (table_of t) i).name ≡ true = sym (root-good z text) ∙ rw none refl in
      f ∙ ap all_zero (front t (i * slot_size + name_at) longest_name) ∙ sym
      (rw (← e, none, good) (and-true (all_zero (take longest_name (drop (i * slot_size + name_at) t)))))
