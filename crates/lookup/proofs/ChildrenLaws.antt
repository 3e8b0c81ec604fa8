-- The children of a slot, slot after slot, and lists in the order of names.
use mathlib.Core.Path.{◌≡◌, refl, sym, ap, ap₂, subst, ◌∙◌}
use mathlib.Core.Bool.{true, false, and-false, true≢false}
use mathlib.Core.Option.{Option, none, some}
use mathlib.Core.List.{List, [], ◌∷◌, ◌++◌, append_assoc}
use Prim.Native.Nat.{ℕ, zero, suc, ◌+◌, ◌-◌, ◌≤◌, ◌<◌}
use native.Mathlib.Nat.{le_of_suc-le-suc, not-suc-le-zero}
use native.Mathlib.Numerals.{add-one}
use native.Mathlib.Omega.{arith}
use lib.ListN.{length, get_or, take, drop, set, drop_of_length-le, length-append, length-drop}
use lib.Seq as Seq
use lib.Dec.{eqb, lit≤}
use borrow.Author.Tests.{ne_eqb}
use Rattle.std.specs.List.{copy_within}
use Rattle.rules.specs.Size.{slots, table_size, longest_name}
use Rattle.rules.specs.Octets.{Octets, paste, less}
use Rattle.rules.proofs.Cases.{cond_case}
use Rattle.rules.proofs.Slots.{length-table_of}
use Rattle.rules.proofs.Paste.{length-paste, paste-before}
use Rattle.rules.specs.Node.{Node, Table, node_at, insert, has_parent, children_from, children}
use Rattle.rules.specs.Layout.{table_of}
use Rattle.octets.proofs.Padding.{drop-take}
use Rattle.slots.specs.Slot.{slot_at, is_used, name_length}
use Rattle.slots.proofs.Reading.{node-some}
use Rattle.slots.proofs.Canonical.{sound_canonical, name-short}
use Rattle.lookup.specs.Rights.{Asked}
use Rattle.lookup.specs.Children.{AllAsked, Placed, Listed}

-- ── one slot ──

pub unused_parent : (p : ℕ) (x : Option Node) → is_used x ≡ false → has_parent p x ≡ false
unfolding has_parent
unused_parent p none u = refl
unused_parent p (some n) u = absurd (true≢false u)

pub used-parent : (ts : Table) (i p : ℕ) → is_used (get_or ts i none) ≡ true → has_parent p (get_or ts i none) ≡ eqb (node_at ts i).parent p
unfolding has_parent
used-parent ts i p u = go (get_or ts i none) refl u
  where
    go : (x : Option Node) → get_or ts i none ≡ x → is_used x ≡ true → has_parent p x ≡ eqb (node_at ts i).parent p
    go none e u = absurd (true≢false (sym u))
    go (some n) e u = ap (λ (m : Node). eqb m.parent p) (sym (node-some ts i n e))

-- ── a place in a list ──

module _ (ts : Table) (j : ℕ) (is : List ℕ) (k : ℕ) where
  pub place_here : k < length is → less (node_at ts j).name (node_at ts (get_or is k 0)).name ≡ true → insert ts j (drop k is) ≡ j ∷ drop k is
  unfolding insert
  place_here h l = rw (Seq.drop-cons is k 0 h, l)

  pub place_further : k < length is → less (node_at ts j).name (node_at ts (get_or is k 0)).name ≡ false →
      take k is ++ insert ts j (drop k is) ≡ take (k + 1) is ++ insert ts j (drop (k + 1) is)
  unfolding insert
  place_further h l =
      ap (λ (r : List ℕ). take k is ++ insert ts j r) (Seq.drop-cons is k 0 h)
      ∙ rw (l, add-one)
      (sym (Seq.append_snoc (take k is) (get_or is k 0) (insert ts j (drop (suc k) is)))
      ∙ ap (λ (r : List ℕ). r ++ insert ts j (drop (suc k) is)) (sym (Seq.take-suc is k 0 h)))

  pub place_over : length is ≤ k → insert ts j (drop k is) ≡ j ∷ drop k is
  unfolding insert
  place_over h = rw (drop_of_length-le is h)

pub asked_at : (t : Octets) (is : List ℕ) (k : ℕ) → AllAsked t is → k < length is → Asked t (get_or is k 0)
asked_at t [] k a h = absurd (not-suc-le-zero h)
asked_at t (i ∷ is) zero a h = a.0
asked_at t (i ∷ is) (suc k) a h = asked_at t is k a.1 (le_of_suc-le-suc h)

-- the slot in place k of the first n
pub listed : (t : Octets) (list : List ℕ) (n k : ℕ) → AllAsked t (take n list) → k < n → n ≤ length list → Asked t (get_or list k 0)
listed t list n k a h long = rw (← Seq.get_or-take n list k 0 h) (asked_at t (take n list) k a (rw (Seq.length-take-le n list long) h))

-- ── slot after slot ──

module _ (ts : Table) (p i : ℕ) (h : i < length ts) (positive : 0 < i) where
  pub children_with : has_parent p (get_or ts i none) ≡ true → children_from ts p i (drop i ts) ≡ insert ts i (children_from ts p (i + 1) (drop (i + 1) ts))
  unfolding children_from
  children_with c = rw (Seq.drop-cons ts i none h, c, ne_eqb i 0 (λ e. omega arith), add-one)

  pub children-without : has_parent p (get_or ts i none) ≡ false → children_from ts p i (drop i ts) ≡ children_from ts p (i + 1) (drop (i + 1) ts)
  unfolding children_from
  children-without c = rw (Seq.drop-cons ts i none h, c, add-one)

pub children-none : (ts : Table) (p i : ℕ) → length ts ≤ i → children_from ts p i (drop i ts) ≡ []
unfolding children_from
children-none ts p i h = rw (drop_of_length-le ts h)

-- slot 0 is nobody's child
pub children-all : (ts : Table) (p : ℕ) → 0 < length ts → children ts p ≡ children_from ts p 1 (drop 1 ts)
unfolding children children_from
children-all [] p h = absurd (not-suc-le-zero h)
children-all (s ∷ ss) p h = rw and-false

-- ── those from a place on moving up ──

module _ (list : List ℕ) (n k : ℕ) (h : n < length list) (low : k ≤ n) where
  part : length (take (n - k) (drop k list)) ≡ n - k
  part = Seq.length-take-le (n - k) (drop k list) (rw length-drop (omega arith))

  moved : copy_within list k n (k + 1) ≡ paste (k + 1) (take (n - k) (drop k list)) list
  unfolding paste
  moved = rw (part, append_assoc) refl

  -- those of the n from place k on move up, and another goes in before them
  pub put_before : (j : ℕ) → set (copy_within list k n (k + 1)) k j ≡ paste k (j ∷ take (n - k) (drop k list)) list
  put_before j = ap (λ (l : List ℕ). set l k j) moved ∙ paste-before k (take (n - k) (drop k list)) list j (rw part (omega arith))

-- ── what `name` asks of a used slot, and a turn of `place` ──

pub has-name : (t : Octets) (i : ℕ) → Asked t i → (i < slots) × (length t ≡ table_size) × (is_used (slot_at t i) ≡ true) × (name_length t i ≤ longest_name)
has-name t i a = (a.below, (sound_canonical t a.sound).whole, a.used, name-short t a.sound i a.below a.used)

module _ (ts : Table) (j : ℕ) (is : List ℕ) (k : ℕ) (h : k < length is) (so_far : insert ts j is ≡ take k is ++ insert ts j (drop k is)) where
  pub placed : less (node_at ts j).name (node_at ts (get_or is k 0)).name ≡ true → Placed ts j is k
  placed l = record { within = omega arith; inserted = so_far ∙ ap (λ (r : List ℕ). take k is ++ r) (place_here ts j is k h l) }

  pub not_placed : less (node_at ts j).name (node_at ts (get_or is k 0)).name ≡ false → insert ts j is ≡ take (k + 1) is ++ insert ts j (drop (k + 1) is)
  not_placed l = so_far ∙ place_further ts j is k h l

pub placed_last : (ts : Table) (j : ℕ) (is : List ℕ) (k n : ℕ) → k ≡ n → k ≤ length is → length is ≤ k → insert ts j is ≡ take k is ++ insert ts j (drop k is) →
    Placed ts j is n
placed_last ts j is k n e low high so_far =
    subst (Placed ts j is) e (record { within = low; inserted = so_far ∙ ap (λ (r : List ℕ). take k is ++ r) (place_over ts j is k high) })

-- ── the children gathered from the last slot down ──

-- the first n of a list are the children from slot i on
pub record Gathered (t : Octets) (p i n : ℕ) (list : List ℕ) : Type 0 where
  pub low : 1 ≤ i
  pub few : n + i ≤ slots
  pub long : length list ≡ slots
  pub all : take n list ≡ children_from (table_of t) p i (drop i (table_of t))
  pub asked : AllAsked t (take n list)

all_insert : (t : Octets) (ts : Table) (j : ℕ) (is : List ℕ) → Asked t j → AllAsked t is → AllAsked t (insert ts j is)
unfolding insert
all_insert t ts j [] a rest = (a, tt)
all_insert t ts j (k ∷ ks) a rest =
    cond_case (AllAsked t) (less (node_at ts j).name (node_at ts k).name) (j ∷ k ∷ ks) (k ∷ insert ts j ks) (a, rest)
    (rest.0, all_insert t ts j ks a rest.1)

-- what is put into place k of the first n
put_at : (list : List ℕ) (n k j : ℕ) → k ≤ n → n < length list → take (n + 1) (paste k (j ∷ take (n - k) (drop k list)) list)
    ≡ take k (take n list) ++ (j ∷ drop k (take n list))
unfolding paste
put_at list n k j h long =
    let part = j ∷ take (n - k) (drop k list) in
    let size : length (take k list ++ part) ≡ n + 1 =
    length-append (take k list) part ∙ ap₂ ◌+◌ (Seq.length-take-le k list (omega arith))
    (ap suc (Seq.length-take-le (n - k) (drop k list) (rw length-drop (omega arith)))) ∙ omega arith in
    ap (take (n + 1)) (sym (append_assoc (take k list) part (drop (k + length part) list)))
    ∙ Seq.take_at (take k list ++ part) (drop (k + length part) list) (n + 1) size
    ∙ ap₂ (λ (x y : List ℕ). x ++ (j ∷ y)) (sym (Seq.take-take k n list h)) (sym (drop-take k n list))

pub gather_none : (t : Octets) (p : ℕ) (list : List ℕ) → length list ≡ slots → Gathered t p slots 0 list
gather_none t p list long =
    record { low = lit≤ tt; few = lit≤ tt; long = long; all = sym (children-none (table_of t) p slots (omega (arith, length-table_of t))); asked = tt }

module _ (t : Octets) (p i n : ℕ) (list : List ℕ) (g : Gathered t p i n list) (more : 1 < i) where
  low : i - 1 < length (table_of t)
  low = omega (arith, length-table_of t, g.few)

  pub gather_skip : has_parent p (slot_at t (i - 1)) ≡ false → Gathered t p (i - 1) n list
  gather_skip c =
      let back : i - 1 + 1 ≡ i = omega arith in
      record {
        low = omega arith;
        few = omega (arith, g.few);
        long = g.long;
        all = g.all ∙ sym (children-without (table_of t) p (i - 1) low (omega arith) c
            ∙ ap (λ (k : ℕ). children_from (table_of t) p k (drop k (table_of t))) back);
        asked = g.asked;
      }

  pub gather_put : has_parent p (slot_at t (i - 1)) ≡ true → Asked t (i - 1) → (k : ℕ) → Placed (table_of t) (i - 1) (take n list) k → (j : ℕ) → j ≡ i - 1 →
      (list' : List ℕ)
      → list' ≡ paste k (j ∷ take (n - k) (drop k list)) list → Gathered t p (i - 1) (n + 1) list'
  gather_put c a k at j e list' l =
      let back : i - 1 + 1 ≡ i = omega arith in
      let count : length (take n list) ≡ n = Seq.length-take-le n list (omega (arith, g.few, g.long)) in
      let within : k ≤ n = omega (arith, at.within) in
      let room : n < length list = omega (arith, g.few, g.long) in
      let put : take (n + 1) list' ≡ insert (table_of t) (i - 1) (take n list) =
      ap (take (n + 1)) l ∙ put_at list n k j within room ∙ ap (λ (m : ℕ). take k (take n list) ++ (m ∷ drop k (take n list))) e ∙ sym at.inserted in
      record {
        low = omega arith;
        few = omega (arith, g.few);
        long = ap length l ∙ length-paste k (j ∷ take (n - k) (drop k list)) list
            (rw (Seq.length-take-le (n - k) (drop k list) (rw length-drop (omega arith))) (omega arith)) ∙ g.long;
        all = put ∙ ap (insert (table_of t) (i - 1)) (g.all ∙ ap (λ (m : ℕ). children_from (table_of t) p m (drop m (table_of t))) (sym back))
            ∙ sym (children_with (table_of t) p (i - 1) low (omega arith) c);
        asked = rw put (all_insert t (table_of t) (i - 1) (take n list) a g.asked);
      }

pub gather_done : (t : Octets) (p i n : ℕ) (list : List ℕ) → Gathered t p i n list → i ≤ 1 → Listed t p list n
gather_done t p i n list g h =
    let one : i ≡ 1 = omega (arith, g.low) in
    record {
      few = omega (arith, g.few, g.low);
      long = g.long;
      all = g.all ∙ ap (λ (k : ℕ). children_from (table_of t) p k (drop k (table_of t))) one
          ∙ sym (children-all (table_of t) p (omega (arith, length-table_of t)));
      asked = g.asked;
    }

pub parent-used : (p : ℕ) (x : Option Node) → has_parent p x ≡ true → is_used x ≡ true
unfolding has_parent
parent-used p none c = absurd (true≢false (sym c))
parent-used p (some n) c = refl
