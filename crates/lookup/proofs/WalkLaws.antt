-- The walk, node by node and list by list, and what it enters.
use mathlib.Core.Path.{◌≡◌, sym, ap, ap₂, ◌∙◌, subst}
use mathlib.Core.Bool.{true}
use mathlib.Core.List.{List, [], ◌∷◌, ◌++◌, append_assoc, append-nil, flat_map}
use Prim.Native.Nat.{ℕ, suc, ◌+◌, ◌-◌, ◌≤◌, ◌<◌}
use native.Mathlib.Numerals.{add-one}
use native.Mathlib.Omega.{arith}
use lib.ListN.{length, get_or, take, drop, set, drop_of_length-le, length-append}
use lib.Seq as Seq
use lib.Dec.{lit<}
use borrow.Author.Tests.{eq-eqb, ne_eqb}
use Rattle.rules.specs.Size.{slots}
use Rattle.rules.specs.Octets.{Octets}
use Rattle.rules.specs.Path.{Domain}
use Rattle.rules.specs.Node.{Entry, Table, node_at, owned_below, owned_by}
use Rattle.rules.specs.Layout.{table_of}
use Rattle.rules.specs.Sound.{sound_table}
use Rattle.rules.proofs.Tables.{Each, each_at, each_map}
use Rattle.rules.proofs.Places.{at_below}
use Rattle.rules.proofs.Slots.{length-table_of}
use Rattle.rules.proofs.Owned.{OwnedSlot, owned_slots, owned_few}
use Rattle.slots.specs.Slot.{is_used, entry_of}
use Rattle.slots.proofs.Canonical.{sound-slots, root-used}
use Rattle.lookup.specs.Rights.{Asked}
use Rattle.lookup.specs.Children.{AllAsked, Listed}
use Rattle.lookup.proofs.RightsLaws.{owner_is}
use Rattle.lookup.specs.Walk.{owned_among, Entered, Owned}

-- ── a node ──

pub below_none : (ts : Table) (d : Domain) (i k : ℕ) → k ≡ 0 → owned_below k ts d i ≡ []
unfolding owned_below
below_none ts d i k e = rw e

-- a used slot whose first entry names domain x
module _ (t : Octets) (d : Domain) (i k : ℕ) (a : Asked t i) (z : k ≡ 0 → ⊥) (x : Domain) (e : x ≡ (entry_of t i 0).domain) where
  owner : (node_at (table_of t) i).owner.domain ≡ x
  owner = ap (λ (o : Entry). o.domain) (sym (owner_is t i a)) ∙ sym e

  more : k ≡ suc (k - 1)
  more = omega (arith, z)

  pub below-own : x ≡ d → owned_below k (table_of t) d i ≡ i ∷ []
  unfolding owned_below
  below-own h = ap (λ (m : ℕ). owned_below m (table_of t) d i) more ∙ rw (eq-eqb (node_at (table_of t) i).owner.domain d (owner ∙ h))

  pub below-others : (x ≡ d → ⊥) → (list : List ℕ) (n : ℕ) → Listed t i list n → owned_below k (table_of t) d i
      ≡ owned_among (k - 1) (table_of t) d (take n list)
  unfolding owned_below owned_among
  below-others h list n l =
      ap (λ (m : ℕ). owned_below m (table_of t) d i) more
      ∙ rw (ne_eqb (node_at (table_of t) i).owner.domain d (λ o. h (sym owner ∙ o))) (ap (flat_map (owned_below (k - 1) (table_of t) d)) (sym l.all))

-- ── the slots of a list, from place k on ──

module _ (m : ℕ) (ts : Table) (d : Domain) (list : List ℕ) (n k : ℕ) (long : n ≤ length list) where
  count_is : length (take n list) ≡ n
  count_is = Seq.length-take-le n list long

  pub among_over : n ≤ k → owned_among m ts d (drop k (take n list)) ≡ []
  unfolding owned_among flat_map
  among_over h = rw (drop_of_length-le (take n list) {i = k} (omega (arith, count_is)))

  pub among_next : k < n → owned_among m ts d (drop k (take n list)) ≡ owned_below m ts d (get_or list k 0) ++ owned_among m ts d (drop (k + 1) (take n list))
  unfolding owned_among flat_map
  among_next h =
      ap (flat_map (owned_below m ts d)) (Seq.drop-cons (take n list) k 0 (rw count_is h))
      ∙ ap₂ (λ (i j : ℕ). owned_below m ts d i ++ flat_map (owned_below m ts d) (drop j (take n list))) (Seq.get_or-take n list k 0 h) (sym (add-one k))

  pub among-length : k < n → length (owned_among m ts d (drop k (take n list)))
      ≡ length (owned_below m ts d (get_or list k 0)) + length (owned_among m ts d (drop (k + 1) (take n list)))
  among-length h = ap length (among_next h) ∙ length-append (owned_below m ts d (get_or list k 0)) (owned_among m ts d (drop (k + 1) (take n list)))

-- ── what is entered ──

pub entered_none : (list : List ℕ) (n : ℕ) (is : List ℕ) → is ≡ [] → Entered list n is list n
entered_none list n is e = record { count = rw e (omega arith); all = rw e (sym (append-nil (take n list))) }

pub entered_one : (list : List ℕ) (n i j : ℕ) (is : List ℕ) → n < length list → i ≡ j → is ≡ j ∷ [] → Entered list n is (set list n i) (n + 1)
entered_one list n i j is h e f =
    record { count = rw f (omega arith); all = rw (f, add-one n, ← e) (Seq.take-suc-set list n i h) }

-- the same list under another name
pub entered_as : (list : List ℕ) (n : ℕ) (xs is after : List ℕ) (r : ℕ) → is ≡ xs → Entered list n xs after r → Entered list n is after r
entered_as list n xs is after r e a = subst (λ (l : List ℕ). Entered list n l after r) (sym e) a

pub entered_join : (list : List ℕ) (n : ℕ) (xs middle : List ℕ) (r : ℕ) (ys after : List ℕ) (q : ℕ) (is : List ℕ) → Entered list n xs middle r →
    Entered middle r ys after q → is ≡ xs ++ ys → Entered list n is after q
entered_join list n xs middle r ys after q is a b e =
    record {
      count = omega (arith, a.count, b.count, ap length e ∙ length-append xs ys);
      all = b.all ∙ ap (λ (l : List ℕ). l ++ ys) a.all ∙ append_assoc (take n list) xs ys ∙ ap (λ (l : List ℕ). take n list ++ l) (sym e);
    }

-- ── the walk from the root ──

pub root-asked : (t : Octets) → sound_table t ≡ true → Asked t 0
root-asked t s = record { below = lit< tt; sound = s; used = root-used t s }

all_asked : (t : Octets) (is : List ℕ) → Each (Asked t) is → AllAsked t is
all_asked t [] e = tt
all_asked t (i ∷ is) e = (e.0, all_asked t is e.1)

module _ (t : Octets) (s : sound_table t ≡ true) (d : Domain) (positive : 1 ≤ d) where
  pub owned_room : length (owned_by (table_of t) d) < slots
  owned_room = rw (← length-table_of t) (owned_few (table_of t) (sound-slots t s) d positive)

  slot_is : (j : ℕ) → OwnedSlot (table_of t) d j → Asked t j
  slot_is j o = record { below = rw (← length-table_of t) (at_below (table_of t) j o.node o.used); sound = s; used = ap is_used o.used }

  pub owned_done : (before after : List ℕ) (r : ℕ) → length after ≡ slots → Entered before 0 (owned_by (table_of t) d) after r → Owned t d after r
  owned_done before after r long e =
      let is = owned_by (table_of t) d in
      let each = owned_slots (table_of t) (sound-slots t s) d positive in
      let count : r ≡ length is = omega (arith, e.count) in
      record {
        few = omega (arith, owned_room);
        all = e.all;
        asked = rw e.all (all_asked t is (each_map (OwnedSlot (table_of t) d) (Asked t) slot_is is each));
        not_root = λ k h.
            let at : get_or after k 0 ≡ get_or is k 0 = sym (Seq.get_or-take r after k 0 h) ∙ ap (λ (l : List ℕ). get_or l k 0) e.all in
            omega (arith, (each_at (OwnedSlot (table_of t) d) is k 0 each (omega arith)).not_root, at);
      }
