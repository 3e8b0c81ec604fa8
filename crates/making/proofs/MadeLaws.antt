-- The names of a path made one after the other.
use mathlib.Core.Path.{◌≡◌, sym, ap, ap₂, ◌∙◌}
use mathlib.Core.Bool.{true}
use mathlib.Core.List.{[], ◌∷◌}
use mathlib.Core.Option.{none, some}
use Prim.Native.Nat.{ℕ, ◌+◌, ◌-◌, ◌≤◌, ◌<◌}
use native.Mathlib.Omega.{arith}
use lib.ListN.{length, get_or, take, drop, set, length-drop}
use lib.Seq.{get_or-set_same, take_all}
use lib.Dec.{leb}
use borrow.Author.Tests.{le-leb, leb-true}
use Rattle.rules.specs.Size.{slots, longest_name, longest_value}
use Rattle.rules.specs.Octets.{Octets}
use Rattle.rules.specs.Entries.{lowest, free_count}
use Rattle.rules.specs.Path.{Name, Names, split, short_names}
use Rattle.rules.specs.Node.{Table, new_node, last_value, made}
use Rattle.rules.specs.Layout.{table_of, table_bytes}
use Rattle.rules.proofs.Compare.{both_true}
use Rattle.rules.proofs.Fitting.{Fitting, decoded_fits, lowest-below, free_fewer, made-fits}
use Rattle.paths.specs.Names.{name_end}
use Rattle.paths.proofs.PieceLaws.{split-first, last_name, next_name}
use Rattle.slots.specs.Slot.{Canonical, slot_at, is_used}
use Rattle.slots.specs.Left.{left_at}
use Rattle.slots.proofs.Put.{written}
use Rattle.slots.proofs.LeftLaws.{left_over, left_below}

-- names from a place of the path on are still to be made below slot p, and then the table is the whole
pub record ToMake (path value : Octets) (domain : ℕ) (whole : Table) (p from : ℕ) (t : Octets) : Type 0 where
  pub canonical : Canonical t
  pub slot : p < slots
  pub used : is_used (slot_at t p) ≡ true
  pub inside : from ≤ length path
  pub short : short_names (split (drop from path)) ≡ true
  pub room : length (split (drop from path)) ≤ free_count (table_of t)
  pub rest : whole ≡ made (split (drop from path)) p domain value (table_of t)

-- ── where it begins ──

pub made_none : (path v t : Octets) (d p at : ℕ) → Canonical t → length path ≤ at → t ≡ table_bytes (made (left_at path at) p d v (table_of t))
unfolding made
made_none path v t d p at k h = sym (ap (λ (ns : Names). table_bytes (made ns p d v (table_of t))) (left_over path at h) ∙ k.kept)

pub to_make : (path v t : Octets) (d p at : ℕ) → at < length path → Canonical t → p < slots → is_used (slot_at t p) ≡ true →
    short_names (left_at path at) ≡ true → length (left_at path at) ≤ free_count (table_of t) →
    ToMake path v d (made (left_at path at) p d v (table_of t)) p at t
to_make path v t d p at h k hp u hs hf =
    let e = left_below path at h in
    record {
      canonical = k;
      slot = hp;
      used = u;
      inside = omega arith;
      short = rw e at hs;
      room = rw e at hf;
      rest = ap (λ (ns : Names). made ns p d v (table_of t)) e;
    }

-- ── one name ──

first_short : (n : Name) (ns : Names) → short_names (n ∷ ns) ≡ true → (length n ≤ longest_name) × (short_names ns ≡ true)
unfolding short_names
first_short n ns h =
    let b = both_true (leb (length n) longest_name) (short_names ns) h in
    (leb-true (length n) longest_name b.0, b.1)

-- a text has a piece, so the value is not due before it
last_later : (s v : Octets) → last_value (split s) v ≡ []
unfolding last_value
last_later s v = rw (split-first s)

-- a node in the lowest free slot
one_fits : (ts : Table) (p d : ℕ) (n v : Octets) → Fitting ts → p < slots → length n ≤ longest_name → length v ≤ longest_value → d < 65536 → 1 ≤ free_count ts →
    Fitting (set ts (lowest ts) (some (new_node d ts p n v)))
unfolding made last_value short_names
one_fits ts p d n v f hp hn hv hd hf = made-fits (n ∷ []) p d v ts hd hv hp (rw (le-leb (length n) longest_name hn)) hf f

module _ (path v : Octets) (d : ℕ) (whole : Table) (p from : ℕ) (t : Octets) (s : ToMake path v d whole p from t) (hd : d < 65536) where
  abbrev T : Table
  T = table_of t

  pub lowest_in : 1 ≤ free_count (table_of t) → lowest (table_of t) < slots
  lowest_in h = omega (arith, lowest-below (table_of t) h, (decoded_fits t).long)

  pub free_one : 1 ≤ free_count (table_of t)
  free_one = let r = s.room in omega (arith, ap length (split-first (drop from path)))

  -- the last name
  abbrev last : Octets
  last = take (length path - from) (drop from path)

  pieces_last : length path ≤ name_end path from → split (drop from path) ≡ last ∷ []
  pieces_last h =
      last_name path from s.inside h
      ∙ ap (λ (n : Octets). n ∷ []) (sym (take_all (length path - from) (drop from path) (rw length-drop (omega arith))))

  pub last_short : length path ≤ name_end path from → length (take (length path - from) (drop from path)) ≤ longest_name
  last_short h = (first_short last [] (rw (pieces_last h) at s.short)).0

  pub made_last : {r : ℕ} {y : Octets} → length path ≤ name_end path from → r ≡ lowest (table_of t) →
      y ≡ table_bytes (set (table_of t) r (some (new_node d (table_of t) p (take (length path - from) (drop from path)) v))) → y ≡ table_bytes whole
  unfolding made last_value
  made_last h hr e =
      e
      ∙ ap table_bytes
      (ap (λ (i : ℕ). set T i (some (new_node d T p last v))) hr
      ∙ sym (s.rest ∙ ap (λ (ns : Names). made ns p d v T) (pieces_last h)))

  -- a name with more after it
  module _ (e : ℕ) (he : e ≡ name_end path from) (h : e < length path) where
    abbrev name : Octets
    name = take (e - from) (drop from path)

    abbrev others : Names
    others = split (drop (e + 1) path)

    pieces : split (drop from path) ≡ name ∷ others
    pieces =
        let b : name_end path from < length path = omega arith in
        next_name path from s.inside b ∙ (λ j. take (sym he j - from) (drop from path) ∷ split (drop (sym he j + 1) path))

    pub next_short : length (take (e - from) (drop from path)) ≤ longest_name
    next_short = (first_short name others (rw pieces at s.short)).0

    pub made_next : {r : ℕ} {y : Octets} → r ≡ lowest (table_of t) →
        y ≡ table_bytes (set (table_of t) r (some (new_node d (table_of t) p (take (e - from) (drop from path)) []))) →
        ToMake path v d whole r (e + 1) y
    unfolding made
    made_next {r} {y} hr q =
        let n = new_node d T p name [] in
        let next = set T (lowest T) (some n) in
        let g = one_fits T p d name [] (decoded_fits t) s.slot next_short (omega arith) hd free_one in
        let bytes : y ≡ table_bytes next = q ∙ ap (λ (i : ℕ). table_bytes (set T i (some n))) hr in
        let out = written next g bytes in
        let table : table_of y ≡ next = out.1 in
        let low = lowest_in free_one in
        let fewer = free_fewer T n free_one in
        let room : length (name ∷ others) ≤ free_count T = rw pieces at s.room in
        let some-there : get_or next (lowest T) none ≡ some n = get_or-set_same T (lowest T) (some n) none (rw (decoded_fits t).long low) in
        record {
          canonical = out.0;
          slot = rw hr low;
          used = rw (table, hr) (ap is_used some-there);
          inside = omega arith;
          short = (first_short name others (rw pieces at s.short)).1;
          room = rw table (omega arith);
          rest = s.rest
              ∙ ap (λ (ns : Names). made ns p d v T) pieces
              ∙ ap (λ (w : Octets). made others (lowest T) d v (set T (lowest T) (some (new_node d T p name w)))) (last_later (drop (e + 1) path) v)
              ∙ ap₂ (λ (i : ℕ) (ts : Table). made others i d v ts) (sym hr) (sym table);
        }
