-- Looking up, slot by slot and name by name.
use mathlib.Core.Path.{◌≡◌, refl, sym, ap, ap₂, ◌∙◌}
use mathlib.Core.Bool.{true, false, true≢false}
use mathlib.Core.Option.{Option, none, some}
use mathlib.Core.List.{[], ◌∷◌}
use Prim.Native.Nat.{ℕ, ◌+◌, ◌-◌, ◌≤◌, ◌<◌}
use native.Mathlib.Numerals.{add-one}
use native.Mathlib.Decide.{dec_lt}
use native.Mathlib.Omega.{arith}
use lib.ListN.{length, get_or, take, drop, drop_of_length-le, length-drop}
use lib.Seq.{drop-cons, take_all}
use Rattle.rules.specs.Size.{slots}
use Rattle.rules.specs.Octets.{Octets, same}
use Rattle.rules.specs.Path.{Name, Names, split, is_name, all_names, is_full, names_in}
use Rattle.rules.specs.Node.{Node, Table, node_at, is_child, has_parent, child_from, child, Reached, reach, reach_from}
use Rattle.rules.specs.Layout.{table_of}
use Rattle.rules.proofs.Slots.{length-table_of}
use Rattle.rules.proofs.Places.{at_below}
use Rattle.rules.proofs.GoodTables.{child-some}
use Rattle.slots.specs.Left.{left_at}
use Rattle.slots.specs.Slot.{slot_at, is_used}
use Rattle.rules.proofs.Compare.{both_true}
use Rattle.rules.proofs.PathLaws.{no_empty_name, full-split, full-root, full_slash}
use Rattle.paths.proofs.PieceLaws.{last_name, next_name, split-first}
use Rattle.paths.specs.Names.{name_end, first_piece, other_pieces}
use Rattle.slots.proofs.Reading.{node-some}
use Rattle.slots.proofs.LeftLaws.{left_over, left_below}

-- ── one slot ──

pub other_parent : (p : ℕ) (n : Name) (x : Option Node) → has_parent p x ≡ false → is_child p n x ≡ false
unfolding is_child has_parent
other_parent p n none h = refl
other_parent p n (some m) h = rw h

pub same-parent : (ts : Table) (i p : ℕ) (n : Name) → has_parent p (get_or ts i none) ≡ true → is_child p n (get_or ts i none) ≡ same (node_at ts i).name n
unfolding is_child has_parent
same-parent ts i p n h = go (get_or ts i none) refl h
  where
    go : (x : Option Node) → get_or ts i none ≡ x → has_parent p x ≡ true → is_child p n x ≡ same (node_at ts i).name n
    go none e c = absurd (true≢false (sym c))
    go (some m) e c = rw c (ap (λ (x : Node). same x.name n) (sym (node-some ts i m e)))

-- ── slot after slot ──

pub child_here : (p : ℕ) (n : Name) (ts : Table) (i : ℕ) → i < length ts → is_child p n (get_or ts i none) ≡ true →
    child_from p n i (drop i ts) ≡ some i
unfolding child_from
child_here p n ts i h c = rw (drop-cons ts i none h, c)

pub child_further : (p : ℕ) (n : Name) (ts : Table) (i : ℕ) → i < length ts → is_child p n (get_or ts i none) ≡ false →
    child_from p n i (drop i ts) ≡ child_from p n (i + 1) (drop (i + 1) ts)
unfolding child_from
child_further p n ts i h c = rw (drop-cons ts i none h, c, add-one)

pub child_over : (p : ℕ) (n : Name) (ts : Table) (i : ℕ) → length ts ≤ i → child_from p n i (drop i ts) ≡ none
unfolding child_from
child_over p n ts i h = rw (drop_of_length-le ts h)

-- a child that is found stands in a used slot
pub found-used : (ts : Table) (p j : ℕ) (n : Name) → child ts p n ≡ some j → (is_used (get_or ts j none) ≡ true) × (j < length ts)
found-used ts p j n e =
    let c = child-some ts p n j e in
    (ap is_used c.used, at_below ts j c.node c.used)

-- ── name after name ──

step : Name → Names → Table → ℕ → Option ℕ → Reached
step n ns ts i o = elim o [ none ↦ record { slot = i; left = n ∷ ns } | some j ↦ reach_from ns ts j ]

reach_step : (n : Name) (ns : Names) (ts : Table) (i : ℕ) (o : Option ℕ) → child ts i n ≡ o → reach_from (n ∷ ns) ts i ≡ step n ns ts i o
unfolding reach_from step
reach_step n ns ts i o e = ap (step n ns ts i) e

pub reach-found : (n : Name) (ns : Names) (ts : Table) (i j : ℕ) → child ts i n ≡ some j → reach_from (n ∷ ns) ts i ≡ reach_from ns ts j
unfolding step
reach-found n ns ts i j e = reach_step n ns ts i (some j) e

pub reach_lost : (n : Name) (ns : Names) (ts : Table) (i : ℕ) → child ts i n ≡ none → reach_from (n ∷ ns) ts i ≡ record { slot = i; left = n ∷ ns }
unfolding step
reach_lost n ns ts i e = reach_step n ns ts i none e

pub reach-end : (ts : Table) (i : ℕ) → reach_from [] ts i ≡ record { slot = i; left = [] }
unfolding reach_from
reach-end ts i = refl

pub left-first : (p : Octets) (at : ℕ) → at < length p → left_at p at ≡ first_piece (drop at p) ∷ other_pieces (drop at p)
left-first p at h = left_below p at h ∙ split-first (drop at p)

-- a full path has no empty name behind a last slash
no_last : (x : Name) (s : Octets) (e : ℕ) → length s ≤ e → all_names (x ∷ split (drop e s)) ≡ true → ⊥
unfolding split all_names
no_last x s e h names =
    no_empty_name [] (both_true (is_name x) (all_names (split [])) (rw (drop_of_length-le s h) at names)).1

-- the first name that is left, and the rest
module _ (p : Octets) (at : ℕ) (h : at < length p) (names : all_names (left_at p at) ≡ true) where
  last_left : length p ≤ name_end p at → left_at p at ≡ take (name_end p at - at) (drop at p) ∷ left_at p (name_end p at + 1)
  last_left l =
      left_below p at h ∙ last_name p at (omega arith) l
      ∙ ap₂ ◌∷◌ (sym (take_all (name_end p at - at) (drop at p) (rw length-drop (omega arith)))) (sym (left_over p (name_end p at + 1) (omega arith)))

  more_left : name_end p at < length p → left_at p at ≡ take (name_end p at - at) (drop at p) ∷ left_at p (name_end p at + 1)
  more_left l =
      let e : left_at p at ≡ take (name_end p at - at) (drop at p) ∷ split (drop (name_end p at + 1) p) = left_below p at h ∙ next_name p at (omega arith) l in
      e ∙ ap (◌∷◌ (take (name_end p at - at) (drop at p)))
      (elim (dec_lt (name_end p at + 1) (length p)) [
        | yes b ↦ sym (left_below p (name_end p at + 1) b)
        | no b ↦ absurd (no_last (take (name_end p at - at) (drop at p)) p (name_end p at + 1) (omega arith) (rw e at names))
      ])

  pub left_next : left_at p at ≡ take (name_end p at - at) (drop at p) ∷ left_at p (name_end p at + 1)
  left_next = elim (dec_lt (name_end p at) (length p)) [ yes b ↦ more_left b | no b ↦ last_left (omega arith) ]

pub left-whole : (p : Octets) → is_full p ≡ true → names_in p ≡ left_at p 1
left-whole p f = elim (dec_lt 1 (length p)) [
  | yes b ↦ full-split p f (λ e. omega arith) ∙ sym (left_below p 1 b)
  | no b ↦ full-root p f (omega (arith, ap length (full_slash p f))) ∙ sym (left_over p 1 (omega arith))
]

-- ── a turn of the look-up ──

module _ (t p : Octets) (i at : ℕ) (h : at < length p) (names : all_names (left_at p at) ≡ true)
    (so_far : reach (table_of t) (names_in p) ≡ reach_from (left_at p at) (table_of t) i) (end : ℕ) (e : name_end p at ≡ end) where
  next : left_at p at ≡ take (end - at) (drop at p) ∷ left_at p (end + 1)
  next = left_next p at h names ∙ ap (λ (k : ℕ). take (k - at) (drop at p) ∷ left_at p (k + 1)) e

  -- the name is there: below it
  pub turned : (j : ℕ) → child (table_of t) i (take (end - at) (drop at p)) ≡ some j →
      (j < slots) × (is_used (slot_at t j) ≡ true) × (all_names (left_at p (end + 1)) ≡ true)
      × (reach (table_of t) (names_in p) ≡ reach_from (left_at p (end + 1)) (table_of t) j)
  unfolding all_names
  turned j c =
      let u = found-used (table_of t) i j (take (end - at) (drop at p)) c in (
        rw (length-table_of t) at u.1,
        u.0,
        (both_true (is_name (take (end - at) (drop at p))) (all_names (left_at p (end + 1))) (rw next at names)).1,
        so_far ∙ ap (λ (ns : Names). reach_from ns (table_of t) i) next ∙ reach-found (take (end - at) (drop at p)) (left_at p (end + 1)) (table_of t) i j c,
      )

  -- the name is missing: it and the rest are left
  pub stopped : child (table_of t) i (take (end - at) (drop at p)) ≡ none → reach (table_of t) (names_in p) ≡ record { slot = i; left = left_at p at }
  stopped c = so_far ∙ rw next (reach_lost (take (end - at) (drop at p)) (left_at p (end + 1)) (table_of t) i c)
