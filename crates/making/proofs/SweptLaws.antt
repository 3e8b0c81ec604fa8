-- Marked slots freed one after the other.
use mathlib.Core.Path.{◌≡◌, refl, sym, ap, ap₂, ◌∙◌}
use mathlib.Core.Bool.{Bool, true, false, cond}
use mathlib.Core.List.{List, [], ◌∷◌}
use mathlib.Core.Option.{none}
use Prim.Native.Nat.{ℕ, zero, suc, ◌+◌, ◌≤◌, ◌<◌}
use native.Mathlib.Nat.{add-zero, zero-add, add-suc, suc-add}
use native.Mathlib.Numerals.{add-one}
use native.Mathlib.Omega.{arith}
use lib.ListN.{length, get_or, take, drop, set, drop_of_length-le}
use lib.Seq.{drop-cons, take_all}
use Rattle.rules.specs.Size.{deepest}
use Rattle.rules.specs.Octets.{Octets}
use Rattle.rules.specs.Node.{Table, within, cleared_from, removed, without_all}
use Rattle.rules.specs.Layout.{table_of, table_bytes}
use Rattle.rules.proofs.Cases.{cond_case}
use Rattle.rules.proofs.Slots.{SlotFits, TableFits}
use Rattle.rules.proofs.Fitting.{Fitting, decoded_fits, removed-fits}
use Rattle.slots.specs.Slot.{Canonical}
use Rattle.slots.proofs.Put.{written}
use Rattle.making.specs.Marks.{Marked, swept}

-- ── one mark more ──

swept-marked : (ms : List Bool) (t : Table) (j : ℕ) → j < length ms → get_or ms j false ≡ true → swept (take (suc j) ms) t ≡ set (swept (take j ms) t) j none
unfolding swept
swept-marked [] t j h e = absurd (omega arith)
swept-marked (m ∷ ms) [] zero h e = refl
swept-marked (m ∷ ms) [] (suc j) h e = refl
swept-marked (m ∷ ms) (s ∷ t) zero h e = rw e
swept-marked (m ∷ ms) (s ∷ t) (suc j) h e = ap (◌∷◌ (cond m none s)) (swept-marked ms t j (omega arith) e)

swept_other : (ms : List Bool) (t : Table) (j : ℕ) → j < length ms → get_or ms j false ≡ false → swept (take (suc j) ms) t ≡ swept (take j ms) t
unfolding swept
swept_other [] t j h e = absurd (omega arith)
swept_other (m ∷ ms) [] zero h e = refl
swept_other (m ∷ ms) [] (suc j) h e = refl
swept_other (m ∷ ms) (s ∷ t) zero h e = rw e
swept_other (m ∷ ms) (s ∷ t) (suc j) h e = ap (◌∷◌ (cond m none s)) (swept_other ms t j (omega arith) e)

swept_each : (ms : List Bool) (t : Table) → TableFits t → TableFits (swept ms t)
unfolding swept
swept_each [] t f = f
swept_each (m ∷ ms) [] f = tt
swept_each (m ∷ ms) (s ∷ t) f = (cond_case SlotFits m none s tt f.0, swept_each ms t f.1)

length-swept : (ms : List Bool) (t : Table) → length (swept ms t) ≡ length t
unfolding swept
length-swept [] t = refl
length-swept (m ∷ ms) [] = refl
length-swept (m ∷ ms) (s ∷ t) = ap suc (length-swept ms t)

swept-fits : (ms : List Bool) (t : Table) → Fitting t → Fitting (swept ms t)
swept-fits ms t f = record { all = swept_each ms t f.all; long = length-swept ms t ∙ f.long }

-- ── slot by slot ──

module _ (ms : List Bool) (s : Octets) where
  pub swept_canonical : (j : ℕ) {y : Octets} → y ≡ table_bytes (swept (take j ms) (table_of s)) → Canonical y × (table_of y ≡ swept (take j ms) (table_of s))
  swept_canonical j e = written (swept (take j ms) (table_of s)) (swept-fits (take j ms) (table_of s) (decoded_fits s)) e

  pub swept_none : Canonical s → s ≡ table_bytes (swept (take 0 ms) (table_of s))
  unfolding swept
  swept_none k = sym k.kept

  pub swept_here : (j : ℕ) {x y : Octets} → j < length ms → get_or ms j false ≡ true → x ≡ table_bytes (swept (take j ms) (table_of s)) →
      y ≡ table_bytes (set (table_of x) j none) → y ≡ table_bytes (swept (take (j + 1) ms) (table_of s))
  swept_here j h m e f =
      f
      ∙ ap (λ (t : Table). table_bytes (set t j none)) (swept_canonical j e).1
      ∙ ap table_bytes (sym (swept-marked ms (table_of s) j h m))
      ∙ ap (λ (n : ℕ). table_bytes (swept (take n ms) (table_of s))) (sym (add-one j))

  pub swept_further : (j : ℕ) {x : Octets} → j < length ms → get_or ms j false ≡ false → x ≡ table_bytes (swept (take j ms) (table_of s)) →
      x ≡ table_bytes (swept (take (j + 1) ms) (table_of s))
  swept_further j h m e =
      e
      ∙ ap table_bytes (sym (swept_other ms (table_of s) j h m))
      ∙ ap (λ (n : ℕ). table_bytes (swept (take n ms) (table_of s))) (sym (add-one j))

  pub swept_all : (j : ℕ) {x : Octets} → length ms ≤ j → x ≡ table_bytes (swept (take j ms) (table_of s)) → x ≡ table_bytes (swept ms (table_of s))
  swept_all j h e = e ∙ ap (λ (l : List Bool). table_bytes (swept l (table_of s))) (take_all j ms h)

-- ── the marks of a slot ──

cleared_swept : (t : Table) (i from : ℕ) (ms : List Bool) (ss : Table) → length ms ≡ length ss →
    ((j : ℕ) → j < length ss → get_or ms j false ≡ within deepest t i (from + j)) → swept ms ss ≡ cleared_from t i from ss
unfolding swept cleared_from
cleared_swept t i from [] [] l r = refl
cleared_swept t i from [] (s ∷ ss) l r = absurd (omega arith)
cleared_swept t i from (m ∷ ms) [] l r = refl
cleared_swept t i from (m ∷ ms) (s ∷ ss) l r =
    ap₂ (λ (b : Bool) (rest : Table). cond b none s ∷ rest) (r 0 (omega arith) ∙ ap (within deepest t i) (add-zero from))
    (cleared_swept t i (suc from) ms ss (omega arith) (λ j h. r (suc j) (omega arith) ∙ ap (within deepest t i) (add-suc from j ∙ sym (suc-add from j))))

pub swept-removed : (s : Octets) (i : ℕ) (ms : List Bool) {y : Octets} → Marked ms (table_of s) i → y ≡ table_bytes (swept ms (table_of s)) →
    y ≡ table_bytes (removed (table_of s) i)
unfolding removed
swept-removed s i ms m e =
    let t = table_of s in
    let f = (decoded_fits s).long in
    e ∙ ap table_bytes (cleared_swept t i 0 ms t (m.long ∙ sym f) (λ j h. m.right j (omega arith) ∙ ap (within deepest t i) (sym (zero-add j))))

-- ── several slots ──

-- slots from a place of the list on are still to be removed, and then the table is the whole
pub record ToRemove (is : List ℕ) (whole : Table) (k : ℕ) (t : Octets) : Type 0 where
  pub canonical : Canonical t
  pub rest : whole ≡ without_all (table_of t) (drop k is)

pub to_remove : (is : List ℕ) (t : Octets) → Canonical t → ToRemove is (without_all (table_of t) is) 0 t
to_remove is t c = record { canonical = c; rest = refl }

pub removed_next : (is : List ℕ) (whole : Table) (k : ℕ) (t : Octets) → ToRemove is whole k t → k < length is → {y : Octets} →
    y ≡ table_bytes (removed (table_of t) (get_or is k 0)) → ToRemove is whole (k + 1) y
unfolding without_all
removed_next is whole k t r h e =
    let q = written (removed (table_of t) (get_or is k 0)) (removed-fits (table_of t) (get_or is k 0) (decoded_fits t)) e in
    record {
      canonical = q.0;
      rest = r.rest
          ∙ ap (without_all (table_of t)) (drop-cons is k 0 h)
          ∙ ap₂ (λ (ts : Table) (n : ℕ). without_all ts (drop n is)) (sym q.1) (sym (add-one k));
    }

pub removed-all : (is : List ℕ) (whole : Table) (k : ℕ) (t : Octets) → ToRemove is whole k t → length is ≤ k → t ≡ table_bytes whole
unfolding without_all
removed-all is whole k t r h = sym (ap table_bytes (r.rest ∙ ap (without_all (table_of t)) (drop_of_length-le is h)) ∙ r.canonical.kept)
