-- Tables that fit their fields: each decoded one does, and a node request's table does where the one before it did.
use mathlib.Core.Path.{◌≡◌, refl, ◌∙◌, ap}
use mathlib.Core.Bool.{Bool, true, false, cond, and-eq-true_iff}
use mathlib.Core.List.{List, [], ◌∷◌, map}
use mathlib.Core.Option.{Option, none, some, none-ne-some, some-injective}
use Prim.Native.Nat.{ℕ, zero, suc, ◌+◌, ◌-◌, ◌≤◌, ◌<◌}
use native.Mathlib.Nat.{mod-lt, le_of_suc-le-suc}
use native.Mathlib.Omega.{arith}
use lib.ListN.{length, get_or, take, set, replicate, length-take, length-set}
use lib.Dec.{eqb, leb, lit<}
use borrow.Author.Tests.{leb-true}
use Rattle.rules.specs.Size.{slots, longest_value, most_entries, deepest, longest_name}
use Rattle.rules.specs.Octets.{Octets, chunks, bits_at, field}
use Rattle.rules.specs.Entries.{lowest, free_count}
use Rattle.rules.specs.Path.{Domain, Name, Names, is_control, short_names, fits}
use Rattle.rules.specs.Node.{Entry, Node, Table, Reached, root, fresh_table, node_at, is_child, child_from, child, reach_from, reach, heir, new_node}
use Rattle.rules.specs.Node.{last_value, made, with_value, with_entries, within, cleared_from, removed, without_all}
use Rattle.rules.specs.Rights.{may_write}
use Rattle.rules.specs.Payload.{Ask, directory, read, get_perms, write, mkdir, rm, set_perms}
use Rattle.rules.specs.Answer.{Answer, unchanged, changed, looked, sized, stocked, room, created, written, directory_made, taken, may_set}
use Rattle.rules.specs.Answer.{permitted, answered, answer}
use Rattle.rules.specs.Layout.{text_at, entry_at, node_of, slot_of, table_of}
use Rattle.rules.proofs.Cases.{cond_case, cond-known}
use Rattle.rules.proofs.Tables.{Each, each_set}
use Rattle.rules.proofs.Slots.{EntryFits, NodeFits, SlotFits, TableFits, length-table_of}

-- a table of 128 slots whose nodes fit their fields
pub record Fitting (t : Table) : Type 0 where
  pub all : TableFits t
  pub long : length t ≡ slots

-- ── decoded tables ──

entry-fits : (n k : ℕ) → EntryFits (entry_at n k)
unfolding entry_at bits_at
entry-fits n k = record { access = mod-lt _ (omega arith); domain = mod-lt _ (omega arith) }

pub take_each : {A : Type 0} (P : A → Type 0) (n : ℕ) (xs : List A) → Each P xs → Each P (take n xs)
take_each P zero xs e = tt
take_each P (suc n) [] e = tt
take_each P (suc n) (x ∷ xs) e = (e.0, take_each P n xs e.1)

node-fits : (s : Octets) (head es : ℕ) → NodeFits (node_of s head es)
unfolding node_of text_at bits_at
node-fits s head es =
    record {
      parent = mod-lt _ (omega arith);
      name = simp length-take (omega arith);
      value = simp length-take (omega arith);
      owner = entry-fits es 3;
      few = simp length-take (omega arith);
      others = take_each EntryFits (bits_at head 0 3 - 1) (entry_at es 2 ∷ entry_at es 1 ∷ entry_at es 0 ∷ [])
          (entry-fits es 2, (entry-fits es 1, (entry-fits es 0, tt)));
    }

slot-fits : (s : Octets) → SlotFits (slot_of s)
unfolding slot_of
slot-fits s = cond_case SlotFits (eqb (bits_at (field s 0 3) 23 1) 1) _ _ (node-fits s (field s 0 3) (field s 3 9)) tt

pub decoded_fits : (s : Octets) → Fitting (table_of s)
unfolding table_of
decoded_fits s = record { all = go (chunks slots _ s); long = length-table_of s }
  where
    go : (rows : List Octets) → TableFits (map slot_of rows)
    go [] = tt
    go (r ∷ rows) = (slot-fits r, go rows)

-- ── a slot's node ──

root-fits : NodeFits root
unfolding root
root-fits = record {
  parent = omega arith;
  name = omega arith;
  value = omega arith;
  owner = record { access = omega arith; domain = omega arith };
  few = omega arith;
  others = tt;
}

pub fresh_fits : Fitting fresh_table
unfolding fresh_table
fresh_fits = record { all = (root-fits, none_fit 127); long = refl }
  where
    none_fit : (n : ℕ) → TableFits (replicate n none)
    none_fit zero = tt
    none_fit (suc n) = (tt, none_fit n)

pub slot_at-fits : (t : Table) (i : ℕ) → TableFits t → SlotFits (get_or t i none)
slot_at-fits [] i f = tt
slot_at-fits (s ∷ t) zero f = f.0
slot_at-fits (s ∷ t) (suc i) f = slot_at-fits t i f.1

pub node_at-fits : (t : Table) (i : ℕ) → TableFits t → NodeFits (node_at t i)
unfolding node_at
node_at-fits t i f = go (get_or t i none) (slot_at-fits t i f)
  where
    go : (m : Option Node) → SlotFits m → NodeFits (elim m [ none ↦ root | some n ↦ n ])
    go none g = root-fits
    go (some n) g = g

-- ── where a path leads ──

child-below : (p : ℕ) (n : Name) (i : ℕ) (t : Table) (j : ℕ) → child_from p n i t ≡ some j → j < i + length t
unfolding child_from
child-below p n i [] j e = absurd (none-ne-some j e)
child-below p n i (s ∷ t) j e = go (child-below p n (suc i) t j) (is_child p n s) e
  where
    go : (child_from p n (suc i) t ≡ some j → j < suc i + length t) → (b : Bool) → cond b (some i) (child_from p n (suc i) t) ≡ some j → j < i + suc (length t)
    go further true q = omega (arith, some-injective i j q)
    go further false q = omega (arith, further q)

pub reach-below : (ns : Names) (t : Table) (i : ℕ) → i < length t → (reach_from ns t i).slot < length t
unfolding reach_from child
reach-below [] t i h = h
reach-below (n ∷ ns) t i h = go (reach-below ns t) (child_from i n 0 t) refl
  where
    go : ((j : ℕ) → j < length t → (reach_from ns t j).slot < length t) → (m : Option ℕ) → child_from i n 0 t ≡ m
        → (elim m as (λ m. Reached) [ none ↦ record { slot = i; left = n ∷ ns } | some j ↦ reach_from ns t j ]).slot < length t
    go further none e = h
    go further (some j) e = further j (omega (arith, child-below i n 0 t j e))

-- the names that are left are among the path's
pub short-left : (ns : Names) (t : Table) (i : ℕ) → short_names ns ≡ true → short_names (reach_from ns t i).left ≡ true
unfolding reach_from child short_names
short-left [] t i h = refl
short-left (n ∷ ns) t i h = go (λ j. short-left ns t j ((and-eq-true_iff (leb (length n) longest_name) (short_names ns)).0 h).1) (child_from i n 0 t)
  where
    go : ((j : ℕ) → short_names (reach_from ns t j).left ≡ true) → (m : Option ℕ)
        → short_names (elim m as (λ m. Reached) [ none ↦ record { slot = i; left = n ∷ ns } | some j ↦ reach_from ns t j ]).left ≡ true
    go further none = h
    go further (some j) = further j

-- ── free slots ──

pub lowest-below : {A : Type 0} (xs : List (Option A)) → 0 < free_count xs → lowest xs < length xs
unfolding lowest free_count
lowest-below [] h = h
lowest-below (none ∷ xs) h = omega arith
lowest-below (some x ∷ xs) h = omega (arith, lowest-below xs h)

pub free_fewer : {A : Type 0} (xs : List (Option A)) (a : A) → 0 < free_count xs → suc (free_count (set xs (lowest xs) (some a))) ≡ free_count xs
unfolding lowest free_count
free_fewer [] a h = absurd (omega arith)
free_fewer (none ∷ xs) a h = refl
free_fewer (some x ∷ xs) a h = free_fewer xs a h

-- ── written slots ──

set-fitting : (t : Table) (i : ℕ) (x : Option Node) → Fitting t → SlotFits x → Fitting (set t i x)
set-fitting t i x f g = record { all = each_set SlotFits t i x f.all g; long = length-set t i x ∙ f.long }

pub heir-fits : (d : Domain) (e : Entry) → d < 65536 → EntryFits e → EntryFits (heir d e)
unfolding heir
heir-fits d e h f = cond_case EntryFits (is_control d) _ _ f (record { access = f.access; domain = h })

new_fits : (d : Domain) (t : Table) (p : ℕ) (n : Name) (v : Octets) → d < 65536 → TableFits t → p < 128 → length n ≤ 32 → length v ≤ 64 →
    NodeFits (new_node d t p n v)
unfolding new_node
new_fits d t p n v h f hp hn hv =
    let u = node_at-fits t p f in
    record { parent = hp; name = hn; value = hv; owner = heir-fits d _ h u.owner; few = u.few; others = u.others }

last_short : (ns : Names) (v : Octets) → length v ≤ 64 → length (last_value ns v) ≤ 64
unfolding last_value
last_short [] v h = h
last_short (n ∷ ns) v h = omega arith

pub made-fits : (ns : Names) (p : ℕ) (d : Domain) (v : Octets) (t : Table) → d < 65536 → length v ≤ 64 → p < 128
    → short_names ns ≡ true → length ns ≤ free_count t → Fitting t → Fitting (made ns p d v t)
unfolding made short_names
made-fits [] p d v t hd hv hp hs hf f = f
made-fits (n ∷ ns) p d v t hd hv hp hs hf f =
    let s = (and-eq-true_iff (leb (length n) longest_name) (short_names ns)).0 hs in
    let free : 0 < free_count t = omega arith in
    let n' = new_node d t p n (last_value ns v) in
    made-fits ns (lowest t) d v (set t (lowest t) (some n')) hd hv
    (omega (arith, lowest-below t free, f.long))
    s.1
    (omega (arith, free_fewer t n' free))
    (set-fitting t (lowest t) (some n') f (new_fits d t p n (last_value ns v) hd f.all hp (leb-true _ _ s.0) (last_short ns v hv)))

value-fits : (t : Table) (i : ℕ) (v : Octets) → length v ≤ 64 → Fitting t → Fitting (with_value t i v)
unfolding with_value
value-fits t i v h f =
    let u = node_at-fits t i f.all in
    set-fitting t i _ f (record { parent = u.parent; name = u.name; value = h; owner = u.owner; few = u.few; others = u.others })

entries_fit : (t : Table) (i : ℕ) (o : Entry) (es : List Entry) → EntryFits o → Each EntryFits es → length es ≤ 3 → Fitting t → Fitting (with_entries t i o es)
unfolding with_entries
entries_fit t i o es ho he h f =
    let u = node_at-fits t i f.all in
    set-fitting t i _ f (record { parent = u.parent; name = u.name; value = u.value; owner = ho; few = h; others = he })

-- ── removed slots ──

pub cleared_fits : (t : Table) (i j : ℕ) (ss : Table) → TableFits ss → TableFits (cleared_from t i j ss)
unfolding cleared_from
cleared_fits t i j [] f = tt
cleared_fits t i j (s ∷ ss) f = (cond_case SlotFits (within deepest t i j) none s tt f.0, cleared_fits t i (suc j) ss f.1)

pub length_cleared : (t : Table) (i j : ℕ) (ss : Table) → length (cleared_from t i j ss) ≡ length ss
unfolding cleared_from
length_cleared t i j [] = refl
length_cleared t i j (s ∷ ss) = ap suc (length_cleared t i (suc j) ss)

pub removed-fits : (t : Table) (i : ℕ) → Fitting t → Fitting (removed t i)
unfolding removed
removed-fits t i f = record { all = cleared_fits t i 0 t f.all; long = length_cleared t i 0 t ∙ f.long }

pub without_all-fits : (is : List ℕ) (t : Table) → Fitting t → Fitting (without_all t is)
unfolding without_all
without_all-fits [] t f = f
without_all-fits (i ∷ is) t f = without_all-fits is (removed t i) (removed-fits t i f)

-- ── answers ──

-- a request whose entries fit their fields
abbrev pub AskFits : Ask → Type 0
AskFits directory = Unit {0}
AskFits read = Unit {0}
AskFits get_perms = Unit {0}
AskFits (write v) = Unit {0}
AskFits mkdir = Unit {0}
AskFits rm = Unit {0}
AskFits (set_perms o es) = EntryFits o × Each EntryFits es

-- what can be made passes no size and has its free slots
pub roomy : (d : Domain) (ns : Names) (t : Table) (left : Names) (v : Octets) → room d ns t left v ≡ true
    → (length v ≤ longest_value) × (fits ns ≡ true) × (length left ≤ free_count t)
unfolding room sized stocked
roomy d ns t left v h =
    let s = (and-eq-true_iff (sized d ns t v) (stocked d ns t left)).0 h in
    let u = (and-eq-true_iff (leb (length v) longest_value) (fits ns)).0 s.0 in
    (leb-true _ _ u.0, u.1, leb-true _ _ s.1)

module _ (d : Domain) (ns : Names) (t : Table) (hd : d < 65536) (f : Fitting t) where
  -- an answer whose table fits
  abbrev Fine : Answer → Type 0
  Fine a = Fitting a.table

  created-fits : (v : Octets) → Fine (created d ns t (reach t ns) v)
  unfolding created changed unchanged reach fits
  created-fits v =
      cond_case Fine (may_write d (node_at t (reach t ns).slot)) _ _
      (cond-known Fine (room d ns t (reach t ns).left v) _ _ (λ h.
      let s = roomy d ns t (reach t ns).left v h in
      made-fits (reach t ns).left (reach t ns).slot d v t hd s.0 (rw f.long at (reach-below ns t 0 (rw f.long (lit< tt))))
      (short-left ns t 0 ((and-eq-true_iff (leb (length ns) deepest) (short_names ns)).0 s.1).1) s.2 f) (λ h. f))
      f

  answered-fits : (a : Ask) → AskFits a → (l : Names) (i : ℕ) → record { slot = i; left = l } ≡ reach t ns →
      Fine (answered d ns t a (record { slot = i; left = l }))
  unfolding answered looked written directory_made taken permitted unchanged changed
  answered-fits directory h [] i e = f
  answered-fits directory h (n ∷ l) i e = f
  answered-fits read h [] i e = f
  answered-fits read h (n ∷ l) i e = f
  answered-fits get_perms h [] i e = f
  answered-fits get_perms h (n ∷ l) i e = f
  answered-fits (write v) h [] i e =
      cond_case Fine (may_write d (node_at t i)) _ _
      (cond-known Fine (leb (length v) longest_value) _ _ (λ p. value-fits t i v (leb-true _ _ p) f) (λ p. f))
      f
  answered-fits (write v) h (n ∷ l) i e = rw e (created-fits v)
  answered-fits mkdir h [] i e = f
  answered-fits mkdir h (n ∷ l) i e = rw e (created-fits [])
  answered-fits rm h [] i e = cond_case Fine (may_write d (node_at t i)) _ _ (removed-fits t i f) f
  answered-fits rm h (n ∷ l) i e = f
  answered-fits (set_perms o es) h [] i e =
      cond_case Fine (may_set d ns t (node_at t i) o) _ _
      (cond-known Fine (leb (suc (length es)) most_entries) _ _ (λ p. entries_fit t i o es h.0 h.1 (le_of_suc-le-suc (leb-true _ _ p)) f) (λ p. f))
      f
  answered-fits (set_perms o es) h (n ∷ l) i e = f

-- a node request's table fits where the one before it did
pub answer-fits : (d : Domain) (a : Ask) (ns : Names) (t : Table) → d < 65536 → AskFits a → Fitting t → Fitting (answer d a ns t).table
unfolding answer
answer-fits d a ns t hd ha f = answered-fits d ns t hd f a ha (reach t ns).left (reach t ns).slot refl
