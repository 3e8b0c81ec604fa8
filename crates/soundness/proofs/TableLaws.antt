-- The whole check, part by part.
use mathlib.Core.Path.{◌≡◌, refl, sym, ap, ◌∙◌}
use mathlib.Core.Bool.{Bool, true, false, false≢true, cond, not, ◌&&◌, and-true, and_assoc}
use mathlib.Core.List.{List, ◌∷◌}
use mathlib.Core.Option.{Option, none, some}
use Prim.Native.Nat.{ℕ, zero, suc, ◌+◌, ◌*◌, ◌-◌, ◌≤◌, ◌<◌}
use native.Mathlib.Nat.{zero-add}
use native.Mathlib.Numerals.{add-one}
use native.Mathlib.Omega.{arith}
use native.Mathlib.Decide.{ℕ_discrete}
use lib.ListN.{length, get_or, take, drop, set, replicate, length-set, length-replicate}
use lib.Seq.{get_or-set_same, get_or-set_other}
use lib.Dec.{eqb}
use borrow.Author.Tests.{eq-eqb, ne_eqb}
use Rattle.std.specs.Prelude.{Some, None}
use Rattle.std.specs.Prelude as std
use Rattle.rules.specs.Size.{slots, slot_size, table_size, deepest, longest_name}
use Rattle.rules.specs.Octets.{Octets, same}
use Rattle.rules.specs.Domain.{is_control}
use Rattle.rules.specs.Node.{Entry, Node, Table, node_at}
use Rattle.rules.specs.Layout.{slot_bytes, table_bytes, table_of}
use Rattle.rules.specs.Sound.{good_name, good_entries, reaches_root, good_node, good_nodes, good_root, distinct, good_table, sound_table}
use Rattle.rules.proofs.Compare.{both_true, same_eq, eq_same}
use Rattle.rules.proofs.Slots.{length-table_of}
use Rattle.rules.proofs.Reencoding.{both_ways, slots_kept, kept_slot}
use Rattle.rules.proofs.GoodTables.{node_at_lem, at_node}
use Rattle.octets.specs.Read.{Bytes}
use Rattle.slots.specs.Slot.{slot_at, is_used, name_length, entry_of}
use Rattle.slots.proofs.Reading.{node-some}
use Rattle.slots.proofs.Canonical.{entry_is, used-some}
use Rattle.soundness.specs.declared.answer.Way.{Way}
use Rattle.soundness.specs.Parts.{fair, good_slot, sized, every, Used}
use Rattle.soundness.specs.Walks.{Short, Walked, Level, Lent, chained}
use Rattle.soundness.proofs.Tests.{both}
use Rattle.soundness.proofs.SlotLaws.{unsized, sizes_of}
use Rattle.soundness.proofs.WalkLaws.{lost_case, root_case, steps_bound, none-known, way}

-- ── every slot ──

pub every_further : (p : ℕ → Bool) (k i : ℕ) → i < k → p i ≡ true → every p (k - i) i ≡ every p (k - (i + 1)) (i + 1)
unfolding every
every_further p k i h e =
    let j : k - i ≡ suc (k - (i + 1)) = omega arith in
    ap (λ (m : ℕ). every p m i) j ∙ rw (e, add-one i) refl

pub every_stop : (p : ℕ → Bool) (k i : ℕ) → i < k → p i ≡ false → false ≡ every p (k - i) i
unfolding every
every_stop p k i h e =
    let j : k - i ≡ suc (k - (i + 1)) = omega arith in
    sym (ap (λ (m : ℕ). every p m i) j ∙ rw e refl)

pub every-ended : (p : ℕ → Bool) (k i : ℕ) → k ≤ i → true ≡ every p (k - i) i
unfolding every
every-ended p k i h =
    let j : k - i ≡ 0 = omega arith in
    sym (ap (λ (m : ℕ). every p m i) j)

every_at : (p : ℕ → Bool) (k i j : ℕ) → every p k i ≡ true → i ≤ j → j < i + k → p j ≡ true
unfolding every
every_at p zero i j e h l = absurd (omega arith)
every_at p (suc k) i j e h l = by (ℕ_discrete i j) (both_true (p i) (every p k (suc i)) e) (λ f h'. every_at p k (suc i) j f h' (omega arith))
  where
    by : Dec (i ≡ j) → (p i ≡ true) × (every p k (suc i) ≡ true) → (every p k (suc i) ≡ true → suc i ≤ j → p j ≡ true) → p j ≡ true
    by (yes q) f g = rw q at f.0
    by (no q) f g = g f.1 (omega arith)

at_every : (p : ℕ → Bool) (k i : ℕ) → ((j : ℕ) → i ≤ j → j < i + k → p j ≡ true) → every p k i ≡ true
unfolding every
at_every p zero i f = refl
at_every p (suc k) i f = both (f i (omega arith) (omega arith)) (at_every p k (suc i) (λ j h l. f j (omega arith) (omega arith)))

-- the same of all slots
pub all_slots : (p : ℕ → Bool) → every p slots 0 ≡ true → (i : ℕ) → i < slots → p i ≡ true
all_slots p e i h = every_at p slots 0 i e (omega arith) (omega arith)

-- ── slots that are good ──

-- a good node is fair by itself, and its chain reaches the root
node-parts : (ts : Table) (i : ℕ) (x : Option Node) → good_node ts i x ≡ fair i x && cond (is_used x) (reaches_root deepest ts i) true
unfolding good_node fair
node-parts ts i none = sym (and-true (not (eqb i 0)))
node-parts ts i (some n) = sym (and_assoc (good_name i n.name) (good_entries (n.owner ∷ n.others)) (reaches_root deepest ts i))

-- the part that every slot gives to the test of the whole
slots-parts : (t : Octets) → length t ≡ table_size → (same (table_bytes (table_of t)) t && good_nodes (table_of t) 0 (table_of t)) ≡ every (good_slot t) slots 0
    && every (chained t) slots 0
unfolding good_slot chained
slots-parts t w = both_ways
    (λ e.
    let p = both_true (same (table_bytes (table_of t)) t) (good_nodes (table_of t) 0 (table_of t)) e in
    let kept = same_eq (table_bytes (table_of t)) t p.0 in
    let node : (i : ℕ) → i < slots → (fair i (slot_at t i) && cond (is_used (slot_at t i)) (reaches_root deepest (table_of t) i) true) ≡ true =
    λ i h. sym (node-parts (table_of t) i (slot_at t i)) ∙ (rw (zero-add i) at (node_at_lem (table_of t) 0 (table_of t) p.1 i (rw (length-table_of t) h))) in
    both
    (at_every (good_slot t) slots 0 (λ i _ h. both (eq_same (kept_slot t kept i (below h))) (both_true (fair i (slot_at t i)) _ (node i (below h))).0))
    (at_every (chained t) slots 0 (λ i _ h. (both_true (fair i (slot_at t i)) _ (node i (below h))).1)))
    (λ e.
    let p = both_true (every (good_slot t) slots 0) (every (chained t) slots 0) e in
    let slot : (i : ℕ) → i < slots → (same (slot_bytes (slot_at t i)) (take slot_size (drop (i * slot_size) t)) ≡ true) × (fair i (slot_at t i) ≡ true) =
    λ i h. both_true (same (slot_bytes (slot_at t i)) (take slot_size (drop (i * slot_size) t))) (fair i (slot_at t i)) (all_slots (good_slot t) p.0 i h) in
    both (eq_same (slots_kept t w (λ i h. same_eq _ _ (slot i h).0)))
    (at_node (table_of t) 0 (table_of t) (λ i h.
    let l : i < slots = rw (length-table_of t) at h in
    rw zero-add (node-parts (table_of t) i (slot_at t i) ∙ both (slot i l).1 (all_slots (chained t) p.1 i l)))))
  where
    below : {i : ℕ} → i < 0 + slots → i < slots
    below h = omega arith

module _ (t : Octets) (w : length t ≡ table_size) where
  pub sound-parts : sound_table t ≡ every (good_slot t) slots 0 && (every (chained t) slots 0 && (good_root (node_at (table_of t) 0) && distinct (table_of t)))
  unfolding sound_table good_table
  sound-parts =
      let rest = good_root (node_at (table_of t) 0) && distinct (table_of t) in
      rw (eq-eqb (length t) table_size w)
      (sym (and_assoc (same (table_bytes (table_of t)) t) (good_nodes (table_of t) 0 (table_of t)) rest)
      ∙ ap (λ (b : Bool). b && rest) (slots-parts t w)
      ∙ and_assoc (every (good_slot t) slots 0) (every (chained t) slots 0) rest)

  module _ (bytes : Bytes t) (e : every (good_slot t) slots 0 ≡ true) where
    pub good-short : Short t
    good-short = record { whole = w; short = λ j h u. by j h u (sized t j) refl }
      where
        by : (j : ℕ) → j < slots → is_used (slot_at t j) ≡ true → (b : Bool) → sized t j ≡ b → name_length t j ≤ longest_name
        by j h u true s = (sizes_of t j s).name
        by j h u false s = absurd (false≢true (unsized t bytes w j h u s ∙ all_slots (good_slot t) e j h))

    pub root-used : Used t 0
    unfolding good_slot fair
    root-used = record {
      below = omega arith;
      whole = w;
      used = by (slot_at t 0)
          (both_true (same (slot_bytes (slot_at t 0)) (take slot_size (drop (0 * slot_size) t))) (fair 0 (slot_at t 0))
          (all_slots (good_slot t) e 0 (omega arith))).1;
    }
      where
        by : (x : Option Node) → fair 0 x ≡ true → is_used x ≡ true
        by none f = absurd (false≢true f)
        by (some n) f = refl

pub wrong-length : (t : Octets) → (length t ≡ table_size → ⊥) → false ≡ sound_table t
unfolding sound_table
wrong-length t n = sym (rw (ne_eqb (length t) table_size n) refl)

-- ── chains ──

module _ (t : Octets) (i : ℕ) (into after : Octets) (r : std.Option Way) (w : Walked 8 t i into after r) where
  pub lost_chained : is_used (slot_at t i) ≡ true → r ≡ None → chained t i ≡ false
  unfolding chained
  lost_chained u e = rw u (lost_case (reaches_root 8 (table_of t) i) _ _ w.found e)

  module _ (n at : ℕ) (e : r ≡ way n at) where
    pub root-chained : is_used (slot_at t i) ≡ true → chained t i ≡ true
    unfolding chained
    root-chained u = rw u (root_case (reaches_root 8 (table_of t) i) _ _ n at w.found e).0

    pub root_level : Level t i (n + 1)
    root_level z =
        let x = root_case (reaches_root 8 (table_of t) i) _ _ n at w.found e in
        (x.0, omega (arith, x.1))

    pub root-count : n ≤ 8
    root-count = omega (arith, (root_case (reaches_root 8 (table_of t) i) _ _ n at w.found e).1, steps_bound 8 t i)

pub unused_chained : (t : Octets) (i : ℕ) → is_used (slot_at t i) ≡ false → chained t i ≡ true
unfolding chained
unused_chained t i u = rw u refl

-- what is known of every slot's way
pub record Levels (t : Octets) (levels : List ℕ) : Type 0 where
  pub long : length levels ≡ slots
  pub each : (j : ℕ) → Level t j (get_or levels j 0)

pub levels-set : (t : Octets) (levels : List ℕ) (i a : ℕ) → i < slots → Level t i a → Levels t levels → Levels t (set levels i a)
levels-set t levels i a h l s = record { long = length-set levels i a ∙ s.long; each = λ j. by j (ℕ_discrete j i) }
  where
    by : (j : ℕ) → Dec (j ≡ i) → Level t j (get_or (set levels i a) j 0)
    by j (yes q) = rw (q, get_or-set_same levels i a 0 (omega (arith, s.long))) l
    by j (no q) = rw (get_or-set_other levels i j a 0 q) (s.each j)

pub none_levelled : (t : Octets) → Levels t (replicate slots 0)
none_levelled t = record { long = length-replicate {A = ℕ} slots 0; each = λ j z. absurd (z (none-known slots j)) }

pub levels-lent : (t known into : Octets) → Short t → Levels t known → length into ≡ 0 → Lent t known into
levels-lent t known into s l e = record { table = s; levels = l.each; room = λ n. absurd (n e); alone = λ n. absurd (n e) }

-- ── the root ──

module _ (t : Octets) (k : Used t 0) where
  pub root-parent : (p : ℕ) → p ≡ (node_at (table_of t) 0).parent → (p ≡ 0 → ⊥) → false ≡ good_root (node_at (table_of t) 0)
  unfolding good_root
  root-parent p e n = rw (← e, ne_eqb p 0 n) refl

  pub root-owner : (p d : ℕ) → p ≡ (node_at (table_of t) 0).parent → p ≡ 0 → d ≡ (entry_of t 0 0).domain → is_control d ≡ good_root (node_at (table_of t) 0)
  unfolding good_root
  root-owner p d e z f =
      let x = used-some (slot_at t 0) k.used in
      let n = node-some (table_of t) 0 x.0 x.1 in
      let o : entry_of t 0 0 ≡ (node_at (table_of t) 0).owner = entry_is t 0 k.below x.0 x.1 0 x.0.owner (omega arith) ∙ ap Node.owner (sym n) in
      rw (← e, eq-eqb p 0 z) (ap is_control (f ∙ ap Entry.domain o))
