-- A used slot's way to the root, parent by parent.
use mathlib.Core.Path.{◌≡◌, refl, sym, ◌∙◌, ap}
use mathlib.Core.Bool.{Bool, true, false, ◌||◌, false≢true}
use mathlib.Core.Option.{Option, none, some}
use Prim.Native.Nat.{ℕ, zero, suc, ◌+◌}
use native.Mathlib.Nat.{zero-add, suc-add}
use native.Mathlib.Decide.{ℕ_discrete}
use lib.ListN.{get_or}
use lib.Dec.{eqb}
use borrow.Author.Tests.{eqb-true, eq-eqb, ne_eqb}
use Rattle.rules.specs.Node.{Node, Table}
use Rattle.rules.specs.Sound.{reaches_root}
use Rattle.rules.proofs.Places.{some_is, At}
use Rattle.rules.proofs.GoodTables.{Good}

-- ── reaching the root ──

pub reaches_node : (k : ℕ) (t : Table) (i : ℕ) → reaches_root (suc k) t i ≡ true → (i ≡ 0 → ⊥) → (n : Node) × At t i n × (reaches_root k t n.parent ≡ true)
unfolding reaches_root
reaches_node k t i h z = go (get_or t i none) refl (rw (ne_eqb i 0 z) at h)
  where
    go : (m : Option Node) → get_or t i none ≡ m → (elim m [ none ↦ false | some n ↦ reaches_root k t n.parent ]) ≡ true →
        (n : Node) × At t i n × (reaches_root k t n.parent ≡ true)
    go none e h = absurd (false≢true h)
    go (some n) e h = (n, e, h)

pub node_reaches : (k : ℕ) (t : Table) (i : ℕ) (n : Node) → At t i n → reaches_root k t n.parent ≡ true → reaches_root (suc k) t i ≡ true
unfolding reaches_root
node_reaches k t i n e h = go (eqb i 0)
  where
    go : (b : Bool) → (b || elim (get_or t i none) [ none ↦ false | some n ↦ reaches_root k t n.parent ]) ≡ true
    go true = refl
    go false = rw e h

pub root_reaches : (k : ℕ) (t : Table) (i : ℕ) → i ≡ 0 → reaches_root k t i ≡ true
unfolding reaches_root
root_reaches zero t i e = eq-eqb i 0 e
root_reaches (suc k) t i e = rw (eq-eqb i 0 e)

-- by cases: slot i is the root, or a used slot whose parent reaches it
pub reaches_cases : (P : Type 0) (k : ℕ) (t : Table) (i : ℕ) → reaches_root (suc k) t i ≡ true → (i ≡ 0 → P)
    → ((i ≡ 0 → ⊥) → (n : Node) → At t i n → reaches_root k t n.parent ≡ true → P) → P
reaches_cases P k t i h root other = go (ℕ_discrete i 0)
  where
    go : Dec (i ≡ 0) → P
    go (yes e) = root e
    go (no z) = let r = reaches_node k t i h z in other z r.0 r.1 r.2

pub reaches_zero : (t : Table) (i : ℕ) → reaches_root 0 t i ≡ true → i ≡ 0
unfolding reaches_root
reaches_zero t i h = eqb-true i 0 h

-- a slot that reaches the root in k steps does so in one more
reaches_more : (k : ℕ) (t : Table) (i : ℕ) → reaches_root k t i ≡ true → reaches_root (suc k) t i ≡ true
reaches_more zero t i h = root_reaches 1 t i (reaches_zero t i h)
reaches_more (suc k) t i h =
    reaches_cases (reaches_root (suc (suc k)) t i ≡ true) k t i h (root_reaches (suc (suc k)) t i)
    (λ z n e r. node_reaches (suc k) t i n e (reaches_more k t n.parent r))

pub reaches_up : (m k : ℕ) (t : Table) (i : ℕ) → reaches_root k t i ≡ true → reaches_root (m + k) t i ≡ true
reaches_up zero k t i h = rw zero-add h
reaches_up (suc m) k t i h = rw suc-add (reaches_more (m + k) t i (reaches_up m k t i h))

-- a table that keeps the slots and their parents keeps their ways to the root
pub reaches_kept : (k : ℕ) (t u : Table) (i : ℕ) → ((j : ℕ) (n : Node) → At t j n → (m : Node) × At u j m × (m.parent ≡ n.parent)) →
    reaches_root k t i ≡ true → reaches_root k u i ≡ true
reaches_kept zero t u i f h = root_reaches 0 u i (reaches_zero t i h)
reaches_kept (suc k) t u i f h =
    reaches_cases (reaches_root (suc k) u i ≡ true) k t i h (root_reaches (suc k) u i)
    (λ z n e r. let m = f i n e in node_reaches k u i m.0 m.1 (rw m.2 (reaches_kept k t u n.parent f r)))

-- a used slot's parent is used
pub parent-used : (t : Table) → Good t → (i : ℕ) (n : Node) → At t i n → (m : Node) × At t n.parent m
parent-used t g i n e =
    reaches_cases ((m : Node) × At t n.parent m) 7 t i (g.reaches i n e)
    (λ z. (g.root, ap (λ (j : ℕ). get_or t j none) (ap Node.parent (some_is (sym e ∙ (ap (λ (j : ℕ). get_or t j none) z ∙ g.used))) ∙ g.own-parent) ∙ g.used))
    (λ z m q r. reaches_cases ((m : Node) × At t n.parent m) 6 t n.parent (rw (ap Node.parent (some_is (sym q ∙ e))) at r)
    (λ y. (g.root, ap (λ (j : ℕ). get_or t j none) y ∙ g.used))
    (λ y m q r. (m, q)))
