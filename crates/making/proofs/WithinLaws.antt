-- The walk up from a slot, step by step.
use mathlib.Core.Path.{◌≡◌, refl, sym}
use mathlib.Core.Bool.{true, false, true≢false}
use mathlib.Core.Option.{Option, none, some}
use Prim.Native.Nat.{ℕ, zero, suc, ◌-◌, ◌<◌}
use native.Mathlib.Omega.{arith}
use lib.ListN.{get_or}
use lib.Dec.{eqb}
use borrow.Author.Tests.{eq-eqb, ne_eqb}
use Rattle.rules.specs.Node.{Node, Table, root, node_at, within}
use Rattle.slots.specs.Slot.{is_used}

-- a free slot is read as the root
pub free_parent : (ts : Table) (i : ℕ) → is_used (get_or ts i none) ≡ false → 0 ≡ (node_at ts i).parent
unfolding node_at root
free_parent ts i u = go (get_or ts i none) u
  where
    go : (x : Option Node) → is_used x ≡ false → 0 ≡ (elim x as (λ x. Node) [ none ↦ root | some n ↦ n ]).parent
    go none v = refl
    go (some n) v = absurd (true≢false v)

module _ (ts : Table) (i : ℕ) where
  pub within_here : (k j : ℕ) → i ≡ j → true ≡ within k ts i j
  unfolding within
  within_here zero j e = sym (eq-eqb i j e)
  within_here (suc k) j e = rw (eq-eqb i j e)

  pub within-root : (k j : ℕ) → (i ≡ j → ⊥) → j ≡ 0 → false ≡ within k ts i j
  unfolding within
  within-root zero j n e = sym (ne_eqb i j n)
  within-root (suc k) j n e = rw (ne_eqb i j n, eq-eqb j 0 e)

  pub within_up : (k j : ℕ) → 0 < k → (i ≡ j → ⊥) → (j ≡ 0 → ⊥) → {p : ℕ} → p ≡ (node_at ts j).parent → within k ts i j ≡ within (k - 1) ts i p
  unfolding within
  within_up zero j h n z e = absurd (omega arith)
  within_up (suc k) j h n z e =
      let d : suc k - 1 ≡ k = omega arith in
      rw (ne_eqb i j n, ne_eqb j 0 z, d, e)

  pub within_end : (k j : ℕ) → k ≡ 0 → eqb i j ≡ within k ts i j
  unfolding within
  within_end k j e = rw e
