-- Paths that are not there: beyond the slot that a path leads to, none of the paths to it is.
use mathlib.Core.Path.{◌≡◌, refl, ap, ◌∙◌}
use mathlib.Core.Bool.{Bool, false}
use mathlib.Core.List.{[], ◌∷◌}
use mathlib.Core.Option.{Option, none, some}
use Prim.Native.Nat.{ℕ, suc, ◌-◌, ◌≤◌, ◌<◌}
use native.Mathlib.Omega.{arith}
use lib.ListN.{length, take}
use Rattle.rules.specs.Entries.{is_empty}
use Rattle.rules.specs.Domain.{Domain}
use Rattle.rules.specs.Path.{Names}
use Rattle.rules.specs.Node.{Table, Reached, child, reach_from, reach}
use Rattle.rules.specs.Rights.{readable}

-- no more names are left than there are
pub left-short : (ns : Names) (t : Table) (i : ℕ) → length (reach_from ns t i).left ≤ length ns
unfolding reach_from
left-short [] t i = omega arith
left-short (n ∷ ns) t i = go (child t i n) (left-short ns t)
  where
    go : (m : Option ℕ) → ((j : ℕ) → length (reach_from ns t j).left ≤ length ns)
        → length (elim m as (λ m. Reached) [ none ↦ record { slot = i; left = n ∷ ns } | some j ↦ reach_from ns t j ]).left ≤ length (n ∷ ns)
    go none f = omega arith
    go (some j) f = omega (arith, f j)

-- with fewer names off than are left, something is left
beyond-left : (ns : Names) (t : Table) (i k : ℕ) → k < length (reach_from ns t i).left
    → is_empty (reach_from (take (length ns - k) ns) t i).left ≡ false
unfolding reach_from is_empty
beyond-left [] t i k h = absurd (omega arith)
beyond-left (n ∷ ns) t i k h = go (child t i n) refl (beyond-left ns t) h
  where
    one_more : k ≤ length ns → take (suc (length ns) - k) (n ∷ ns) ≡ n ∷ take (length ns - k) ns
    one_more l = let e : suc (length ns) - k ≡ suc (length ns - k) = omega arith in ap (λ (m : ℕ). take m (n ∷ ns)) e

    something : Names → Bool
    something l = is_empty (reach_from l t i).left

    from_child : Names → Option ℕ → Bool
    from_child l m = is_empty (elim m as (λ m. Reached) [ none ↦ record { slot = i; left = n ∷ l } | some j ↦ reach_from l t j ]).left

    go : (m : Option ℕ) → child t i n ≡ m
        → ((j k : ℕ) → k < length (reach_from ns t j).left → is_empty (reach_from (take (length ns - k) ns) t j).left ≡ false)
        → k < length (elim m as (λ m. Reached) [ none ↦ record { slot = i; left = n ∷ ns } | some j ↦ reach_from ns t j ]).left
        → is_empty (reach_from (take (suc (length ns) - k) (n ∷ ns)) t i).left ≡ false
    go none x f l = ap something (one_more (omega arith)) ∙ ap (from_child (take (length ns - k) ns)) x
    go (some j) x f l = ap something (one_more (omega (arith, left-short ns t j))) ∙ (ap (from_child (take (length ns - k) ns)) x ∙ f j k l)

-- nobody may read one of the paths between the slot that a path leads to and the path's end
pub unread : (t : Table) (ns : Names) (k : ℕ) → k < length (reach t ns).left → (d : Domain) → readable t d (take (length ns - k) ns) ≡ false
unfolding reach readable
unread t ns k h d = rw (beyond-left ns t 0 k h) refl
