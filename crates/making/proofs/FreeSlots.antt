-- The free slots from a place on.
use mathlib.Core.Path.{◌≡◌, refl, ap, sym, ◌∙◌}
use mathlib.Core.Bool.{Bool, true, false, not, true≢false, false≢true}
use mathlib.Core.List.{◌∷◌}
use mathlib.Core.Option.{Option, none, some}
use Prim.Native.Nat.{ℕ, zero, suc, ◌+◌, ◌<◌}
use native.Mathlib.Omega.{arith}
use native.Mathlib.Numerals.{add-one}
use lib.ListN.{length, get_or, drop, drop_of_length-le}
use lib.Seq.{drop-cons}
use Rattle.std.specs.List.{filter, range_with_len}
use Rattle.rules.specs.Size.{slots}
use Rattle.rules.specs.Entries.{free_count}
use Rattle.rules.specs.Node.{Node, Table}
use Rattle.slots.specs.Slot.{is_used}

module _ (ts : Table) (i : ℕ) (h : i < length ts) where
  count_here : is_used (get_or ts i none) ≡ false → free_count (drop i ts) ≡ suc (free_count (drop (i + 1) ts))
  unfolding free_count
  count_here u = ap free_count (drop-cons ts i none h) ∙ go (get_or ts i none) u ∙ rw add-one
    where
      go : (x : Option Node) → is_used x ≡ false → free_count (x ∷ drop (suc i) ts) ≡ suc (free_count (drop (suc i) ts))
      go none v = refl
      go (some n) v = absurd (true≢false v)

  count_further : is_used (get_or ts i none) ≡ true → free_count (drop i ts) ≡ free_count (drop (i + 1) ts)
  unfolding free_count
  count_further u = ap free_count (drop-cons ts i none h) ∙ go (get_or ts i none) u ∙ rw add-one
    where
      go : (x : Option Node) → is_used x ≡ true → free_count (x ∷ drop (suc i) ts) ≡ free_count (drop (suc i) ts)
      go none v = absurd (false≢true v)
      go (some n) v = refl

-- the places that pass a test of their slots, from a place on, are the free ones
counted : (ts : Table) (n i : ℕ) → i + n ≡ length ts → length (filter (λ j. not (is_used (get_or ts j none))) (range_with_len i n)) ≡ free_count (drop i ts)
unfolding free_count
counted ts zero i e = rw (drop_of_length-le ts {i = i} (omega arith))
counted ts (suc n) i e = go (is_used (get_or ts i none)) refl (counted ts n (i + 1) (omega arith))
  where
    h : i < length ts
    h = omega arith

    go : (b : Bool) → is_used (get_or ts i none) ≡ b →
        length (filter (λ j. not (is_used (get_or ts j none))) (range_with_len (i + 1) n)) ≡ free_count (drop (i + 1) ts) →
        length (filter (λ j. not (is_used (get_or ts j none))) (range_with_len i (suc n))) ≡ free_count (drop i ts)
    go true u rest = rw u (rest ∙ sym (count_further ts i h u))
    go false u rest = rw u (ap suc rest ∙ sym (count_here ts i h u))

pub free_counted : (ts : Table) → length ts ≡ slots → length (filter (λ j. not (is_used (get_or ts j none))) (range_with_len 0 slots)) ≡ free_count ts
free_counted ts e = counted ts slots 0 (sym e)
