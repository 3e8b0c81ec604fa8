-- A check of a list, place by place: each element with those after it.
use mathlib.Core.Path.{◌≡◌, sym, ap, ◌∙◌}
use mathlib.Core.Bool.{Bool, true, ◌&&◌}
use mathlib.Core.List.{List, [], ◌∷◌}
use Prim.Native.Nat.{ℕ, zero, suc, ◌+◌}
use native.Mathlib.Numerals.{add-one}
use native.Mathlib.Omega.{arith}
use lib.ListN.{length, get_or, drop, drop_of_length-le}
use lib.Seq.{drop-cons}
use Rattle.std.specs.List.{list_all, range_with_len}

-- a check of a list, by what it asks of an element and those after it
pub record ListCheck (A : Type 0) : Type 0 where
  pub stand : A
  pub all : List A → Bool
  pub one : A → List A → Bool
  pub empty : all [] ≡ true
  pub next : (x : A) (xs : List A) → all (x ∷ xs) ≡ (one x xs && all xs)

module _ {A : Type 0} (r : ListCheck A) (xs : List A) where
  -- what is asked of the element in place k, with those after it
  abbrev pub asked_at : ℕ → Bool
  asked_at k = r.one (get_or xs k r.stand) (drop (k + 1) xs)

  asked-from : (a m : ℕ) → a + m ≡ length xs → list_all asked_at (range_with_len a m) ≡ r.all (drop a xs)
  asked-from a zero e = sym (ap r.all (drop_of_length-le xs {i = a} (omega arith)) ∙ r.empty)
  asked-from a (suc m) e =
      let turn : drop a xs ≡ get_or xs a r.stand ∷ drop (a + 1) xs = rw add-one (drop-cons xs a r.stand (omega arith)) in
      ap (◌&&◌ (asked_at a)) (asked-from (a + 1) m (omega arith)) ∙ sym (ap r.all turn ∙ r.next _ _)

  -- the list passes where each of its places does
  pub asked_all : (n : ℕ) → length xs ≡ n → list_all asked_at (range_with_len 0 n) ≡ r.all xs
  asked_all n long = asked-from 0 n (omega arith)
