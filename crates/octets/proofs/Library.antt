-- The library's words on slices of bytes, as the rule book's.
use mathlib.Core.Path.{◌≡◌, refl, ap}
use mathlib.Core.Bool.{Bool, ◌&&◌}
use mathlib.Core.List.{[], ◌∷◌}
use native.Mathlib.Omega.{arith}
use lib.Dec.{eqb}
use lib.Pointwise.{pointwise}
use Rattle.std.specs.Prelude.{nat_eq, Some}
use Rattle.std.specs.List.{starts_with}
use Rattle.std.specs.Ordering.{nat_cmp, is_lt, is_some_and}
use Rattle.std.specs.Cmp.Lexicographic.{slice_partial_cmp}
use Rattle.std.proofs.lemmas.Cmp.{same_from_slice_cmp_tested}
use Rattle.std.proofs.lemmas.Bool.Decides.{nat_tests}
use Rattle.rules.specs.Octets.{Octets, same, less, begins}

pub same_bytes : (a b : Octets) → pointwise nat_eq a b ≡ same a b
unfolding same
same_bytes [] [] = refl
same_bytes [] (y ∷ ys) = refl
same_bytes (x ∷ xs) [] = refl
same_bytes (x ∷ xs) (y ∷ ys) = ap (λ (t : Bool). nat_eq x y && t) (same_bytes xs ys)

pub begins_with : (a b : Octets) → starts_with nat_eq b a ≡ begins a b
unfolding begins
begins_with [] b = refl
begins_with (x ∷ xs) [] = refl
begins_with (x ∷ xs) (y ∷ ys) = ap (λ (t : Bool). nat_eq x y && t) (begins_with xs ys)

pub comes_before : (a b : Octets) (r : Bool) → r ≡ is_some_and is_lt (slice_partial_cmp (λ x y. Some (nat_cmp x y)) a b) → r ≡ less a b
unfolding less
comes_before = same_from_slice_cmp_tested nat_cmp is_lt less refl (λ _ _. refl) (λ _ _. refl) (λ x y xs ys o h. grind (arith, nat_tests))
