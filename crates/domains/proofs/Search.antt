-- Searches and sweeps over the places of a table.
use mathlib.Core.Path.{◌≡◌, refl, sym, ap, ◌∙◌}
use mathlib.Core.Bool.{Bool, true, false, cond, ◌||◌}
use mathlib.Core.List.{List, [], ◌∷◌, map}
use mathlib.Core.Option.{Option, none, some}
use Prim.Native.Nat.{ℕ, zero, suc, ◌+◌, ◌≤◌}
use native.Mathlib.Numerals.{add-one}
use native.Mathlib.Nat.{not-suc-le-zero, le_of_suc-le-suc}
use native.Mathlib.Omega.{arith}
use lib.ListN.{length, get_or, drop, set, drop_of_length-le}
use lib.Seq.{drop-cons}
use Rattle.std.specs.List.{list_any, range_with_len}
use Rattle.rules.specs.Entries.{has, without}
use Rattle.domains.specs.Entry.{taken, passes, entry_or, dropped_if}

module _ {A : Type 0} where
  -- ── an entry ──

  pub free_none : (x : Option A) → taken x ≡ false → x ≡ none
  unfolding taken
  free_none none e = refl
  free_none (some x) e = let z : ◌≡◌ {A = ℕ} 0 1 = cc in absurd (omega arith)

  pub taken-some : (stand : A) (x : Option A) → taken x ≡ true → x ≡ some (entry_or stand x)
  unfolding taken entry_or
  taken-some stand none e = let z : ◌≡◌ {A = ℕ} 0 1 = cc in absurd (omega arith)
  taken-some stand (some x) e = refl

  pub passes_free : (test : A → Bool) (x : Option A) → taken x ≡ false → passes test x ≡ false
  unfolding taken passes
  passes_free test none e = refl
  passes_free test (some x) e = let z : ◌≡◌ {A = ℕ} 0 1 = cc in absurd (omega arith)

  pub passes-taken : (test : A → Bool) (stand : A) (x : Option A) → taken x ≡ true → passes test x ≡ test (entry_or stand x)
  unfolding taken passes entry_or
  passes-taken test stand none e = let z : ◌≡◌ {A = ℕ} 0 1 = cc in absurd (omega arith)
  passes-taken test stand (some x) e = refl

  pub dropped_is : (test : A → Bool) (x : Option A) → passes test x ≡ true → dropped_if test x ≡ none
  unfolding passes dropped_if
  dropped_is test none e = refl
  dropped_is test (some x) e = rw e

  pub dropped_not : (test : A → Bool) (x : Option A) → passes test x ≡ false → dropped_if test x ≡ x
  unfolding passes dropped_if
  dropped_not test none e = refl
  dropped_not test (some x) e = rw e

  -- ── some entry passes a test ──

  module _ (test : A → Bool) (xs : List (Option A)) where
    has-first : (x : Option A) (rest : List (Option A)) → (passes test x || has test rest) ≡ has test (x ∷ rest)
    unfolding passes has
    has-first none rest = refl
    has-first (some x) rest = refl

    -- one of m places from place a on has an entry that does
    pub has_any : (a m : ℕ) → a + m ≡ length xs → list_any (λ k. passes test (get_or xs k none)) (range_with_len a m) ≡ has test (drop a xs)
    unfolding has
    has_any a zero e = sym (ap (has test) (drop_of_length-le xs {i = a} (omega arith)))
    has_any a (suc m) e =
        let turn : drop a xs ≡ get_or xs a none ∷ drop (a + 1) xs = rw add-one (drop-cons xs a none (omega arith)) in
        ap (◌||◌ (passes test (get_or xs a none))) (has_any (a + 1) m (omega arith)) ∙ has-first _ _ ∙ sym (ap (has test) turn)

  -- ── each place in turn made what a function makes of it ──

  -- the first i places are done
  abbrev pub swept_before : (Option A → Option A) → ℕ → List (Option A) → List (Option A)
  swept_before f zero xs = xs
  swept_before f (suc i) [] = []
  swept_before f (suc i) (x ∷ xs) = f x ∷ swept_before f i xs

  module _ (f : Option A → Option A) where
    pub length-swept : (i : ℕ) (xs : List (Option A)) → length (swept_before f i xs) ≡ length xs
    length-swept zero xs = refl
    length-swept (suc i) [] = refl
    length-swept (suc i) (x ∷ xs) = ap suc (length-swept i xs)

    -- the next place is as it was
    pub swept_at : (i : ℕ) (xs : List (Option A)) → get_or (swept_before f i xs) i none ≡ get_or xs i none
    swept_at zero xs = refl
    swept_at (suc i) [] = refl
    swept_at (suc i) (x ∷ xs) = swept_at i xs

    swept-set : (i : ℕ) (xs : List (Option A)) → set (swept_before f i xs) i (f (get_or xs i none)) ≡ swept_before f (suc i) xs
    swept-set zero [] = refl
    swept-set zero (x ∷ xs) = refl
    swept-set (suc i) [] = refl
    swept-set (suc i) (x ∷ xs) = ap (◌∷◌ (f x)) (swept-set i xs)

    pub swept_next : (i : ℕ) (xs : List (Option A)) → set (swept_before f i xs) i (f (get_or (swept_before f i xs) i none)) ≡ swept_before f (i + 1) xs
    swept_next i xs = rw (swept_at i xs, add-one) (swept-set i xs)

    pub swept_all : (i : ℕ) (xs : List (Option A)) → length xs ≤ i → swept_before f i xs ≡ map f xs
    swept_all zero [] h = refl
    swept_all zero (x ∷ xs) h = absurd (not-suc-le-zero h)
    swept_all (suc i) [] h = refl
    swept_all (suc i) (x ∷ xs) h = ap (◌∷◌ (f x)) (swept_all i xs (le_of_suc-le-suc h))

  pub without-map : (test : A → Bool) (xs : List (Option A)) → map (dropped_if test) xs ≡ without test xs
  unfolding dropped_if without
  without-map test [] = refl
  without-map test (none ∷ xs) = ap (◌∷◌ none) (without-map test xs)
  without-map test (some x ∷ xs) = ap (◌∷◌ (cond (test x) none (some x))) (without-map test xs)
