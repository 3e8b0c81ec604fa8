-- Entries in places: what a written, freed or found place holds.
use mathlib.Core.Path.{◌≡◌, refl, sym, ◌∙◌, ap}
use mathlib.Core.Bool.{Bool, true, false, cond, not, ◌&&◌, ◌||◌, false≢true, true≢false, and-eq-true_iff, or-true}
use mathlib.Core.List.{List, [], ◌∷◌}
use mathlib.Core.Option.{Option, none, some}
use Prim.Native.Nat.{ℕ, zero, suc, ◌<◌}
use native.Mathlib.Omega.{arith}
use native.Mathlib.Decide.{ℕ_discrete}
use lib.ListN.{length, get_or, set, replicate}
use lib.Seq.{get_or-set_other}
use borrow.Author.Tests.{not-true, ltb-true, ltb-false}
use lib.Dec.{ltb}
use Rattle.rules.specs.Entries.{lowest, has, without}

pub nothing : {A : Type 0} {y : A} → ◌≡◌ {A = Option A} none (some y) → ⊥
nothing e = let z : ◌≡◌ {A = ℕ} 0 1 = cc in omega arith

pub some_is : {A : Type 0} {x y : A} → some x ≡ some y → x ≡ y
some_is e = cc

pub is_false : (b : Bool) → (b ≡ true → ⊥) → b ≡ false
is_false true h = absurd (h refl)
is_false false h = refl

-- the entry x stands in place i
abbrev pub At : {A : Type 0} → List (Option A) → ℕ → A → Type 0
At xs i x = get_or xs i none ≡ some x

module _ {A : Type 0} where
  pub at_below : (xs : List (Option A)) (i : ℕ) (x : A) → At xs i x → i < length xs
  at_below [] i x e = absurd (nothing e)
  at_below (y ∷ xs) zero x e = omega arith
  at_below (y ∷ xs) (suc i) x e = omega (arith, at_below xs i x e)

  pub none_at : (n i : ℕ) → get_or (replicate {A = Option A} n none) i none ≡ none
  none_at zero i = refl
  none_at (suc n) zero = refl
  none_at (suc n) (suc i) = none_at n i

  -- ── written places ──

  pub at_set : (xs : List (Option A)) (j i : ℕ) (e : Option A) (x : A) → i ≡ j → At (set xs j e) i x → e ≡ some x
  at_set xs j i e x r q = go xs j (rw r at q)
    where
      go : (xs : List (Option A)) (j : ℕ) → At (set xs j e) j x → e ≡ some x
      go [] j q = absurd (nothing q)
      go (y ∷ xs) zero q = q
      go (y ∷ xs) (suc j) q = go xs j q

  -- an entry of the written table is the written one, or was there before
  pub set_cases : (P : Type 0) (xs : List (Option A)) (j i : ℕ) (e : Option A) (x : A) → At (set xs j e) i x → (i ≡ j → e ≡ some x → P) →
      ((i ≡ j → ⊥) → At xs i x → P) → P
  set_cases P xs j i e x q new old = go (ℕ_discrete i j)
    where
      go : Dec (i ≡ j) → P
      go (yes r) = new r (at_set xs j i e x r q)
      go (no r) = old r (sym (get_or-set_other xs j i e none r) ∙ q)

  -- ── free places ──

  pub lowest_free_lem : (xs : List (Option A)) → get_or xs (lowest xs) none ≡ none
  unfolding lowest
  lowest_free_lem [] = refl
  lowest_free_lem (none ∷ xs) = refl
  lowest_free_lem (some x ∷ xs) = lowest_free_lem xs

  -- ── entries that go ──

  -- an entry that `without` leaves was there, and doesn't pass the test
  pub at_without : (test : A → Bool) (xs : List (Option A)) (i : ℕ) (x : A) → At (without test xs) i x → At xs i x × (test x ≡ false)
  unfolding without
  at_without test [] i x e = (e, cc)
  at_without test (none ∷ xs) zero x e = (e, cc)
  at_without test (none ∷ xs) (suc i) x e = at_without test xs i x e
  at_without test (some y ∷ xs) zero x e = go (test y) refl e
    where
      go : (b : Bool) → test y ≡ b → cond b none (some y) ≡ some x → (◌≡◌ {A = Option A} (some y) (some x)) × (test x ≡ false)
      go true p q = (cc, cc)
      go false p q = (q, cc)
  at_without test (some y ∷ xs) (suc i) x e = at_without test xs i x e

  pub without_at : (test : A → Bool) (xs : List (Option A)) (i : ℕ) (x : A) → At xs i x → test x ≡ false → At (without test xs) i x
  unfolding without
  without_at test [] i x e h = e
  without_at test (none ∷ xs) zero x e h = e
  without_at test (none ∷ xs) (suc i) x e h = without_at test xs i x e h
  without_at test (some y ∷ xs) zero x e h = rw (some_is e, h)
  without_at test (some y ∷ xs) (suc i) x e h = without_at test xs i x e h

  pub length_without : (test : A → Bool) (xs : List (Option A)) → length (without test xs) ≡ length xs
  unfolding without
  length_without test [] = refl
  length_without test (none ∷ xs) = ap suc (length_without test xs)
  length_without test (some x ∷ xs) = ap suc (length_without test xs)

  -- ── entries that are found ──

  -- some entry passes the test, or none does
  pub has_at : (test : A → Bool) (xs : List (Option A)) → has test xs ≡ true → (i : ℕ) × (x : A) × At xs i x × (test x ≡ true)
  unfolding has
  has_at test [] e = absurd (false≢true e)
  has_at test (none ∷ xs) e = let r = has_at test xs e in (suc r.0, r.1, r.2, r.3)
  has_at test (some x ∷ xs) e = go (test x) refl e (has_at test xs)
    where
      go : (b : Bool) → test x ≡ b → (b || has test xs) ≡ true → (has test xs ≡ true → (i : ℕ) × (y : A) × At xs i y × (test y ≡ true))
          → (i : ℕ) × (y : A) × At (some x ∷ xs) i y × (test y ≡ true)
      go true p q h = (0, x, refl, p)
      go false p q h = let r = h q in (suc r.0, r.1, r.2, r.3)

  pub at_has : (test : A → Bool) (xs : List (Option A)) (i : ℕ) (x : A) → At xs i x → test x ≡ true → has test xs ≡ true
  unfolding has
  at_has test [] i x e p = absurd (nothing e)
  at_has test (none ∷ xs) zero x e p = absurd (nothing e)
  at_has test (none ∷ xs) (suc i) x e p = at_has test xs i x e p
  at_has test (some y ∷ xs) zero x e p = rw (some_is e, p)
  at_has test (some y ∷ xs) (suc i) x e p = rw (at_has test xs i x e p) (or-true (test y))

  pub not_has : (test : A → Bool) (xs : List (Option A)) → has test xs ≡ false → (i : ℕ) (x : A) → At xs i x → test x ≡ false
  not_has test xs e i x q = is_false (test x) λ p. true≢false (sym (at_has test xs i x q p) ∙ e)

  pub has_not : (test : A → Bool) (xs : List (Option A)) → ((i : ℕ) (x : A) → At xs i x → test x ≡ false) → has test xs ≡ false
  has_not test xs h = is_false (has test xs) λ e. let r = has_at test xs e in true≢false (sym r.3 ∙ h r.0 r.1 r.2)

  -- ── entries that all pass a test, or differ two by two ──

  unfoldable pub every : (A → Bool) → List (Option A) → Bool
  every test [] = true
  every test (none ∷ xs) = every test xs
  every test (some x ∷ xs) = test x && every test xs

  unfoldable pub apart : (A → A → Bool) → List (Option A) → Bool
  apart rel [] = true
  apart rel (none ∷ xs) = apart rel xs
  apart rel (some x ∷ xs) = not (has (rel x) xs) && apart rel xs

  pub every_at : (test : A → Bool) (xs : List (Option A)) → every test xs ≡ true → (i : ℕ) (x : A) → At xs i x → test x ≡ true
  unfolding every
  every_at test [] h i x e = absurd (nothing e)
  every_at test (none ∷ xs) h zero x e = absurd (nothing e)
  every_at test (none ∷ xs) h (suc i) x e = every_at test xs h i x e
  every_at test (some y ∷ xs) h zero x e = rw (← some_is e) ((and-eq-true_iff (test y) (every test xs)).0 h).0
  every_at test (some y ∷ xs) h (suc i) x e = every_at test xs ((and-eq-true_iff (test y) (every test xs)).0 h).1 i x e

  pub at_every : (test : A → Bool) (xs : List (Option A)) → ((i : ℕ) (x : A) → At xs i x → test x ≡ true) → every test xs ≡ true
  unfolding every
  at_every test [] h = refl
  at_every test (none ∷ xs) h = at_every test xs (λ i. h (suc i))
  at_every test (some y ∷ xs) h = (and-eq-true_iff (test y) (every test xs)).1 (h 0 y refl, at_every test xs (λ i. h (suc i)))

  pub apart_at : (rel : A → A → Bool) (xs : List (Option A)) → apart rel xs ≡ true → (i j : ℕ) (x y : A) → i < j → At xs i x → At xs j y → rel x y ≡ false
  unfolding apart
  apart_at rel [] h i j x y l p q = absurd (nothing p)
  apart_at rel (none ∷ xs) h zero j x y l p q = absurd (nothing p)
  apart_at rel (none ∷ xs) h (suc i) zero x y l p q = absurd (omega arith)
  apart_at rel (none ∷ xs) h (suc i) (suc j) x y l p q = apart_at rel xs h i j x y (omega arith) p q
  apart_at rel (some z ∷ xs) h zero zero x y l p q = absurd (omega arith)
  apart_at rel (some z ∷ xs) h zero (suc j) x y l p q =
      rw (← some_is p) (not_has (rel z) xs (not-true _ ((and-eq-true_iff (not (has (rel z) xs)) (apart rel xs)).0 h).0) j y q)
  apart_at rel (some z ∷ xs) h (suc i) zero x y l p q = absurd (omega arith)
  apart_at rel (some z ∷ xs) h (suc i) (suc j) x y l p q =
      apart_at rel xs ((and-eq-true_iff (not (has (rel z) xs)) (apart rel xs)).0 h).1 i j x y (omega arith) p q

  pub at_apart : (rel : A → A → Bool) (xs : List (Option A)) → ((i j : ℕ) (x y : A) → i < j → At xs i x → At xs j y → rel x y ≡ false) → apart rel xs ≡ true
  unfolding apart
  at_apart rel [] h = refl
  at_apart rel (none ∷ xs) h = at_apart rel xs (λ i j x y l. h (suc i) (suc j) x y (omega arith))
  at_apart rel (some z ∷ xs) h =
      (and-eq-true_iff (not (has (rel z) xs)) (apart rel xs)).1
      (ap not (has_not (rel z) xs (λ j y. h 0 (suc j) z y (omega arith) refl)), at_apart rel xs (λ i j x y l. h (suc i) (suc j) x y (omega arith)))

  -- entries apart by a symmetric relation: two that it relates stand in one place
  pub related_one : (rel : A → A → Bool) → ((x y : A) → rel x y ≡ true → rel y x ≡ true) → (xs : List (Option A)) → apart rel xs ≡ true
      → (i j : ℕ) (x y : A) → At xs i x → At xs j y → rel x y ≡ true → i ≡ j
  related_one rel s xs h i j x y p q e = go (ltb i j) (ltb j i) refl refl
    where
      go : (b c : Bool) → ltb i j ≡ b → ltb j i ≡ c → i ≡ j
      go true c u v = absurd (true≢false (sym e ∙ apart_at rel xs h i j x y (ltb-true i j u) p q))
      go false true u v = absurd (true≢false (sym (s x y e) ∙ apart_at rel xs h j i y x (ltb-true j i v) q p))
      go false false u v = omega (arith, ltb-false i j u, ltb-false j i v)

  pub one_related : (rel : A → A → Bool) (xs : List (Option A)) → ((i j : ℕ) (x y : A) → At xs i x → At xs j y → rel x y ≡ true → i ≡ j) → apart rel xs ≡ true
  one_related rel xs h = at_apart rel xs λ i j x y l p q. is_false (rel x y) λ e. let z : i ≡ j = h i j x y p q e in omega arith
