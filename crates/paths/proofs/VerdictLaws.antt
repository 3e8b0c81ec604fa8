-- What each last state says of a text.
use mathlib.Core.Path.{◌≡◌, refl, ap, sym, ◌∙◌}
use mathlib.Core.Bool.{true, false, cond}
use mathlib.Core.Logic.{◌⊎◌, ⊎_elim}
use Prim.Native.Nat.{ℕ, zero, suc, ◌<◌, ◌≤◌}
use native.Mathlib.Omega.{arith}
use lib.Dec.{leb}
use lib.ListN.{length}
use borrow.Author.Tests.{ne_eqb, le-leb, lt-leb}
use Rattle.rules.specs.Size.{longest_absolute, longest_relative}
use Rattle.rules.specs.Octets.{Octets, same}
use Rattle.rules.specs.Path.{introduce_name, release_name}
use Rattle.paths.specs.Form.{verdict_of, is_event}
use Rattle.paths.specs.declared.answer.Form.TheVariants.{Absolute, Relative, Special, Malformed}

module _ (state : ℕ) (s : Octets) where
  pub verdict_rest : (state < 1) ⊎ (3 ≤ state) → (state ≡ 4 → ⊥) → (state ≡ 6 → ⊥) → Malformed ≡ verdict_of state s
  unfolding verdict_of
  verdict_rest h f g =
      let p : state ≡ 1 → ⊥ = ⊎_elim (λ w. omega arith) (λ w. omega arith) h in
      let q : state ≡ 2 → ⊥ = ⊎_elim (λ w. omega arith) (λ w. omega arith) h in
      rw (ne_eqb state 1 p, ne_eqb state 2 q, ne_eqb state 4 f, ne_eqb state 6 g)

  marked : state ≡ 6 → verdict_of state s ≡ cond (is_event s) Special Malformed
  unfolding verdict_of
  marked e = ap (λ (k : ℕ). verdict_of k s) e

  pub marked-event : state ≡ 6 → is_event s ≡ true → Special ≡ verdict_of state s
  marked-event e h = sym (marked e ∙ rw h)

  pub marked_other : state ≡ 6 → is_event s ≡ false → Malformed ≡ verdict_of state s
  marked_other e h = sym (marked e ∙ rw h)

  relative : state ≡ 4 → verdict_of state s ≡ cond (leb (length s) longest_relative) Relative Malformed
  unfolding verdict_of
  relative e = ap (λ (k : ℕ). verdict_of k s) e

  pub relative-within : state ≡ 4 → length s ≤ longest_relative → Relative ≡ verdict_of state s
  relative-within e h = sym (relative e ∙ rw (le-leb _ _ h))

  pub relative-beyond : state ≡ 4 → longest_relative < length s → Malformed ≡ verdict_of state s
  relative-beyond e h = sym (relative e ∙ rw (lt-leb _ _ h))

absolute : (state : ℕ) (s : Octets) → 1 ≤ state → state < 3 → verdict_of state s ≡ cond (leb (length s) longest_absolute) Absolute Malformed
unfolding verdict_of
absolute zero s a b = absurd (omega arith)
absolute (suc zero) s a b = refl
absolute (suc (suc zero)) s a b = refl
absolute (suc (suc (suc n))) s a b = absurd (omega arith)

pub absolute-within : (state : ℕ) (s : Octets) → 1 ≤ state → state < 3 → length s ≤ longest_absolute → Absolute ≡ verdict_of state s
absolute-within state s a b h = sym (absolute state s a b ∙ rw (le-leb _ _ h))

pub absolute-beyond : (state : ℕ) (s : Octets) → 1 ≤ state → state < 3 → longest_absolute < length s → Malformed ≡ verdict_of state s
absolute-beyond state s a b h = sym (absolute state s a b ∙ rw (lt-leb _ _ h))

pub event-first : (s : Octets) → same s introduce_name ≡ true → true ≡ is_event s
unfolding is_event
event-first s h = rw h

pub event-second : (s : Octets) → same s introduce_name ≡ false → same s release_name ≡ is_event s
unfolding is_event
event-second s h = rw h
