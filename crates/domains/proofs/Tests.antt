-- Tests of two things, and what a choice between an entry and none says.
use mathlib.Core.Path.{◌≡◌, refl, sym, ap, ◌∙◌}
use mathlib.Core.Bool.{Bool, true, false, cond, ◌&&◌}
use mathlib.Core.Option.{Option, none, some}
use Prim.Native.Nat.{ℕ}
use native.Mathlib.Omega.{arith}
use lib.Dec.{eqb}
use Rattle.std.specs.Prelude as code
use Rattle.octets.specs.Options.{meant}
use borrow.Author.Tests.{eqb-true, eqb-false}
use Rattle.domains.specs.Entry.{taken, entry_or}

pub taken-cond : {A : Type 0} (b : Bool) (x : A) → taken (cond b (some x) none) ≡ b
unfolding taken
taken-cond true x = refl
taken-cond false x = refl

-- the entry of a place that is taken
pub entry_is : {A : Type 0} (b : Bool) (x stand : A) {m : Option A} → m ≡ cond b (some x) none → taken m ≡ true → entry_or stand m ≡ x
unfolding entry_or
entry_is b x stand e t = rw (e, sym (taken-cond b x) ∙ ap taken (sym e) ∙ t)

-- what the code's options mean, by a test
pub given-some : {A : Type 0} (stand : A) (d : code.Option A) → code.is_some d ≡ true → meant d ≡ some (code.unwrap_or d stand)
given-some stand (code.Some x) e = refl
given-some stand code.None e = let z : ◌≡◌ {A = ℕ} 0 1 = cc in absurd (omega arith)

pub given-none : {A : Type 0} (d : code.Option A) → code.is_some d ≡ false → meant d ≡ none
given-none (code.Some x) e = let z : ◌≡◌ {A = ℕ} 0 1 = cc in absurd (omega arith)
given-none code.None e = refl

-- what a test of a text's length says
pub empty_is : {n : ℕ} {b : Bool} → b ≡ eqb n 0 → b ≡ true → n ≡ 0
empty_is e t = eqb-true _ 0 (sym e ∙ t)

pub filled_is : {n : ℕ} {b : Bool} → b ≡ eqb n 0 → b ≡ false → n ≡ 0 → ⊥
filled_is e f = eqb-false _ 0 (sym e ∙ f)

-- what a test of two things is, by the first
pub and_first : (p q : Bool) → p ≡ false → (p && q) ≡ false
and_first p q h = rw h

pub and_rest : (p q : Bool) → p ≡ true → (p && q) ≡ q
and_rest p q h = rw h
