-- The classes against the rule book: a name has letters, digits and `@`.
use mathlib.Core.Path.{◌≡◌, refl, ap, sym, ◌∙◌}
use mathlib.Core.Bool.{Bool, true, false, cond, ◌&&◌, ◌||◌, or-true}
use Prim.Native.Nat.{ℕ, ◌<◌}
use native.Mathlib.Omega.{arith}
use lib.Dec.{eqb, leb}
use borrow.Author.Tests.{eqb-true}
use Rattle.rules.specs.Octets.{is_digit}
use Rattle.rules.specs.Path.{name_byte}
use Rattle.paths.specs.Classes.{class_of, is_letter}
use Rattle.paths.specs.Machine.{of_name}

pick : Bool → Bool → Bool → Bool → ℕ
pick l d s a = cond l 0 (cond d 1 (cond s 2 (cond a 3 4)))

pick_small : (l d s a : Bool) → pick l d s a < 5
unfolding pick
pick_small true d s a = omega arith
pick_small false true s a = omega arith
pick_small false false true a = omega arith
pick_small false false false true = omega arith
pick_small false false false false = omega arith

pick_name : (l d s a : Bool) → (s ≡ true → a ≡ false) → (l || (d || a)) ≡ of_name (pick l d s a)
unfolding pick of_name
pick_name true d s a h = refl
pick_name false true s a h = refl
pick_name false false true a h = h refl
pick_name false false false true h = refl
pick_name false false false false h = refl

pick_slash : (l d s a : Bool) → (s ≡ true → (l || d) ≡ false) → s ≡ eqb (pick l d s a) 2
unfolding pick
pick_slash true d true a h = h refl
pick_slash true d false a h = refl
pick_slash false true true a h = h refl
pick_slash false true false a h = refl
pick_slash false false true a h = refl
pick_slash false false false true h = refl
pick_slash false false false false h = refl

pick_at : (l d s a : Bool) → (a ≡ true → (l || (d || s)) ≡ false) → a ≡ eqb (pick l d s a) 3
unfolding pick
pick_at true d s true h = h refl
pick_at true d s false h = refl
pick_at false true s true h = h refl
pick_at false true s false h = refl
pick_at false false true true h = h refl
pick_at false false true false h = refl
pick_at false false false true h = refl
pick_at false false false false h = refl

regroup : (a b d e f h : Bool) → (a || (b || (d || (e || (f || h))))) ≡ ((a || (b || (e || f))) || (d || h))
regroup true b d e f h = refl
regroup false true d e f h = refl
regroup false false true e f h = sym (or-true (e || f))
regroup false false false true f h = refl
regroup false false false false f h = refl

name-parts : (c : ℕ) → name_byte c ≡ (is_letter c || (is_digit c || eqb c 64))
unfolding name_byte is_letter is_digit
name-parts c = regroup (leb 97 c && leb c 122) (leb 65 c && leb c 90) (leb 48 c && leb c 57) (eqb c 45) (eqb c 95) (eqb c 64)

pub class_small : (c : ℕ) → class_of c < 5
unfolding class_of pick
class_small c = pick_small (is_letter c) (is_digit c) (eqb c 47) (eqb c 64)

-- a name's bytes are those whose class is letter, digit or `@`
pub class_name : (c : ℕ) → name_byte c ≡ of_name (class_of c)
unfolding class_of pick
class_name c =
    name-parts c
    ∙ pick_name (is_letter c) (is_digit c) (eqb c 47) (eqb c 64) (λ e. ap (λ (k : ℕ). eqb k 64) (eqb-true c 47 e))

pub class_slash : (c : ℕ) → eqb c 47 ≡ eqb (class_of c) 2
unfolding class_of pick is_letter is_digit
class_slash c =
    pick_slash (is_letter c) (is_digit c) (eqb c 47) (eqb c 64) (λ e. ap (λ (k : ℕ). is_letter k || is_digit k) (eqb-true c 47 e))

pub class_at : (c : ℕ) → eqb c 64 ≡ eqb (class_of c) 3
unfolding class_of pick is_letter is_digit
class_at c =
    pick_at (is_letter c) (is_digit c) (eqb c 47) (eqb c 64)
    (λ e. ap (λ (k : ℕ). is_letter k || (is_digit k || eqb k 47)) (eqb-true c 64 e))
