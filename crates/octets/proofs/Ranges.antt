-- What a decimal's answer says of numbers within a range, and of signed ones.
use mathlib.Core.Path.{◌≡◌, refl, sym, ap, ◌∙◌}
use mathlib.Core.Bool.{Bool, true, false, cond, and-false}
use mathlib.Core.List.{[], ◌∷◌}
use mathlib.Core.Option.{Option, none, some}
use Prim.Native.Nat.{ℕ, suc, ◌-◌, ◌^◌, ◌≤◌, ◌<◌}
use native.Mathlib.Omega.{arith}
use lib.Dec.{ltb}
use lib.ListN.{length, get_or, take, drop}
use lib.Seq.{take_all}
use borrow.Author.Tests.{ltb-false, lt-ltb, le-ltb, le-leb, lt-leb, eq-eqb, ne_eqb}
use Rattle.rules.specs.Octets.{Octets, plain_form, value_from, number, number_in, signed}
use Rattle.rules.proofs.Decimals.{ranged, range_bounds}
use Rattle.std.specs.Prelude.{Result, Ok, Err, Some}
use Rattle.std.specs.Prelude as code
use Rattle.octets.specs.Numbers.{decimal_of, within}
use Rattle.octets.specs.Options.{meant}
use Rattle.octets.specs.declared.DecimalError.{DecimalError}
use Rattle.octets.specs.declared.DecimalError.TheVariants.{Malformed, TooLarge}

-- ── a decimal's answer ──

pub malformed : (s : Octets) → plain_form s ≡ false → Err Malformed ≡ decimal_of s
unfolding decimal_of
malformed s e = rw e refl

pub large : (s : Octets) → plain_form s ≡ true → 2 ^ 64 ≤ value_from 0 s → Err TooLarge ≡ decimal_of s
unfolding decimal_of
large s e h = rw (e, le-ltb (value_from 0 s) (2 ^ 64) h) refl

pub valued : (s : Octets) (n : ℕ) → plain_form s ≡ true → n ≡ value_from 0 s → n < 2 ^ 64 → Ok n ≡ decimal_of s
unfolding decimal_of
valued s n e v h = rw (e, ← v, lt-ltb n (2 ^ 64) h) refl

-- ── within a range ──

abbrev pub in_range : ℕ → ℕ → Result ℕ DecimalError → Option ℕ
in_range low high (Ok n) = within low high n
in_range low high (Err e) = none

pub below : (low high n : ℕ) → n < low → none ≡ within low high n
below low high n h = rw (lt-leb low n h) refl

pub above : (low high n : ℕ) → high < n → none ≡ within low high n
above low high n h = rw (lt-leb n high h, and-false) refl

pub inside : (low high n : ℕ) → low ≤ n → n ≤ high → some n ≡ within low high n
inside low high n h k = rw (le-leb low n h, le-leb n high k) refl

-- a number within 64 bits is told by the decimal's answer
pub in_range_lem : (low high : ℕ) (s : Octets) → high < 2 ^ 64 → number_in low high s ≡ in_range low high (decimal_of s)
unfolding number_in number decimal_of
in_range_lem low high s h = by (plain_form s)
  where
    valued_by : (t : Bool) → ltb (value_from 0 s) (2 ^ 64) ≡ t →
        within low high (value_from 0 s) ≡ in_range low high (cond t (Ok (value_from 0 s)) (Err TooLarge))
    valued_by true e = refl
    valued_by false e = sym (above low high (value_from 0 s) (omega (arith, ltb-false (value_from 0 s) (2 ^ 64) e)))

    by : (t : Bool) →
        ranged low high (cond t (some (value_from 0 s)) none)
        ≡ in_range low high (cond t (cond (ltb (value_from 0 s) (2 ^ 64)) (Ok (value_from 0 s)) (Err TooLarge)) (Err Malformed))
    by true = valued_by (ltb (value_from 0 s) (2 ^ 64)) refl
    by false = refl

pub told : (low high : ℕ) (s : Octets) (d e : Result ℕ DecimalError) → high < 2 ^ 64 → d ≡ decimal_of s → d ≡ e → number_in low high s ≡ in_range low high e
told low high s d e h p q = in_range_lem low high s h ∙ ap (in_range low high) (sym p ∙ q)

-- ── signed ──

abbrev pub negated : Option ℕ → Option ℕ
negated none = none
negated (some n) = some (2 ^ 64 - n)

pub signed_nothing : (s : Octets) → length s ≡ 0 → none ≡ signed s
unfolding signed
signed_nothing [] h = refl
signed_nothing (c ∷ cs) h = absurd (omega arith)

pub signed_plus : (s : Octets) → (length s ≡ 0 → ⊥) → (get_or s 0 0 ≡ 45 → ⊥) → signed s ≡ number_in 0 (2 ^ 63 - 1) s
unfolding signed
signed_plus [] h n = absurd (h refl)
signed_plus (c ∷ cs) h n = rw (ne_eqb c 45 n) refl

pub signed_minus : (s : Octets) → (length s ≡ 0 → ⊥) → get_or s 0 0 ≡ 45 → signed s ≡ negated (number_in 1 (2 ^ 63) (take (length s - 1) (drop 1 s)))
unfolding signed
signed_minus [] h e = absurd (h refl)
signed_minus (c ∷ cs) h e = rw (eq-eqb c 45 e, take_all (suc (length cs) - 1) cs (omega arith)) refl

-- what stands behind a minus sign, and lies in the range, is negated
pub signed-told : (s : Octets) (r e : code.Option ℕ) → (length s ≡ 0 → ⊥) → get_or s 0 0 ≡ 45 →
    meant r ≡ number_in 1 (2 ^ 63) (take (length s - 1) (drop 1 s)) → r ≡ e → signed s ≡ negated (meant e)
signed-told s r e h k p q = signed_minus s h k ∙ ap negated (sym p ∙ ap meant q)

pub minus_bounds : (s : Octets) (r : code.Option ℕ) (n : ℕ) → meant r ≡ number_in 1 (2 ^ 63) s → r ≡ Some n → (1 ≤ n) × (n ≤ 2 ^ 63)
minus_bounds s r n p q = range_bounds 1 (2 ^ 63) s n (sym p ∙ ap meant q)
