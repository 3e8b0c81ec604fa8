-- After i turns n is the value of the first i digits, which is below 10 ^ i and so within 64 bits.
use mathlib.Core.Path.{refl, ◌∙◌}
use native.Mathlib.Omega.{arith}
use Rattle.rules.proofs.Decimals.{value_next, ten_more}
use Rattle.octets.proofs.Digits.{read_digit, value-end}
use Rattle.octets.proofs.decimals.value.Goals as goal

pub loop-c-init : goal.loop-c-init
loop-c-init c = (omega arith, refl)

pub overflow_sub-digit : goal.overflow_sub-digit
overflow_sub-digit c = omega (arith, read_digit _ _ _ c.requires.0 c.loop-c-test.true c.requires.1 c.loop-c.invariant.0)

pub overflow_mul-n : goal.overflow_mul-n
overflow_mul-n c = omega (arith, read_digit _ _ _ c.requires.0 c.loop-c-test.true c.requires.1 c.loop-c.invariant.0)

pub overflow_cast-n : goal.overflow_cast-n
overflow_cast-n c = omega (arith, read_digit _ _ _ c.requires.0 c.loop-c-test.true c.requires.1 c.loop-c.invariant.0)

pub overflow_add-n : goal.overflow_add-n
overflow_add-n c = omega (arith, read_digit _ _ _ c.requires.0 c.loop-c-test.true c.requires.1 c.loop-c.invariant.0)

pub loop-c-preserved : goal.loop-c-preserved
loop-c-preserved c =
    let p = c.loop-c in (
      ten_more p.c-index p.invariant.0 (omega (arith, read_digit _ _ _ c.requires.0 c.loop-c-test.true c.requires.1 c.loop-c.invariant.0)),
      p.invariant.1 ∙ value_next _ _ p.c-index c.loop-c-test.true,
    )

pub returns : goal.returns
returns c = value-end _ _ _ _ c.loop-c-test.false c.loop-c.invariant.1
