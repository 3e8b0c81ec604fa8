-- A number of two digits or more has one digit more than its tenth.
use native.Mathlib.Omega.{arith}
use Rattle.rules.proofs.Decimals.{length-decimal}
use Rattle.octets.proofs.Digits.{count_turn, count-end}
use Rattle.octets.proofs.written.digits.Goals as goal

pub loop-left-init : goal.loop-left-init
loop-left-init c = (omega arith, (omega arith, omega (arith, length-decimal c.args.n)))

pub loop-left-preserved : goal.loop-left-preserved
loop-left-preserved c =
    let p = c.loop-left in
    count_turn _ _ _ p.invariant.0 p.invariant.1.0 p.invariant.1.1 c.loop-left-test.true

pub returns : goal.returns
returns c =
    let p = c.loop-left in
    count-end _ _ _ p.invariant.0 p.invariant.1.1 c.loop-left-test.false
