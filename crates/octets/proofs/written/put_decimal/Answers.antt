-- Before each turn the digits from i on are in place, and the i digits before them are those of what is left.
use mathlib.Core.Path.{refl, ap}
use Prim.Native.Nat.{ℕ, ◌+◌}
use native.Mathlib.Omega.{arith}
use lib.ListN.{length-set}
use Rattle.rules.proofs.Decimals.{length-decimal_le}
use Rattle.octets.proofs.Digits.{write-start, write_turn, write-end}
use Rattle.octets.proofs.written.put_decimal.Goals as goal

pub digits-count-requires : goal.digits-count-requires
digits-count-requires c = tt

pub loop-i-init : goal.loop-i-init
loop-i-init c = (omega arith, (refl, write-start _ _ _ _ c.digits-count.ensures))

pub overflow_add-into-in-loop-i : goal.overflow_add-into-in-loop-i
overflow_add-into-in-loop-i c = omega (arith, length-decimal_le c.args.n)

pub bounds-into-at : goal.bounds-into-at
bounds-into-at c = omega (arith, length-decimal_le c.args.n)

pub loop-i-preserved : goal.loop-i-preserved
loop-i-preserved c =
    let p = c.loop-i in
    let small = length-decimal_le c.args.n in
    (omega arith, (simp length-set p.invariant.1.0, write_turn _ _ _ _ _ _ c.loop-i-test.true (omega arith) p.invariant.0 p.invariant.1.1.0 p.invariant.1.1.1))

pub overflow_add-result : goal.overflow_add-result
overflow_add-result c = omega (arith, length-decimal_le c.args.n)

pub shape_of-into : goal.shape_of-into
shape_of-into c = omega arith

pub returns : goal.returns
returns c =
    record {
      bytes = write-end _ _ _ _ _ c.loop-i-test.false c.loop-i.invariant.1.1.1;
      behind = ap (λ (k : ℕ). c.args.at + k) c.digits-count.ensures;
    }
