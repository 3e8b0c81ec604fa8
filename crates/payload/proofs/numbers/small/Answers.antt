-- The range ends below 2 ^ 32, so the number loses nothing.
use native.Mathlib.Omega.{arith}
use mathlib.Core.Path.{sym}
use Rattle.rules.proofs.Decimals.{range_bounds}
use Rattle.payload.proofs.numbers.small.Goals as goal

pub overflow_cast-result : goal.overflow_cast-result
overflow_cast-result c =
    let b = range_bounds _ _ _ _ (sym c.in_ok-number_in.ensures) in
    omega (arith, b.1, c.requires)
