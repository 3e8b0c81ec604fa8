-- The payload is two strings, of which the first is a path or an event's name.
use mathlib.Core.Path.{sym, ◌∙◌}
use native.Mathlib.Omega.{arith}
use Rattle.payload.proofs.PartsLaws.{TwoStrings, two_told}
use Rattle.payload.proofs.WatchLaws.{unwatch_other, unwatch_not, unwatch_means}
use Rattle.payload.proofs.watch.unwatch.Goals as goal
use Rattle.payload.proofs.watch.unwatch.Goals.{In-Two}

two : (c : In-Two) → TwoStrings c.args.s.now c.in-Two.a c.in-Two.b
two c = two_told _ _ _ (sym c.apart.ensures ∙ c.in-Two.is)

pub returns-in_default : goal.returns-in_default
returns-in_default c = unwatch_other _ (λ a b h. c.in_default.not-Two a b (c.apart.ensures ∙ h))

pub placed-requires : goal.placed-requires
placed-requires c = let t = two (goal.at.placed-requires c).In-Two in omega arith

pub returns-in_err-placed : goal.returns-in_err-placed
returns-in_err-placed c =
    rw c.from_residual.ensures (unwatch_not _ _ (sym c.in_err-placed.ensures) _ (two (goal.at.returns-in_err-placed c).In-Two).all)

pub overflow_add-result : goal.overflow_add-result
overflow_add-result c =
    let t = two (goal.at.overflow_add-result c).In-Two in
    omega (arith, c.well_formed)

pub returns : goal.returns
returns c =
    let t = two (goal.at.returns c).In-Two in
    unwatch_means _ _ _ _ t.low t.high (sym c.in_ok-placed.ensures) t.all
