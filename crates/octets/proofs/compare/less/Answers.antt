-- The first bytes that differ decide; where there are none, the lengths do.
use mathlib.Core.Path.{sym, ◌∙◌}
use mathlib.Core.Logic.{⊎_elim, inl, inr}
use Rattle.octets.proofs.Order.{less_turn, less_first, less_done}
use Rattle.octets.proofs.compare.less.Goals as goal

pub returns-then-x-y : goal.returns-then-x-y
returns-then-x-y c = sym (c.loop-x.invariant.0 ∙ less_first c.in-Some.ensures.steps.0 c.in-Some.ensures.steps.1 c.if-x-y.true)

pub loop-x-preserved : goal.loop-x-preserved
loop-x-preserved c =
    less_turn _ _ c.in-Some.ensures.steps.0 c.in-Some.ensures.steps.1 c.if-x-y.false c.loop-x.invariant.0 c.loop-x.invariant.1

pub returns : goal.returns
returns c =
    sym (c.loop-x.invariant.0 ∙ less_done _ _ _ _ c.loop-x.invariant.1 (⊎_elim (λ x. inl x.1.0) (λ x. inr x.1.0) c.in-None.ensures.steps))
