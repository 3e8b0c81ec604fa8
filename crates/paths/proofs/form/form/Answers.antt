-- The state so far and what is left of the text decide.
use mathlib.Core.Path.{refl, ◌∙◌}
use native.Mathlib.Omega.{arith}
use lib.ListN.{get_or}
use Rattle.paths.proofs.ConstantTables.{classes, classes_small, steps, next_right}
use Rattle.paths.proofs.MachineLaws.{verdict_right, step_small, run_next}
use Rattle.paths.proofs.form.form.Goals as goal

pub loop-b-preserved : goal.loop-b-preserved
unfolding classes steps
loop-b-preserved c =
    let loop = c.loop-b in
    let e = next_right loop.state (get_or c.args.s.now loop.b-index 0) loop.invariant.0 (omega (arith, c.type_inv.s loop.b-index)) in
    (rw e (step_small _ _), loop.invariant.1 ∙ (run_next _ _ _ c.loop-b-test.true ∙ rw e refl))

pub returns : goal.returns
returns c = c.verdict.ensures ∙ verdict_right _ _ _ c.loop-b.invariant.1 c.loop-b-test.false

pub bounds-steps-class : goal.bounds-steps-class
unfolding classes
bounds-steps-class c = classes_small (get_or c.args.s.now c.loop-b.b-index 0) (omega (arith, c.type_inv.s c.loop-b.b-index))
