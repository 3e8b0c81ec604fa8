-- The slots before i reach the root in time, and what is known of them is the length of their ways.
use mathlib.Core.Path.{refl, sym, ◌∙◌}
use native.Mathlib.Omega.{arith}
use Rattle.rules.specs.Size.{slots}
use Rattle.soundness.specs.Walks.{chained}
use Rattle.soundness.proofs.TableLaws.{every_further, every_stop, every-ended, lost_chained, root-chained, root_level, root-count}
use Rattle.soundness.proofs.TableLaws.{unused_chained, levels-set, none_levelled}
use Rattle.soundness.proofs.chain.all_chained.Goals as goal
use Rattle.soundness.proofs.chain.all_chained.Goals.{then-used+in-Some, else-used}

pub loop-i-init : goal.loop-i-init
loop-i-init c = (refl, none_levelled _)

pub returns-in_default : goal.returns-in_default
returns-in_default c =
    every_stop (chained _) slots c.loop-i.i c.loop-i-test.true
    (lost_chained _ _ _ _ _ c.walk.ensures (sym c.used.ensures ∙ c.if-used.true) c.in_default.is)
    ∙ sym c.loop-i.invariant.0

pub overflow_add-known : goal.overflow_add-known
overflow_add-known c = record { fits = omega (arith, root-count _ _ _ _ _ c.walk.ensures _ _ c.in-Some.is) }

pub loop-i-preserved : goal.loop-i-preserved
loop-i-preserved c =
    let loop = c.loop-i in
    let t = c.args.t.now in
    let i = loop.i in
    let h = c.loop-i-test.true in (
      loop.invariant.0
          ∙ every_further (chained t) slots i h
          (elim c.if-used.branch [
            | then-used+in-Some w ↦ root-chained t i _ _ _ w.walk.ensures _ _ w.in-Some.is (sym c.used.ensures ∙ w.if-used.true)
            | else-used w ↦ unused_chained t i (sym c.used.ensures ∙ w.if-used.false)
          ]),
      elim c.if-used.branch [
        | then-used+in-Some w ↦ rw w.known-is (levels-set t loop.known i _ h (root_level t i _ _ _ w.walk.ensures _ _ w.in-Some.is) loop.invariant.1)
        | else-used w ↦ rw w.known-is loop.invariant.1
      ],
    )

pub returns : goal.returns
returns c = every-ended (chained _) slots c.loop-i.i c.loop-i-test.false ∙ sym c.loop-i.invariant.0
