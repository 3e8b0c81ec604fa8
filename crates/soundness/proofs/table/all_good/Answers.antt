-- The slots before i are good, so those from i on decide.
use mathlib.Core.Path.{sym, ◌∙◌}
use Rattle.rules.specs.Size.{slots}
use Rattle.soundness.specs.Parts.{good_slot}
use Rattle.soundness.proofs.TableLaws.{every_further, every_stop, every-ended}
use Rattle.soundness.proofs.table.all_good.Goals as goal

pub returns-then-not-good_slot : goal.returns-then-not-good_slot
returns-then-not-good_slot c = every_stop (good_slot _) slots c.loop-i.i c.loop-i-test.true
    (sym c.good_slot.ensures ∙ c.if-not-good_slot.true) ∙ sym c.loop-i.invariant

pub loop-i-preserved : goal.loop-i-preserved
loop-i-preserved c =
    c.loop-i.invariant ∙ every_further (good_slot _) slots c.loop-i.i
    c.loop-i-test.true (sym c.good_slot.ensures ∙ c.if-not-good_slot.false)

pub returns : goal.returns
returns c = every-ended (good_slot _) slots c.loop-i.i c.loop-i-test.false ∙ sym c.loop-i.invariant
