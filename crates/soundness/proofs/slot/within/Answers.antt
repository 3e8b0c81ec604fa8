-- The tests are those of the sizes, in their order.
use Prim.Native.Nat.{ℕ}
use lib.Dec.{leb}
use Rattle.rules.specs.Size.{longest_name, longest_value}
use Rattle.soundness.proofs.Tests.{stop, pass, over, under}
use Rattle.soundness.specs.Parts.{sized}
use borrow.Author.Tests.{le-leb}
use native.Mathlib.Omega.{arith}
use mathlib.Core.Path.{sym, ap, ◌∙◌}
use Rattle.soundness.proofs.slot.within.Goals as goal

pub returns-then-name_length-gt-LONGEST_NAME : goal.returns-then-name_length-gt-LONGEST_NAME
unfolding sized
returns-then-name_length-gt-LONGEST_NAME c = stop _ (over longest_name c.name_length.ensures c.if-name_length-gt-LONGEST_NAME.true)

pub returns-then-value_length-gt-LONGEST_VALUE : goal.returns-then-value_length-gt-LONGEST_VALUE
unfolding sized
returns-then-value_length-gt-LONGEST_VALUE c = pass (under longest_name c.name_length.ensures c.if-name_length-gt-LONGEST_NAME.false)
    (stop _ (over longest_value c.value_length.ensures c.if-value_length-gt-LONGEST_VALUE.true))

pub returns-then-count-eq0 : goal.returns-then-count-eq0
unfolding sized
returns-then-count-eq0 c =
    pass (under longest_name c.name_length.ensures c.if-name_length-gt-LONGEST_NAME.false)
    (pass (under longest_value c.value_length.ensures c.if-value_length-gt-LONGEST_VALUE.false)
    (stop _ (ap (leb 1) (sym c.entry_count-count.ensures ∙ c.if-count-eq0.true))))

pub returns : goal.returns
unfolding sized
returns c =
    pass (under longest_name c.name_length.ensures c.if-name_length-gt-LONGEST_NAME.false)
    (pass (under longest_value c.value_length.ensures c.if-value_length-gt-LONGEST_VALUE.false)
    (pass (ap (leb 1) (sym c.entry_count-count.ensures) ∙ le-leb 1 c.entry_count-count.result (omega arith))
    (ap (λ (n : ℕ). leb n 4) c.entry_count-count.ensures)))
