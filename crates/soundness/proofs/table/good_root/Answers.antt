-- The two tests are those of the root: its parent and its owner.
use mathlib.Core.Path.{◌∙◌}
use Rattle.soundness.proofs.TableLaws.{root-parent, root-owner}
use Rattle.soundness.proofs.table.good_root.Goals as goal

pub returns-then-parent-ne0 : goal.returns-then-parent-ne0
returns-then-parent-ne0 c = root-parent _ c.requires _ c.parent.ensures.1 c.if-parent-ne0.true

pub returns : goal.returns
returns c =
    c.is_control.ensures
    ∙ root-owner _ c.requires _ _ c.parent.ensures.1 c.if-parent-ne0.false c.entry_at-owner.ensures.1
