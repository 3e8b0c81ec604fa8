-- The slots before the one in turn are removed; the rest of the list is still to be.
use mathlib.Core.Path.{◌∙◌}
use native.Mathlib.Omega.{arith}
use Rattle.making.proofs.SweptLaws.{removed_next, removed-all}
use Rattle.making.proofs.removing.remove_all.Goals as goal

pub loop-i-preserved : goal.loop-i-preserved
loop-i-preserved c =
    let turn = c.loop-i in
    (c.remove.auto.t ∙ turn.invariant.0, removed_next _ _ turn.i-index _ turn.invariant.1 (omega arith) c.remove.ensures)

pub returns : goal.returns
returns c =
    let turn = c.loop-i in
    removed-all _ _ turn.i-index _ turn.invariant.1 (omega arith)
