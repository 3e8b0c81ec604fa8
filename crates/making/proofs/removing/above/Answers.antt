-- A free slot is read as the root, whose parent is slot 0.
use mathlib.Core.Path.{sym, ◌∙◌}
use native.Mathlib.Omega.{arith}
use Rattle.making.proofs.WithinLaws.{free_parent}
use Rattle.making.proofs.removing.above.Goals as goal

pub returns : goal.returns
returns c =
    (omega arith, free_parent _ c.args.i (sym c.used.ensures ∙ c.if-used.false))
