-- Each row is written to its end.
use Rattle.std.proofs.Common.{◌<◌, arith}
use Rattle.paths.proofs.MachineLaws.{step_small}
use Rattle.sheet.proofs.step_row.Goals as goal

pub overflow_add-line : goal.overflow_add-line
overflow_add-line g c = let h : c.step.result < 8 = rw c.step.ensures (step_small _ _) in omega arith
