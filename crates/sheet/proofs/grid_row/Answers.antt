-- Each row is written to its end.
use Rattle.std.proofs.Common.{◌<◌, arith}
use Rattle.paths.proofs.ClassLaws.{class_small}
use Rattle.sheet.proofs.grid_row.Goals as goal

pub overflow_add-line : goal.overflow_add-line
overflow_add-line g c = let h : c.class_of.result < 5 = rw c.class_of.ensures (class_small _) in omega arith
