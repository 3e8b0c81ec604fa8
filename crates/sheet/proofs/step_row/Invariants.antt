-- Each row is written to its end.
use Rattle.std.proofs.Common.{◌≡◌, length}
use Rattle.sheet.proofs.step_row.Given as goal

abbrev pub invariant-loop-class : goal.invariant-loop-class
invariant-loop-class g l = length l.line ≡ 35
