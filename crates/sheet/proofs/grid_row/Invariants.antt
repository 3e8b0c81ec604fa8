-- Each row is written to its end.
use Rattle.std.proofs.Common.{◌≡◌, length}
use Rattle.sheet.proofs.grid_row.Given as goal

abbrev pub invariant-loop-low : goal.invariant-loop-low
invariant-loop-low g l = length l.line ≡ 56
