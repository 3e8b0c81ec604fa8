-- After i turns the first i of the zeros are in place.
use mathlib.Core.Path.{◌≡◌}
use lib.ListN.{take, replicate}
use Rattle.rules.specs.Octets.{paste}
use Rattle.octets.proofs.parts.clear.Given as goal

abbrev pub invariant-loop-i : goal.invariant-loop-i
invariant-loop-i l = l.into ≡ paste l.at (take l.i (replicate l.n 0)) l.initial.into
