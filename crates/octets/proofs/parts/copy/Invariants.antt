-- After i turns the first i bytes of the text are in place.
use mathlib.Core.Path.{◌≡◌}
use lib.ListN.{take}
use Rattle.rules.specs.Octets.{paste}
use Rattle.octets.proofs.parts.copy.Given as goal

abbrev pub invariant-loop-i : goal.invariant-loop-i
invariant-loop-i l = l.into ≡ paste l.at (take l.i l.from) l.initial.into
