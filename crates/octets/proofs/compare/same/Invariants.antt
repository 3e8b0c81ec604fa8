-- The xor of two bytes is 0 where they agree, and the or of the xors is 0 where all of them do; texts of two lengths differ.
use mathlib.Core.Path.{◌≡◌}
use mathlib.Core.Bool.{◌&&◌}
use lib.Dec.{eqb}
use lib.ListN.{drop}
use Rattle.rules.specs.Octets.{same}
use Rattle.octets.proofs.compare.same.Given as goal

abbrev pub invariant-loop-i : goal.invariant-loop-i
invariant-loop-i l = same l.a l.b ≡ eqb l.differ 0 && same (drop l.i l.a) (drop l.i l.b)
