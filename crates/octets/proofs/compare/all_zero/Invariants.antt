use mathlib.Core.Path.{◌≡◌}
use mathlib.Core.Bool.{◌&&◌}
use lib.Dec.{eqb}
use lib.ListN.{drop}
use Rattle.rules.specs.Octets.{all_zero}
use Rattle.octets.proofs.compare.all_zero.Given as goal

abbrev pub invariant-loop-b : goal.invariant-loop-b
invariant-loop-b l = all_zero l.s ≡ eqb l.all 0 && all_zero (drop l.b-index l.s)
