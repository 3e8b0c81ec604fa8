-- Of two siblings with one name the later finds the earlier's key among those met, so no pair that is passed over has one name.
use mathlib.Core.Path.{◌≡◌}
use mathlib.Core.Bool.{true}
use Rattle.soundness.proofs.PairLaws.{Taken, Keyed, Apart, Row}
use Rattle.soundness.proofs.pairs.all_distinct.Given as goal

abbrev pub invariant-loop-j : goal.invariant-loop-j
invariant-loop-j l = (l.apart ≡ true) × Row l.t l.i l.j

abbrev pub invariant-pairs : goal.invariant-pairs
invariant-pairs l = (l.apart ≡ true) × Keyed l.t l.keys l.i × Apart l.t l.i × Taken l.t l.taken l.i
