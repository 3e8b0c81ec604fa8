-- From the front one name after the other is passed, until those that lie above are.
use Rattle.paths.proofs.AboveLaws.{Passed}
use Rattle.paths.proofs.names.above.Given as goal

abbrev pub invariant-loop : goal.invariant-loop
invariant-loop l = Passed l.s l.k l.at l.counter
