-- A place whose first byte is below 128 is free, and those before it are not.
use Rattle.octets.proofs.PlaceLaws.{Searched}
use Rattle.octets.proofs.places.lowest_free.Given as goal

abbrev pub invariant-loop-i : goal.invariant-loop-i
invariant-loop-i l = Searched l.s l.size l.count l.i
