-- What is left of both decides; as much of one has gone by as of the other.
use mathlib.Core.Path.{◌≡◌}
use Prim.Native.Nat.{◌+◌}
use lib.ListN.{length}
use Rattle.rules.specs.Octets.{less}
use Rattle.octets.proofs.compare.less.Given as goal

abbrev pub invariant-loop-x : goal.invariant-loop-x
invariant-loop-x l = (less l.a l.b ≡ less l.x-iterator.a.rest.now l.x-iterator.b.rest.now)
    × (length l.a + length l.x-iterator.b.rest.now ≡ length l.b + length l.x-iterator.a.rest.now)
