-- After i turns n is the value of the first i digits, which is below 10 ^ i and so within 64 bits.
use mathlib.Core.Path.{◌≡◌}
use Prim.Native.Nat.{◌<◌, ◌^◌}
use lib.ListN.{drop}
use Rattle.rules.specs.Octets.{value_from}
use Rattle.octets.proofs.decimals.value.Given as goal

abbrev pub invariant-loop-c : goal.invariant-loop-c
invariant-loop-c l = (l.n < 10 ^ l.c-index) × (value_from 0 l.s ≡ value_from l.n (drop l.c-index l.s))
