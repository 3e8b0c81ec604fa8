-- The bytes before the turn's are digits, so those from there on decide.
use mathlib.Core.Path.{◌≡◌}
use lib.ListN.{drop}
use Rattle.rules.specs.Octets.{all_digits}
use Rattle.octets.proofs.decimals.all_digits.Given as goal

abbrev pub invariant-loop-c : goal.invariant-loop-c
invariant-loop-c l = all_digits l.s ≡ all_digits (drop l.c-index l.s)
