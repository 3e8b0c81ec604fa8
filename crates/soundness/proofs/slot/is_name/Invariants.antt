-- The bytes passed are a name's, so those to come decide; an empty text is no name.
use mathlib.Core.Path.{◌≡◌}
use lib.ListN.{drop}
use Rattle.rules.specs.Path.{all_bytes}
use Rattle.soundness.proofs.slot.is_name.Given as goal

abbrev pub invariant-loop-b : goal.invariant-loop-b
invariant-loop-b l = all_bytes l.s ≡ all_bytes (drop l.b-index l.s)
