-- What is found so far, and the keys that are left, decide.
use mathlib.Core.Path.{◌≡◌}
use mathlib.Core.Bool.{◌||◌}
use lib.ListN.{drop}
use Rattle.soundness.specs.Keys.{has_key}
use Rattle.soundness.proofs.pairs.has_key.Given as goal

abbrev pub invariant-loop-k : goal.invariant-loop-k
invariant-loop-k l = has_key l.key l.keys ≡ l.found || has_key l.key (drop l.k-index l.keys)
