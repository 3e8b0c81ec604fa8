-- The state so far and what is left of the text decide.
use mathlib.Core.Path.{◌≡◌}
use Prim.Native.Nat.{◌<◌}
use lib.ListN.{drop}
use Rattle.paths.specs.Machine.{run}
use Rattle.paths.proofs.form.form.Given as goal

abbrev pub invariant-loop-b : goal.invariant-loop-b
invariant-loop-b l = (l.state < 8) × (run 0 l.s ≡ run l.state (drop l.b-index l.s))
