-- A full path other than the root has a slash before each name; those passed are counted, and those to come come to them.
use mathlib.Core.Path.{◌≡◌}
use Prim.Native.Nat.{◌≤◌}
use lib.ListN.{drop}
use Rattle.paths.proofs.PieceLaws.{slashes}
use Rattle.paths.proofs.names.depth.Given as goal

abbrev pub invariant-loop-b : goal.invariant-loop-b
invariant-loop-b l = (l.levels ≤ l.b-index) × (slashes 0 l.s ≡ slashes l.levels (drop l.b-index l.s))
