-- A name ends at each slash and at the end of the text.
use mathlib.Core.Path.{◌≡◌}
use Prim.Native.Nat.{◌+◌, ◌≤◌}
use lib.ListN.{length, drop}
use Rattle.rules.specs.Path.{split}
use Rattle.nodes.proofs.changing.names_left.Given as goal

abbrev pub invariant-loop-i : goal.invariant-loop-i
invariant-loop-i l = (l.i ≤ length l.path) × (l.n ≤ l.i + 1) × (l.n + length (split (drop l.i l.path)) ≡ length (split (drop l.at l.path)) + 1)
