-- No slot before i is the child, so those from i on decide.
use mathlib.Core.Path.{◌≡◌}
use lib.ListN.{drop}
use Rattle.rules.specs.Node.{child, child_from}
use Rattle.rules.specs.Layout.{table_of}
use Rattle.lookup.proofs.reach.child.Given as goal

abbrev pub invariant-loop-i : goal.invariant-loop-i
invariant-loop-i l = child (table_of l.t) l.p l.n ≡ child_from l.p l.n l.i (drop l.i (table_of l.t))
