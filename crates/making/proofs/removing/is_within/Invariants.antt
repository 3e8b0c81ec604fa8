-- A slot lies below another where it is met on the way up, which is as long as a path at most.
use mathlib.Core.Path.{◌≡◌}
use Prim.Native.Nat.{◌-◌, ◌<◌}
use Rattle.rules.specs.Layout.{table_of}
use Rattle.rules.specs.Node.{within}
use Rattle.rules.specs.Size.{slots, deepest}
use Rattle.making.proofs.removing.is_within.Given as goal

abbrev pub invariant-loop : goal.invariant-loop
invariant-loop l = (l.at < slots) × (within deepest (table_of l.t) l.i l.j ≡ within (deepest - l.counter) (table_of l.t) l.i l.at)
