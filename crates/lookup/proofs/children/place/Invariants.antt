-- None of the names before k comes after the slot's own, so it goes in before the first that does, or behind all.
use mathlib.Core.Path.{◌≡◌}
use mathlib.Core.List.{◌++◌}
use lib.ListN.{take, drop}
use Rattle.rules.specs.Node.{insert}
use Rattle.rules.specs.Layout.{table_of}
use Rattle.lookup.proofs.children.place.Given as goal

abbrev pub invariant-loop-k : goal.invariant-loop-k
invariant-loop-k l =
    insert (table_of l.t) l.j (take l.n l.list) ≡ take l.k (take l.n l.list) ++ insert (table_of l.t) l.j (drop l.k (take l.n l.list))
