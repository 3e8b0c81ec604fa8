-- From the topmost created parent down the events are recorded one after the other, and the path's own at last.
use Prim.Native.Nat.{◌-◌}
use Rattle.rules.specs.Layout.{table_of, watches_of}
use Rattle.events.proofs.Levels.{Told}
use Rattle.events.proofs.changes.change.Given as goal

abbrev pub invariant-loop-levels : goal.invariant-loop-levels
invariant-loop-levels l =
    Told (table_of l.before) (table_of l.after) (watches_of l.watches) l.removed l.parents l.changed l.n l.initial.events l.events (l.levels - 1) l.count
