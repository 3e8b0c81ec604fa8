-- From the topmost created parent down the events are recorded one after the other.
use mathlib.Core.Bool.{false}
use Prim.Native.Nat.{◌-◌}
use Rattle.rules.specs.Layout.{table_of, watches_of}
use Rattle.events.proofs.Levels.{Told}
use Rattle.events.proofs.changes.created.Given as goal

abbrev pub invariant-loop-levels : goal.invariant-loop-levels
invariant-loop-levels l =
    Told (table_of l.after) (table_of l.after) (watches_of l.watches) false l.parents l.path 0 l.initial.events l.events (l.levels - 1) l.n
