-- After i turns the records are those of the first i removals; there are no more removals than places for records.
use mathlib.Core.List.{map}
use lib.ListN.{take}
use Rattle.rules.specs.Event.{heard_change}
use Rattle.rules.specs.Layout.{table_of, watches_of}
use Rattle.events.specs.Stores.{removal_of}
use Rattle.events.proofs.Entering.{Entered}
use Rattle.events.proofs.changes.removals.Given as goal

abbrev pub invariant-loop-slot : goal.invariant-loop-slot
invariant-loop-slot l =
    Entered (heard_change (table_of l.before) (table_of l.after) (watches_of l.watches)) 1 (map (removal_of (table_of l.before)) (take l.count l.list)) 0
    l.initial.events l.events l.slot-index l.n
