-- After j turns the records are those of the first j changes; a change makes a record a level at most, so there is room for all.
use mathlib.Core.Path.{◌≡◌}
use Prim.Native.Nat.{◌≤◌}
use lib.ListN.{length}
use Rattle.rules.specs.Size.{most_changes, deepest}
use Rattle.rules.specs.Event.{heard_change}
use Rattle.rules.specs.Layout.{table_of, watches_of}
use Rattle.transactions.specs.Transaction.{transaction_of}
use Rattle.events.proofs.Entering.{Entered}
use Rattle.events.proofs.changes.changes.Given as goal

abbrev pub invariant-loop-j : goal.invariant-loop-j
invariant-loop-j l =
    (l.count ≡ length (transaction_of l.transactions l.k).changes)
    × (l.count ≤ most_changes)
    × Entered (heard_change (table_of l.before) (table_of l.after) (watches_of l.watches)) deepest (transaction_of l.transactions l.k).changes 0
    l.initial.events l.events l.j l.n
