-- The entries of the strings passed, and those of the strings to come, are the entries of all.
use mathlib.Core.Path.{◌≡◌}
use Prim.Native.Nat.{◌≤◌, ◌-◌}
use lib.ListN.{length, drop}
use Rattle.rules.specs.Payload.{strings}
use Rattle.payload.specs.Answers.{no_entries, added_to, entries_in}
use Rattle.payload.proofs.entries.permissions.Given as goal

abbrev pub invariant-loop-start : goal.invariant-loop-start
invariant-loop-start l =
    (l.entries.count ≤ l.cursor.at) × (l.cursor.at ≤ length l.s)
    × (added_to no_entries (entries_in (strings (drop l.initial.cursor.at l.s))) ≡ added_to l.entries (entries_in (strings (drop l.cursor.at l.s))))

abbrev pub decreases-loop-start : goal.decreases-loop-start
decreases-loop-start l = length l.s - l.cursor.at
