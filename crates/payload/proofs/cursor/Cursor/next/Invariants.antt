-- There is no nul from the cursor to i, so the string ends at the first from i on, or there is none.
use mathlib.Core.Path.{◌≡◌}
use lib.ListN.{drop}
use Rattle.rules.specs.Payload.{first_string}
use Rattle.payload.specs.Cursor.{found, taken_at}
use Rattle.payload.proofs.cursor.Cursor.next.Given as goal

abbrev pub invariant-loop-i : goal.invariant-loop-i
invariant-loop-i l = taken_at l.s l.start ≡ found l.s l.start l.i (first_string (drop l.i l.s))
