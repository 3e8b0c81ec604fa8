-- The marked slots before the one in turn are freed, the others as they were.
use mathlib.Core.Path.{◌≡◌}
use lib.ListN.{length, take}
use Rattle.rules.specs.Layout.{table_of, table_bytes}
use Rattle.making.specs.Marks.{swept}
use Rattle.making.proofs.removing.sweep.Given as goal

abbrev pub invariant-loop-j : goal.invariant-loop-j
invariant-loop-j l = (length l.t ≡ length l.initial.t) × (l.t ≡ table_bytes (swept (take l.j l.marks) (table_of l.initial.t)))
