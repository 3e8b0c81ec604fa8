-- The slots before the one in turn are removed; the rest of the list is still to be.
use mathlib.Core.Path.{◌≡◌}
use lib.ListN.{length}
use Rattle.rules.specs.Layout.{table_of}
use Rattle.rules.specs.Node.{without_all}
use Rattle.making.proofs.SweptLaws.{ToRemove}
use Rattle.making.proofs.removing.remove_all.Given as goal

abbrev pub invariant-loop-i : goal.invariant-loop-i
invariant-loop-i l = (length l.t ≡ length l.initial.t) × ToRemove l.i-items (without_all (table_of l.initial.t) l.i-items) l.i-index l.t
