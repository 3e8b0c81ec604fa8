-- The names passed lead from the root to the slot, so the names left lead on from there.
use mathlib.Core.Path.{◌≡◌}
use mathlib.Core.Bool.{true}
use Prim.Native.Nat.{◌<◌, ◌-◌}
use lib.ListN.{length}
use Rattle.rules.specs.Size.{slots}
use Rattle.rules.specs.Path.{all_names, names_in}
use Rattle.rules.specs.Node.{reach, reach_from}
use Rattle.rules.specs.Layout.{table_of}
use Rattle.slots.specs.Slot.{slot_at, is_used}
use Rattle.slots.specs.Left.{left_at}
use Rattle.lookup.proofs.reach.reach.Given as goal

abbrev pub invariant-loop-at : goal.invariant-loop-at
invariant-loop-at l =
    (l.slot < slots) × (is_used (slot_at l.t l.slot) ≡ true) × (all_names (left_at l.path l.at) ≡ true)
    × (reach (table_of l.t) (names_in l.path) ≡ reach_from (left_at l.path l.at) (table_of l.t) l.slot)

abbrev pub decreases-loop-at : goal.decreases-loop-at
decreases-loop-at l = length l.path - l.at
