-- After k turns the first k names with their nuls stand one behind the other, and the rest of the list has the room that is left.
use mathlib.Core.Path.{◌≡◌}
use Prim.Native.Nat.{◌+◌}
use lib.ListN.{length, take}
use Rattle.rules.specs.Octets.{paste}
use Rattle.rules.specs.Answer.{name_list}
use Rattle.rules.specs.Layout.{table_of}
use Rattle.lookup.proofs.listing.put_names.Given as goal

abbrev pub invariant-loop-i : goal.invariant-loop-i
invariant-loop-i l = (l.into ≡ paste l.at (name_list (table_of l.t) (take l.i-index l.i-items)) l.initial.into)
    × (l.to ≡ l.at + length (name_list (table_of l.t) (take l.i-index l.i-items)))
