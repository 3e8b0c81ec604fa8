-- After k turns the sum is the length of the first k names with their nuls, and each is short.
use mathlib.Core.Path.{◌≡◌}
use Prim.Native.Nat.{◌*◌, ◌≤◌}
use lib.ListN.{length, take}
use Rattle.rules.specs.Answer.{name_list}
use Rattle.rules.specs.Layout.{table_of}
use Rattle.lookup.proofs.listing.names_length.Given as goal

abbrev pub invariant-loop-i : goal.invariant-loop-i
invariant-loop-i l = (l.sum ≤ 33 * l.i-index) × (l.sum ≡ length (name_list (table_of l.t) (take l.i-index l.i-items)))
