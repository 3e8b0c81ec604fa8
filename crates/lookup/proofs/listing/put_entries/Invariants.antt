-- After k turns the texts of the first k entries stand one behind the other; there are four at most and each is short, so there is room.
use mathlib.Core.Path.{◌≡◌}
use Prim.Native.Nat.{suc}
use lib.ListN.{length}
use Rattle.rules.specs.Node.{node_at}
use Rattle.rules.specs.Layout.{table_of}
use Rattle.lookup.proofs.ListingLaws.{Written}
use Rattle.lookup.proofs.listing.put_entries.Given as goal

abbrev pub invariant-loop-k : goal.invariant-loop-k
invariant-loop-k l = (l.count ≡ suc (length (node_at (table_of l.t) l.i).others)) × Written l.t l.i l.at l.initial.into l.k l.into l.to
