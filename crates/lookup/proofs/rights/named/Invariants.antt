-- No later entry before k names the domain, so those from k on decide.
use mathlib.Core.Path.{◌≡◌}
use Prim.Native.Nat.{◌≤◌, suc}
use lib.ListN.{length}
use Rattle.rules.specs.Node.{node_at}
use Rattle.rules.specs.Rights.{named}
use Rattle.rules.specs.Layout.{table_of}
use Rattle.lookup.proofs.RightsLaws.{from}
use Rattle.lookup.proofs.rights.named.Given as goal

abbrev pub invariant-loop-k : goal.invariant-loop-k
invariant-loop-k l =
    let others = (node_at (table_of l.t) l.i).others in
    (1 ≤ l.k) × (l.count ≡ suc (length others)) × (named l.domain l.first 1 others ≡ named l.domain l.first l.k (from l.k others))
