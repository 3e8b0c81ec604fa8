-- The copy's bytes become the node table, and the records are those of its changes between the two.
use mathlib.Core.Path.{ap}
use Rattle.std.specs.Prelude.{Ok}
use Rattle.handlers.proofs.EndLaws.{committing_stores, copy-fits, commit_handled}
use Rattle.handlers.proofs.transacting.commit.Goals as goal

pub changes-n-requires : goal.changes-n-requires
changes-n-requires c =
    let pre = c.requires in
    (committing_stores _ _ _ _ _ _ pre.0 _ pre.1, pre.1, pre.0.good _ pre.1, pre.0.room)

pub copy-requires : goal.copy-requires
copy-requires c =
    let pre = c.requires in
    copy-fits _ _ _ _ _ _ pre.0 _ pre.1

pub returns : goal.returns
returns c =
    let pre = c.requires in
    λ w l events. commit_handled _ _ _ _ _ _ pre.0 _ pre.1 _
    c.copy.ensures w l.nodes l.copies l.watches
    l.transactions
    _ _ _ _ _ _ c.close_committed.ensures c.changes-n.ensures
    c.okay.ensures (ap Ok c.with_events.ensures)
