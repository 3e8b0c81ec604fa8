-- The slot and all below it are marked, and the marked ones freed.
use Rattle.making.proofs.SweptLaws.{swept-removed}
use Rattle.making.proofs.removing.remove.Goals as goal

pub returns : goal.returns
returns c =
    let args = c.args in
    swept-removed args.t.now args.i _ c.marked-marks.ensures c.sweep.ensures
