-- The last four bits of the first byte say how many.
use Rattle.transactions.proofs.Laws.{changes-read, open_fits}
use Rattle.transactions.proofs.places.changes.Goals as goal

pub returns : goal.returns
returns c =
    let s = c.args.s.now in
    let k = c.args.k in
    let pre = c.requires in
    let e = changes-read s k pre.below pre.kept pre.used in
    (e, rw e (open_fits s k pre.below pre.used).few)
