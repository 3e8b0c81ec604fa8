-- An absolute path is the text of its names already.
use mathlib.Core.Path.{sym}
use Rattle.handlers.proofs.Ways.{handled_as}
use Rattle.requests.proofs.PlaceLaws.{path-long, absolute-names}
use Rattle.requests.proofs.NodeLaws.{asking_of_lem, asked-names}
use Rattle.requests.proofs.node.node_request.Goals as goal

pub slice_bounds-asked-end : goal.slice_bounds-asked-end
slice_bounds-asked-end c =
    sym (path-long c.args.s.now c.args.path c.args.sender.domain c.requires.2.path)

pub asked-requires : goal.asked-requires
asked-requires c =
    let a = c.args in
    let p = c.requires in
    let own = absolute-names a.s.now a.path a.sender.domain p.2.path c.in-Absolute.is in
    (p.0, p.4, asking_of_lem _ _ a.path p.2 _ _ (sym own) p.1)

pub returns-in-Absolute : goal.returns-in-Absolute
returns-in-Absolute c =
    let a = c.args in
    let p = c.requires in
    let own = absolute-names a.s.now a.path a.sender.domain p.2.path
    c.in-Absolute.is in
    λ w l e. handled_as (asked-names _ _ a.path p.2 _ _ (sym own) w _ _) (c.asked.ensures w l e)
