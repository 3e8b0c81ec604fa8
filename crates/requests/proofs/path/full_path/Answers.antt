-- An absolute path is its own text; a relative one stands behind its domain's base.
use mathlib.Core.Path.{sym}
use lib.ListN.{length-take}
use native.Mathlib.Omega.{arith}
use Rattle.requests.proofs.PlaceLaws.{path-long, absolute_put, relative_put, special-root, malformed-root}
use Rattle.requests.proofs.path.full_path.Goals as goal

pub slice_bounds-copy-end : goal.slice_bounds-copy-end
slice_bounds-copy-end c =
    sym (path-long c.args.s.now c.args.path c.args.domain c.requires.0)

pub copy-requires : goal.copy-requires
copy-requires c =
    let p = c.requires in
    simp length-take (omega (arith, p.0.inside, p.1))

pub slice_bounds-full-end : goal.slice_bounds-full-end
slice_bounds-full-end c =
    sym (path-long c.args.s.now c.args.path c.args.domain c.requires.0)

pub full-requires : goal.full-requires
full-requires c =
    let p = c.requires in
    simp length-take (omega (arith, p.0.inside, p.1))

pub returns-in-Absolute : goal.returns-in-Absolute
returns-in-Absolute c =
    absolute_put _ c.args.path c.args.domain c.requires.0 c.in-Absolute.is _ _
    c.copy.ensures

pub returns-in-Relative : goal.returns-in-Relative
returns-in-Relative c =
    relative_put _ c.args.path c.args.domain c.requires.0 c.in-Relative.is _ _ _
    c.full.ensures

pub returns-in-Special : goal.returns-in-Special
returns-in-Special c =
    special-root _ c.args.path c.args.domain c.requires.0 c.in-Special.is _ _ _
    c.root.ensures

pub returns-in-Malformed : goal.returns-in-Malformed
returns-in-Malformed c =
    malformed-root _ c.args.path c.args.domain c.requires.0 c.in-Malformed.is _ _ _
    c.root-in-Malformed.ensures
