-- The path stands behind the fields, as long as they say.
use native.Mathlib.Omega.{arith}
use Rattle.octets.proofs.Bytes.{bytes-known}
use Rattle.watches.proofs.Laws.{path-length-within, path-part}
use Rattle.watches.proofs.places.path.Goals as goal

pub overflow_add-result : goal.overflow_add-result
overflow_add-result c =
    let pre = c.requires in
    let s = c.args.s.now in
    let bytes = bytes-known s c.type_inv.s in
    omega (arith, pre.below, c.path_length-n.ensures, path-length-within s c.args.k pre.below bytes pre.kept pre.used)

pub slice_bounds-result-end : goal.slice_bounds-result-end
slice_bounds-result-end c =
    let pre = c.requires in
    let s = c.args.s.now in
    let bytes = bytes-known s c.type_inv.s in
    omega (arith, pre.below, pre.kept.whole, c.path_length-n.ensures, path-length-within s c.args.k pre.below bytes pre.kept pre.used)

pub returns : goal.returns
returns c =
    let pre = c.requires in
    let s = c.args.s.now in
    let bytes = bytes-known s c.type_inv.s in
    rw c.path_length-n.ensures (path-part s c.args.k pre.below bytes pre.kept pre.used)
