-- The token stands behind the path's field, as long as the fields say.
use native.Mathlib.Omega.{arith}
use Rattle.octets.proofs.Bytes.{bytes-known}
use Rattle.watches.proofs.Laws.{token-length-within, token-part}
use Rattle.watches.proofs.places.token.Goals as goal

pub overflow_add-result : goal.overflow_add-result
overflow_add-result c =
    let pre = c.requires in
    let s = c.args.s.now in
    let bytes = bytes-known s c.type_inv.s in
    omega (arith, pre.below, c.token_length-n.ensures, token-length-within s c.args.k pre.below bytes pre.kept pre.used)

pub slice_bounds-result-end : goal.slice_bounds-result-end
slice_bounds-result-end c =
    let pre = c.requires in
    let s = c.args.s.now in
    let bytes = bytes-known s c.type_inv.s in
    omega (arith, pre.below, pre.kept.whole, c.token_length-n.ensures, token-length-within s c.args.k pre.below bytes pre.kept pre.used)

pub returns : goal.returns
returns c =
    let pre = c.requires in
    let s = c.args.s.now in
    let bytes = bytes-known s c.type_inv.s in
    rw c.token_length-n.ensures (token-part s c.args.k pre.below bytes pre.kept pre.used)
