-- The second bit says it.
use Rattle.octets.proofs.Bytes.{bytes-known}
use Rattle.watches.proofs.Laws.{relative-read}
use Rattle.watches.proofs.places.relative.Goals as goal

pub returns : goal.returns
returns c =
    let pre = c.requires in
    let s = c.args.s.now in
    relative-read s _ pre.below (bytes-known s c.type_inv.s) pre.kept pre.used
