-- The first bit of the place says it.
use Rattle.octets.proofs.Bytes.{bytes-known}
use Rattle.watches.proofs.Laws.{used_byte}
use Rattle.watches.proofs.places.used.Goals as goal

pub returns : goal.returns
returns c =
    let s = c.args.s.now in
    used_byte s _ c.requires.0 (bytes-known s c.type_inv.s) c.requires.1
