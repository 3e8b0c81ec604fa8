-- The mark of a used slot is the highest bit of its first byte.
use Rattle.octets.proofs.Bytes.{bytes-known}
use Rattle.slots.proofs.Reading.{used_byte}
use Rattle.slots.proofs.fields.used.Goals as goal

pub returns : goal.returns
returns c = used_byte c.args.t.now (bytes-known c.args.t.now c.type_inv.t) c.requires.1 _ c.requires.0
