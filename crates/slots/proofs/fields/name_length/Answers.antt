-- The length is the six bits above the value's, and these are the high bits of the second byte.
use Rattle.octets.proofs.Bytes.{bytes-known}
use Rattle.slots.proofs.Reading.{name-length_byte}
use Rattle.slots.proofs.fields.name_length.Goals as goal

pub returns : goal.returns
returns c = name-length_byte c.args.t.now (bytes-known c.args.t.now c.type_inv.t) c.requires.1 _
    c.requires.0
