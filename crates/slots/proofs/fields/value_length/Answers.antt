-- The length is seven bits: the two low ones of the second byte and the five high ones of the third.
use Rattle.octets.proofs.Bytes.{bytes-known}
use Rattle.slots.proofs.Reading.{value-length-bytes}
use Rattle.slots.proofs.fields.value_length.Goals as goal

pub returns : goal.returns
returns c = value-length-bytes c.args.t.now (bytes-known c.args.t.now c.type_inv.t)
    c.requires.1 _ c.requires.0
