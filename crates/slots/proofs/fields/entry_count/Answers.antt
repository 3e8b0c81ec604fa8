-- The count is the three low bits of the fields, and so of their third byte.
use Rattle.octets.proofs.Bytes.{bytes-known}
use Rattle.slots.proofs.Reading.{entry-count_byte}
use Rattle.slots.proofs.fields.entry_count.Goals as goal

pub returns : goal.returns
returns c = entry-count_byte c.args.t.now (bytes-known c.args.t.now c.type_inv.t) c.requires.1 _
    c.requires.0
