-- An entry is 18 bits, and the three bytes from twice its place on hold them all, the later an entry the lower.
use Rattle.slots.proofs.Reading.{entry_three}
use Rattle.slots.proofs.fields.entry_at.Goals as goal

pub returns : goal.returns
returns c =
    let args = c.args in
    let read = c.number.ensures.read in
    rw read.value (entry_three args.t.now read.bytes c.requires.1 args.i c.requires.0 args.k c.requires.2)
