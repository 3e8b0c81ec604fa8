-- The name is as many bytes of its field as its length says, and that length is within the field.
use Rattle.slots.proofs.Reading.{name-part}
use Rattle.slots.proofs.fields.name.Goals as goal

pub returns : goal.returns
returns c =
    rw c.name_length-n.ensures (name-part c.args.t.now c.args.i c.requires.0 c.requires.2 c.requires.3)
