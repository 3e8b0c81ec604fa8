-- The value is as many bytes of its field as its length says, and that length is within the field.
use Rattle.slots.proofs.Reading.{value-part}
use Rattle.slots.proofs.fields.value.Goals as goal

pub returns : goal.returns
returns c =
    rw c.value_length-n.ensures (value-part c.args.t.now c.args.i c.requires.0 c.requires.2 c.requires.3)
