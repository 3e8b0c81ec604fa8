-- The length is the nine high bits of the two bytes behind the mask.
use Rattle.events.proofs.RecordLaws.{length-read}
use Rattle.events.proofs.record.path_length.Goals as goal

pub returns : goal.returns
returns c =
    length-read c.args.events.now c.args.i c.requires.0 c.requires.1 _ c.number.ensures.read
