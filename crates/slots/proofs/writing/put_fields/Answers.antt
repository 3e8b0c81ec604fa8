-- Each field is within its bits, so the three stores are the bytes of the packed number.
use Rattle.slots.proofs.Put.{fields_put}
use Rattle.slots.proofs.writing.put_fields.Goals as goal

pub returns : goal.returns
returns c = fields_put _ _ _ _ _ _ c.requires.0 c.requires.1 c.requires.2 c.requires.3 c.requires.4
