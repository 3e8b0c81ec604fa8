-- Six stores in a row put six bytes in.
use Rattle.watches.proofs.Written.{paste_six}
use Rattle.watches.proofs.changes.put_fields.Goals as goal

pub returns : goal.returns
returns c = paste_six _ _ _ _ _ _ _ _ c.requires.0
