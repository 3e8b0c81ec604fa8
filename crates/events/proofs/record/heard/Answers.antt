-- The mask is the first two bytes of the record, so its bit for the watch is that of the number in them.
use mathlib.Core.Path.{◌∙◌}
use Rattle.events.proofs.RecordLaws.{mask-read}
use Rattle.events.proofs.record.heard.Goals as goal

pub returns : goal.returns
returns c =
    c.has_bit.ensures ∙ mask-read c.args.events.now c.args.i c.requires.0 c.requires.2 c.args.k _ c.number-mask.ensures.read
