-- The token's length has the last six bits of the sixth byte.
use Rattle.watches.proofs.Laws.{lengths-read}
use Rattle.watches.proofs.places.token_length.Goals as goal

pub returns : goal.returns
returns c =
    let pre = c.requires in
    (lengths-read c.args.s.now _ pre.0 c.number.ensures.read.bytes pre.1 _ c.number.ensures.read).1
