-- The owner is the number of the third and fourth byte.
use Rattle.watches.proofs.Laws.{owner-read}
use Rattle.watches.proofs.places.owner.Goals as goal

pub returns : goal.returns
returns c =
    let pre = c.requires in
    owner-read c.args.s.now _ pre.below c.number.ensures.read.bytes pre.kept.whole pre.used _ c.number.ensures.read
