-- The holder is the number of the second and third byte.
use Rattle.transactions.proofs.Laws.{holder-read}
use Rattle.transactions.proofs.places.holder.Goals as goal

pub returns : goal.returns
returns c =
    let pre = c.requires in
    holder-read c.args.s.now _ pre.below c.number.ensures.read.bytes pre.kept.whole pre.used _ c.number.ensures.read
