-- The second bit says it.
use Rattle.transactions.proofs.Laws.{stale-read}
use Rattle.transactions.proofs.places.stale.Goals as goal

pub returns : goal.returns
returns c = let pre = c.requires in stale-read c.args.s.now _ pre.below pre.kept pre.used
