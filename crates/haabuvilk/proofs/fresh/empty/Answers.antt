-- As many zeros as the table is long are the whole table.
use Rattle.haabuvilk.proofs.FreshLaws.{cleared}
use Rattle.haabuvilk.proofs.fresh.empty.Goals as goal

pub returns : goal.returns
returns c = cleared c.args.s.now _ c.clear.ensures
