-- The mark of a used slot, one entry, and zeros are the root with no value and the permission `n0`.
use Rattle.haabuvilk.proofs.FreshLaws.{root_put}
use Rattle.haabuvilk.proofs.fresh.root_only.Goals as goal

pub returns : goal.returns
returns c =
    root_put c.args.nodes.now _ c.requires c.empty.ensures
