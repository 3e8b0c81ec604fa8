-- The text is copied, and the nul stands behind it.
use Rattle.events.proofs.PutLaws.{string_put}
use Rattle.events.proofs.message.put_string.Goals as goal

pub returns : goal.returns
returns c =
    string_put c.args.at _ _ _ c.requires c.copy.ensures
