-- The text of no names is a slash.
use Rattle.requests.proofs.PlaceLaws.{root_put}
use Rattle.requests.proofs.path.root.Goals as goal

pub returns : goal.returns
returns c = root_put _ c.requires
