-- Introduced is what a place from the first on has.
use Rattle.rules.specs.Sound.{introduced}
use Rattle.domains.proofs.places.introduced.Goals as goal

pub returns : goal.returns
unfolding introduced
returns c = c.introduced_from.ensures
