-- Where nobody heard it before, those that heard or hear are those that hear it in the store.
use mathlib.Core.Bool.{false}
use Rattle.events.proofs.EitherLaws.{mask-none}
use Rattle.events.proofs.masks.in_store.Goals as goal

pub returns : goal.returns
returns c = c.heard_or_hears.ensures (λ w. false) (mask-none _)
