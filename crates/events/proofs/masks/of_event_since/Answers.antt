-- Who hears an event hears it in the store before it or in the store after it.
use Rattle.events.proofs.EitherLaws.{mask_either}
use Rattle.events.proofs.masks.of_event_since.Goals as goal

pub returns : goal.returns
returns c = λ before m. mask_either before _ _ _ _ (c.heard_or_hears.ensures _ m)
