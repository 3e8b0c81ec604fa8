-- The record of an event has the mask of those that hear it and the path that was given, and is kept if the mask has a bit.
use Rattle.events.proofs.ChangeLaws.{heard-given}
use Rattle.events.proofs.changes.event_since.Goals as goal

pub returns : goal.returns
returns c = λ before m.
    rw (heard-given _ _ _ _ _ c.requires.1) (c.keep.ensures _ (c.of_event_since-mask.ensures before m))
