-- Those that hear the event in the store before it are known, and so those that hear it before or after it.
use Rattle.events.proofs.changes.event.Goals as goal

pub returns : goal.returns
returns c =
    c.event_since.ensures _ c.in_store-heard.ensures
