-- The transactions are stale, and the records are those of the change's events for who heard them before or hears them after.
use Rattle.handlers.proofs.asking.after_change.Goals as goal

pub returns : goal.returns
returns c =
    let told = c.change_since in
    let stale = c.stale_all.ensures in
    λ before m new. record { stale = stale; heard = told.ensures before m new }
