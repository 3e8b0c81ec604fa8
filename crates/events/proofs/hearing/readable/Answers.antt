-- A path that is not reached to its end is not there; where it is, the slot's rights decide.
use mathlib.Core.Path.{◌∙◌}
use Rattle.events.proofs.HearingLaws.{unreadable, readable-there}
use Rattle.events.proofs.hearing.readable.Goals as goal

pub returns-then-reached-path : goal.returns-then-reached-path
returns-then-reached-path c = unreadable _ _ _ _ _ c.reach-reached.ensures c.if-reached-path.true

pub returns : goal.returns
returns c =
    c.may_read.ensures ∙ readable-there _ _ _ _ _ c.reach-reached.ensures c.if-reached-path.false
