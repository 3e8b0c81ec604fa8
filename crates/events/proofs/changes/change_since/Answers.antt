-- The created parents were not there before, so the store after tells of them; the path's own event comes behind theirs.
use mathlib.Core.Path.{sym}
use native.Mathlib.Omega.{arith}
use borrow.Author.Rules.{rules}
use Rattle.events.proofs.ChangeLaws.{heard_since, since_room}
use Rattle.events.proofs.RecordLaws.{recorded_as, recorded_more}
use Rattle.events.proofs.changes.change_since.Goals as goal

pub event_since-requires : goal.event_since-requires
event_since-requires c =
    let room = since_room _ _ _ _ _ _ _ c.requires.4 c.requires.5 c.created-n.ensures in
    search rules

pub returns : goal.returns
returns c = λ before m new.
    recorded_as _ _ (sym (heard_since before _ _ _ _ _ new))
    (recorded_more 0 _ _ _ _ _ _ _ (omega arith) c.created-n.ensures (c.event_since.ensures before m))
