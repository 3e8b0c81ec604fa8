-- The record has the watch's own text and the mask of this watch alone, and is put whether or not a bit is set.
use mathlib.Core.Path.{sym}
use native.Mathlib.Omega.{arith}
use Rattle.rules.specs.Event.{first_heard}
use Rattle.events.proofs.HearingLaws.{own-short}
use Rattle.events.proofs.domain_events.first.Goals as goal

pub put-requires : goal.put-requires
put-requires c =
    (record { whole = c.requires.1; few = omega arith }, own-short _ _ c.requires.0 _ c.path.ensures)

pub returns : goal.returns
unfolding first_heard
returns c =
    rw (sym c.path.ensures) (c.put.ensures _ c.one_watch.ensures)
