-- From the topmost created parent down the events are recorded one after the other, and the path's own at last.
use native.Mathlib.Nat.{add-sub_cancel}
use native.Mathlib.Omega.{arith}
use Rattle.rules.specs.Size.{longest_path}
use Rattle.paths.proofs.AboveLaws.{above_short, above_full}
use Rattle.events.proofs.Levels.{told_none, told-room, told_next, told-all}
use Rattle.events.proofs.changes.change.Goals as goal

pub loop-levels-init : goal.loop-levels-init
loop-levels-init c =
    rw (add-sub_cancel c.args.parents 1) (told_none _ _ _ _ _ _ _ _ c.requires.4.whole)

pub event-count-requires : goal.event-count-requires
event-count-requires c =
    let up = c.above-end.ensures in
    let room = told-room _ _ _ _ _ _ _ _ _ _ _ c.loop-levels.invariant (omega (arith, c.requires.4.few)) in
    (c.requires.0, above_full _ c.requires.1 _ _ up, above_short _ c.requires.1 _ _ up longest_path c.requires.2, room)

pub loop-levels-preserved : goal.loop-levels-preserved
loop-levels-preserved c =
    let room = c.requires.4.few in
    told_next _ _ _ _ _ _ _ _ _ _ _ c.loop-levels.invariant c.requires.1 (omega (arith, c.loop-levels-test.true)) (omega arith) _
    c.above-end.ensures _ _ c.event-count.ensures

pub returns : goal.returns
returns c =
    told-all _ _ _ _ _ _ _ _ _ _ _ c.loop-levels.invariant (omega (arith, c.loop-levels-test.false)) c.requires.4.few _ _ c.event.ensures
