-- After j turns the records are those of the first j changes; a change makes a record a level at most, so there is room for all.
use native.Mathlib.Omega.{arith}
use Rattle.rules.specs.Size.{deepest}
use Rattle.rules.specs.Event.{heard}
use Rattle.transactions.specs.Transaction.{no_change, HasChange}
use Rattle.events.proofs.Entering.{entered_none, entered_room, entered_next, entered_all, room-less}
use Rattle.events.proofs.ChangeLaws.{given-few, has-change, change-parents, change-short, change-full, change_above, change-given}
use Rattle.events.proofs.changes.changes.Goals as goal
use Rattle.events.proofs.changes.changes.Goals.{In-loop-j}

pub loop-j-init : goal.loop-j-init
loop-j-init c =
    (c.changes-count.ensures.0, c.changes-count.ensures.1, entered_none _ _ _ _ _ c.requires.3)

there : (c : In-loop-j) → HasChange c.args.transactions.now c.args.k c.loop-j.j
there c =
    has-change c.requires.1 c.loop-j.invariant.0 c.loop-j-test.true

pub change-n-requires : goal.change-n-requires
change-n-requires c =
    let h = there (goal.at.change-n-requires c).In-loop-j in
    let text = c.path-changed.ensures in
    let new = c.parents-new.ensures in
    let room = entered_room _ _ _ _ _ _ _ _ c.loop-j.invariant.2 (omega arith) in
    let below = change-parents _ _ _ h _ new in
    let over = change_above _ _ _ h _ text c.requires.2 _ new in
    (c.requires.0, change-full _ _ _ h _ text, change-short _ _ _ h _ text, omega arith, room-less room (omega arith))

pub loop-j-preserved : goal.loop-j-preserved
loop-j-preserved c =
    let inv = c.loop-j.invariant in
    let h = there (goal.at.loop-j-preserved c).In-loop-j in
    let new = c.parents-new.ensures in
    let this = change-given _ _ _ h _ c.path-changed.ensures _ _ c.removed-gone.ensures new in
    let few = given-few _ _ _ _ _ _ deepest (change-parents _ _ _ h _ new) in
    (inv.0, inv.1, entered_next _ _ _ _ _ _ _ _ inv.2 h.there (omega arith) no_change _ this few _ _ c.change-n.ensures)

pub returns : goal.returns
unfolding heard
returns c = let inv = c.loop-j.invariant in entered_all _ _ _ _ _ _ _ _ inv.2 (omega (arith, inv.0))
