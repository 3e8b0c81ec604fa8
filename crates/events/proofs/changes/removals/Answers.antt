-- After i turns the records are those of the first i removals; there are no more removals than places for records.
use native.Mathlib.Omega.{arith}
use Rattle.rules.specs.Event.{heard}
use lib.Seq.{length-take-le}
use Rattle.rules.specs.Layout.{table_of}
use Rattle.lookup.proofs.ChildrenLaws.{asked_at}
use Rattle.events.proofs.Entering.{entered_none, entered_room, entered_next, entered_all}
use Rattle.events.proofs.ChangeLaws.{removals_length, removal_at, removal-few}
use Rattle.events.proofs.changes.removals.Goals as goal

pub loop-slot-init : goal.loop-slot-init
loop-slot-init c = entered_none _ _ _ _ _ c.requires.4

pub removal-n-requires : goal.removal-n-requires
removal-n-requires c =
    let asked = rw (← c.from.ensures) at (asked_at _ _ _ c.requires.3 c.loop-slot-test.true) in
    (c.requires.0, asked, entered_room _ _ _ _ _ _ _ _ c.loop-slot.invariant (omega (arith, length-take-le c.args.count c.args.list.now c.requires.1)))

pub loop-slot-preserved : goal.loop-slot-preserved
loop-slot-preserved c =
    let long = removals_length (table_of c.args.before.now) c.args.list.now c.args.count c.requires.1 in
    let few = length-take-le c.args.count c.args.list.now c.requires.1 in
    entered_next _ 1 _ _ _ _ _ _ c.loop-slot.invariant (omega (arith, long, few)) (omega (arith, few)) _ _
    (removal_at _ _ _ c.requires.1 _ _ c.from.ensures) (removal-few _ _ _ _ _) _ _ c.removal-n.ensures

pub returns : goal.returns
unfolding heard
returns c =
    let long = removals_length (table_of c.args.before.now) c.args.list.now c.args.count c.requires.1 in
    let few = length-take-le c.args.count c.args.list.now c.requires.1 in
    entered_all _ _ _ _ _ _ _ _ c.loop-slot.invariant (omega (arith, long, few))
