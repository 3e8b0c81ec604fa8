-- From the topmost created parent down the events are recorded one after the other.
use mathlib.Core.Path.{sym}
use native.Mathlib.Nat.{add-sub_cancel}
use native.Mathlib.Omega.{arith}
use Rattle.paths.proofs.AboveLaws.{above_full}
use Rattle.events.specs.Stores.{heard_parents}
use Rattle.events.proofs.ChangeLaws.{heard-given}
use Rattle.events.proofs.RecordLaws.{recorded_as}
use Rattle.events.proofs.Levels.{told_none, told_next, told-parents}
use Rattle.events.proofs.changes.created.Goals as goal

pub loop-levels-init : goal.loop-levels-init
loop-levels-init c =
    rw (add-sub_cancel c.args.parents 1) (told_none _ _ _ _ _ _ _ _ c.requires.4.whole)

pub in_store-requires : goal.in_store-requires
in_store-requires c =
    (c.requires.0, above_full _ c.requires.1 _ _ c.above-end.ensures)

pub loop-levels-preserved : goal.loop-levels-preserved
loop-levels-preserved c =
    let full = c.requires.1 in
    let up = c.above-end.ensures in
    let record_is = sym (heard-given _ _ _ _ _ (above_full _ full _ _ up)) in
    told_next _ _ _ _ _ _ _ _ _ _ _ c.loop-levels.invariant full (omega (arith, c.loop-levels-test.true))
    (omega (arith, c.requires.4.few, c.loop-levels.invariant.few, c.loop-levels-test.true)) _ up _ _
    (recorded_as _ _ record_is (c.keep-n.ensures _ c.in_store.ensures))

pub returns : goal.returns
unfolding heard_parents
returns c = told-parents _ _ _ _ _ _ _ _ _ _ _ c.loop-levels.invariant (omega (arith, c.loop-levels-test.false))
