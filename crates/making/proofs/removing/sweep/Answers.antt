-- The marked slots before the one in turn are freed, the others as they were.
use mathlib.Core.Path.{◌∙◌, refl}
use Prim.Native.Nat.{◌<◌}
use native.Mathlib.Omega.{arith}
use lib.ListN.{length}
use Rattle.making.proofs.SweptLaws.{swept_canonical, swept_none, swept_here, swept_further}
use Rattle.making.proofs.removing.sweep.Goals as goal
use Rattle.making.proofs.removing.sweep.Goals.{then-marked, else-marked}

pub loop-j-init : goal.loop-j-init
loop-j-init c = let args = c.args in (refl, swept_none args.marks.now args.t.now c.requires.0)

pub clear_slot-requires : goal.clear_slot-requires
clear_slot-requires c = let turn = c.loop-j in (omega arith, (swept_canonical _ _ turn.j turn.invariant.1).0)

pub loop-j-preserved : goal.loop-j-preserved
loop-j-preserved c =
    let args = c.args in
    let marks = args.marks.now in
    let s = args.t.now in
    let j = c.loop-j.j in
    let inv = c.loop-j.invariant in
    let h : j < length marks = omega arith in
    let long = c.if-marked.auto.t ∙ inv.0 in
    elim c.if-marked.branch [
      | then-marked w ↦ (long, w.t-is ∙ swept_here marks s j h w.if-marked.true inv.1 w.clear_slot.ensures)
      | else-marked w ↦ (long, w.t-is ∙ swept_further marks s j h w.if-marked.false inv.1)
    ]
