-- A slot goes where its name belongs in the order, and slots are met from the last down, so the list is that of the children met so far.
use mathlib.Core.Path.{◌≡◌, sym, ◌∙◌}
use mathlib.Core.Bool.{false}
use Prim.Native.Nat.{◌-◌, ◌%◌}
use native.Mathlib.Omega.{arith}
use lib.Seq.{length-take-le}
use Rattle.rules.specs.Node.{has_parent}
use Rattle.slots.specs.Slot.{slot_at}
use Rattle.slots.proofs.Canonical.{sound_canonical}
use Rattle.lookup.proofs.ChildrenLaws.{unused_parent, gather_none, gather_skip, gather_put, gather_done, parent-used}
use Rattle.lookup.proofs.children.children.Goals.{else-used-via-then-used+else-has_parent, else-used-via-else-used}
use Rattle.lookup.proofs.children.children.Goals as goal

pub loop-i-init : goal.loop-i-init
loop-i-init c = gather_none c.args.t.now c.args.p c.args.list.now c.requires.1

pub used-requires : goal.used-requires
used-requires c = (omega arith, (sound_canonical _ c.requires.0).whole)

pub has_parent-requires : goal.has_parent-requires
has_parent-requires c = (omega arith, c.requires.0)

pub place-k-requires : goal.place-k-requires
place-k-requires c =
    let u = parent-used c.args.p _ (sym c.has_parent.ensures ∙ c.if-has_parent.true) in
    (omega arith, c.loop-i.invariant.asked, record { below = omega arith; sound = c.requires.0; used = u })

pub put_in-requires : goal.put_in-requires
put_in-requires c =
    let l = length-take-le c.loop-i.n c.loop-i.list (omega arith) in
    (omega arith, omega (arith, c.place-k.ensures.within))

pub loop-i-preserved-then-has_parent : goal.loop-i-preserved-then-has_parent
loop-i-preserved-then-has_parent c =
    let args = c.args in
    let loop = c.loop-i in
    let u = parent-used args.p _ (sym c.has_parent.ensures ∙ c.if-has_parent.true) in
    gather_put args.t.now args.p loop.i loop.n loop.list loop.invariant (omega arith)
    (sym c.has_parent.ensures ∙ c.if-has_parent.true) (record { below = omega arith; sound = c.requires.0; used = u })
    c.place-k.result c.place-k.ensures ((loop.i - 1) % 256) (omega arith) c.put_in.new.list c.put_in.ensures

pub loop-i-preserved : goal.loop-i-preserved
loop-i-preserved c =
    let args = c.args in
    let loop = c.loop-i in
    let no : has_parent args.p (slot_at args.t.now (loop.i - 1)) ≡ false =
    elim c.else-used.branch [
      | else-used-via-then-used+else-has_parent w ↦ sym w.has_parent.ensures ∙ w.if-has_parent.false
      | else-used-via-else-used w ↦ unused_parent _ _ (sym c.used.ensures ∙ w.if-used.false)
    ] in
    gather_skip args.t.now args.p loop.i loop.n loop.list loop.invariant (omega arith) no

pub shape_of-list : goal.shape_of-list
shape_of-list c = c.loop-i.invariant.long ∙ sym c.requires.1

pub returns : goal.returns
returns c =
    let args = c.args in
    let loop = c.loop-i in
    gather_done args.t.now args.p loop.i loop.n loop.list loop.invariant (omega arith)
