-- After k turns the sum is the length of the first k names with their nuls, and each is short.
use mathlib.Core.Path.{refl, ap, ◌∙◌}
use mathlib.Core.List.{List, flat_map}
use Prim.Native.Nat.{ℕ, ◌≤◌}
use native.Mathlib.Omega.{arith}
use lib.ListN.{length, get_or, take}
use lib.Seq.{take_all, length-take-le}
use Rattle.rules.specs.Answer.{name_list}
use Rattle.rules.specs.Layout.{table_of}
use Rattle.slots.specs.Slot.{name_length}
use Rattle.slots.proofs.Canonical.{sound_canonical}
use Rattle.lookup.specs.Rights.{Asked}
use Rattle.lookup.proofs.ChildrenLaws.{asked_at}
use Rattle.lookup.proofs.ListingLaws.{names_longer, name-length, name-fits}
use Rattle.lookup.proofs.listing.names_length.Goals as goal
use Rattle.lookup.proofs.listing.names_length.Goals.{In-loop-i}

pub loop-i-init : goal.loop-i-init
unfolding name_list flat_map
loop-i-init c = (omega arith, refl)

asked : (c : In-loop-i) → Asked c.args.t.now (get_or (take c.args.n c.args.list.now) c.loop-i.i-index 0)
asked c = asked_at c.args.t.now (take c.args.n c.args.list.now) c.loop-i.i-index c.requires.2 c.loop-i-test.true

pub name_length-requires : goal.name_length-requires
name_length-requires c = let q = asked (goal.at.name_length-requires c).In-loop-i in (q.below, (sound_canonical _ q.sound).whole)

short : (c : In-loop-i) → name_length c.args.t.now (get_or (take c.args.n c.args.list.now) c.loop-i.i-index 0) ≤ 32
short c =
    let i = get_or (take c.args.n c.args.list.now) c.loop-i.i-index 0 in
    let l = name-length c.args.t.now i (asked c) in
    let f = name-fits c.args.t.now i in
    omega arith

pub overflow_add-sum : goal.overflow_add-sum
overflow_add-sum c =
    let s = short (goal.at.overflow_add-sum c).In-loop-i in
    let l = length-take-le c.args.n c.args.list.now c.requires.1 in
    omega (arith, c.name_length.ensures)

pub overflow_add-sum-in-loop-i : goal.overflow_add-sum-in-loop-i
overflow_add-sum-in-loop-i c =
    let s = short (goal.at.overflow_add-sum-in-loop-i c).In-loop-i in
    let l = length-take-le c.args.n c.args.list.now c.requires.1 in
    omega (arith, c.name_length.ensures)

pub loop-i-preserved : goal.loop-i-preserved
loop-i-preserved c =
    let turn = (goal.at.loop-i-preserved c).In-loop-i in
    let s = short turn in
    let e = names_longer c.args.t.now (take c.args.n c.args.list.now) c.loop-i.i-index c.loop-i-test.true (asked turn) in
    (omega (arith, c.name_length.ensures), omega (arith, c.name_length.ensures, e))

pub returns : goal.returns
returns c =
    c.loop-i.invariant.1
    ∙ ap (λ (is : List ℕ). length (name_list (table_of c.args.t.now) is)) (take_all c.loop-i.i-index (take c.args.n c.args.list.now) c.loop-i-test.false)
