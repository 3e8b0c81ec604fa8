-- None of the names before k comes after the slot's own, so it goes in before the first that does, or behind all.
use mathlib.Core.Path.{sym, ap₂, ◌∙◌}
use native.Mathlib.Omega.{arith}
use lib.ListN.{take}
use lib.Seq.{length-take-le}
use Rattle.rules.specs.Octets.{less}
use Rattle.rules.specs.Layout.{table_of}
use Rattle.lookup.proofs.ChildrenLaws.{has-name, asked_at, placed, not_placed, placed_last}
use Rattle.lookup.proofs.children.place.Goals as goal

pub name-requires : goal.name-requires
name-requires c = has-name _ _ c.requires.2

pub name-requires-in-loop-k : goal.name-requires-in-loop-k
name-requires-in-loop-k c = has-name _ _ (asked_at c.args.t.now (take c.args.n c.args.list.now) c.loop-k.k c.requires.1 c.loop-k-test.true)

pub returns-then-less : goal.returns-then-less
returns-then-less c =
    let args = c.args in
    let e = ap₂ less (sym c.name.ensures) (sym c.name-in-loop-k.ensures) ∙ sym c.less.ensures ∙ c.if-less.true in
    placed (table_of args.t.now) args.j (take args.n args.list.now) c.loop-k.k c.loop-k-test.true c.loop-k.invariant e

pub loop-k-preserved : goal.loop-k-preserved
loop-k-preserved c =
    let args = c.args in
    let e = ap₂ less (sym c.name.ensures) (sym c.name-in-loop-k.ensures) ∙ sym c.less.ensures ∙ c.if-less.false in
    not_placed (table_of args.t.now) args.j (take args.n args.list.now) c.loop-k.k c.loop-k-test.true c.loop-k.invariant e

pub returns : goal.returns
returns c =
    let args = c.args in
    let l = length-take-le args.n args.list.now c.requires.0 in
    placed_last (table_of args.t.now) args.j (take args.n args.list.now) c.loop-k.k args.n (omega arith) (omega arith) (omega arith) c.loop-k.invariant
