-- No slot before i is the child, so those from i on decide.
use mathlib.Core.Path.{refl, sym, ◌∙◌}
use Rattle.rules.specs.Node.{child}
use Rattle.rules.specs.Layout.{table_of}
use Rattle.rules.proofs.Slots.{length-table_of}
use Rattle.lookup.proofs.ReachLaws.{child_here, child_further, child_over}
use Rattle.lookup.proofs.reach.child.Goals as goal

pub loop-i-init : goal.loop-i-init
unfolding child
loop-i-init c = refl

pub is_child-requires : goal.is_child-requires
is_child-requires c = (c.loop-i-test.true, c.requires)

pub returns-then-is_child : goal.returns-then-is_child
returns-then-is_child c =
    let args = c.args in
    sym (c.loop-i.invariant ∙ child_here args.p args.n.now (table_of args.t.now) c.loop-i.i
    (rw (length-table_of args.t.now) c.loop-i-test.true) (sym c.is_child.ensures ∙ c.if-is_child.true))

pub loop-i-preserved : goal.loop-i-preserved
loop-i-preserved c =
    let args = c.args in
    c.loop-i.invariant ∙ child_further args.p args.n.now (table_of args.t.now) c.loop-i.i
    (rw (length-table_of args.t.now) c.loop-i-test.true) (sym c.is_child.ensures ∙ c.if-is_child.false)

pub returns : goal.returns
returns c =
    let args = c.args in
    sym (c.loop-i.invariant ∙ child_over args.p args.n.now (table_of args.t.now) c.loop-i.i
    (rw (length-table_of args.t.now) c.loop-i-test.false))
