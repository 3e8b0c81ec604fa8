-- A full path other than the root has a slash before each name; those passed are counted, and those to come come to them.
use mathlib.Core.Path.{sym, ◌∙◌}
use native.Mathlib.Omega.{arith}
use Rattle.paths.proofs.PieceLaws.{slash_here, no_slash_here, slashes_over, depth-root, depth_slashes}
use Rattle.paths.proofs.names.depth.Goals as goal
use Rattle.paths.proofs.names.depth.Goals.{then-b-eq47, else-b-eq47}

pub returns-then-s-eq1 : goal.returns-then-s-eq1
returns-then-s-eq1 c = depth-root _ c.requires c.if-s-eq1.true

pub loop-b-preserved : goal.loop-b-preserved
loop-b-preserved c =
    let s = c.args.s.now in
    let i = c.loop-b.b-index in
    let h = c.loop-b-test.true in
    elim c.if-b-eq47.branch [
      | then-b-eq47 w ↦ (omega arith, rw w.levels-is (c.loop-b.invariant.1 ∙ slash_here s i c.loop-b.levels h w.if-b-eq47.true))
      | else-b-eq47 w ↦ (omega arith, rw w.levels-is (c.loop-b.invariant.1 ∙ no_slash_here s i c.loop-b.levels h w.if-b-eq47.false))
    ]

pub returns : goal.returns
returns c =
    sym (c.loop-b.invariant.1 ∙ slashes_over c.args.s.now _ c.loop-b.levels c.loop-b-test.false)
    ∙ depth_slashes _ c.requires c.if-s-eq1.false
