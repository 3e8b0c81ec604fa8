-- From the front one name after the other is passed, until those that lie above are.
use Prim.Native.Nat.{◌<◌}
use native.Mathlib.Omega.{arith}
use lib.ListN.{length}
use Rattle.paths.proofs.AboveLaws.{passed_none, passed_inside, passed_next, passed_all}
use Rattle.paths.proofs.names.above.Goals as goal
use Rattle.paths.proofs.names.above.Goals.{In-loop}

pub loop-init : goal.loop-init
loop-init c = passed_none _ _

inside : (c : In-loop) → c.loop.at < length c.args.s.now
inside c =
    passed_inside _ c.requires.0 _ _ _ c.loop.invariant (omega arith)

pub overflow_add-at : goal.overflow_add-at
overflow_add-at c = omega (arith, inside c)

pub name_end-at-requires : goal.name_end-at-requires
name_end-at-requires c = omega (arith, inside c)

pub loop-preserved : goal.loop-preserved
loop-preserved c =
    passed_next _ c.requires.0 _ _ _ c.loop.invariant (omega arith) _ c.name_end-at.ensures

pub returns : goal.returns
returns c =
    passed_all _ c.requires.0 _ _ _ c.loop.invariant c.requires.1 (omega arith)
