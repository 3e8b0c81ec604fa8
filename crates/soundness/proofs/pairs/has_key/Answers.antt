-- What is found so far, and the keys that are left, decide.
use native.Mathlib.Omega.{arith}
use Rattle.soundness.proofs.KeyLaws.{has_key_turn, has_key_end}
use Rattle.soundness.proofs.pairs.has_key.Goals as goal

pub loop-k-preserved : goal.loop-k-preserved
loop-k-preserved c =
    let loop = c.loop-k in
    has_key_turn c.args.key c.args.keys.now loop.k-index loop.found (omega arith) loop.invariant

pub returns : goal.returns
returns c = has_key_end _ _ c.loop-k.k-index c.loop-k.found (omega arith) c.loop-k.invariant
