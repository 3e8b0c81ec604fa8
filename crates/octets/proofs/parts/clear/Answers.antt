-- After i turns the first i of the zeros are in place.
use mathlib.Core.Path.{sym}
use native.Mathlib.Omega.{arith}
use lib.ListN.{length-replicate}
use Rattle.rules.proofs.Paste.{paste_nil, paste-zero, paste_all}
use Rattle.octets.proofs.parts.clear.Goals as goal

pub loop-i-init : goal.loop-i-init
loop-i-init c = sym (paste_nil _ _)

pub loop-i-preserved : goal.loop-i-preserved
loop-i-preserved c = paste-zero _ c.args.n _ c.loop-i.i c.loop-i.invariant (omega arith) (omega arith)

pub returns : goal.returns
returns c = paste_all _ _ _ c.loop-i.i (rw length-replicate c.loop-i-test.false) c.loop-i.invariant
