-- After i turns the first i bytes of the text are in place.
use mathlib.Core.Path.{sym}
use native.Mathlib.Omega.{arith}
use Rattle.rules.proofs.Paste.{paste_nil, paste_next, paste_all}
use Rattle.octets.proofs.parts.copy.Goals as goal

pub loop-i-init : goal.loop-i-init
loop-i-init c = sym (paste_nil _ _)

pub loop-i-preserved : goal.loop-i-preserved
loop-i-preserved c = paste_next _ _ _ c.loop-i.i c.loop-i.invariant (omega arith) (omega arith)

pub returns : goal.returns
returns c = paste_all _ _ _ _ c.loop-i-test.false c.loop-i.invariant
