-- Each entry is within 18 bits, so the nine stores are the bytes of the packed number.
use native.Mathlib.Omega.{arith}
use Rattle.slots.proofs.Put.{four_put}
use Rattle.slots.proofs.writing.put_four.Goals as goal

pub returns : goal.returns
returns c =
    let small = c.requires.1 in
    four_put _ _ _ _ _ _ c.requires.0 (small 0 (omega arith)) (small 1 (omega arith)) (small 2 (omega arith)) (small 3 (omega arith))
