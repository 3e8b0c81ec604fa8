-- The place is a remainder by 1,024.
use mathlib.Core.Path.{refl}
use native.Mathlib.Nat.{mod-lt}
use native.Mathlib.Omega.{arith}
use Rattle.soundness.specs.Keys.{place_of}
use Rattle.soundness.proofs.pairs.place_of.Goals as goal

pub returns : goal.returns
unfolding place_of
returns c = (refl, mod-lt _ (omega arith))
