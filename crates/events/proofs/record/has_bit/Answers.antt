-- The bits above are shifted out, and the rest is tested by its parity.
use mathlib.Core.Path.{refl}
use Rattle.rules.specs.Octets.{bits_at}
use Rattle.events.proofs.record.has_bit.Goals as goal

pub returns : goal.returns
unfolding bits_at
returns c = refl
