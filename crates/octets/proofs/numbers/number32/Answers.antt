use native.Mathlib.Omega.{arith}
use Rattle.rules.specs.Octets.{little_endian}
use Rattle.octets.proofs.numbers.number32.Goals as goal

pub returns : goal.returns
unfolding little_endian
returns c = omega (arith, c.from_le_bytes.ensures)
