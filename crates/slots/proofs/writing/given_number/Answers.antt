-- The entries that are given are the first `count` of the arrays, each within its 18 bits; past them there is none.
use native.Mathlib.Omega.{arith}
use Rattle.slots.proofs.Numbers.{given_at_lem, given_past}
use Rattle.slots.proofs.writing.given_number.Goals as goal

pub returns-then-k-count : goal.returns-then-k-count
returns-then-k-count c = given_at_lem _ _ _ c.requires.0 c.args.k c.if-k-count.true

pub returns : goal.returns
returns c = (given_past _ _ _ c.requires.0 c.args.k c.if-k-count.false, omega arith)
