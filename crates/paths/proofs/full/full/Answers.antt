-- The base's text, the domain's decimal, a slash and the path stand one behind the other; a decimal has 20 digits at most, so there is room.
use Prim.Native.Nat.{◌≤◌}
use native.Mathlib.Omega.{arith}
use lib.ListN.{length-set}
use Rattle.rules.specs.Octets.{text}
use Rattle.rules.proofs.Decimals.{length-decimal_le}
use Rattle.paths.proofs.FullLaws.{front, full_put}
use Rattle.paths.proofs.full.full.Goals as goal
use Rattle.paths.proofs.full.full.Goals.{After-put_decimal-at}

short : (c : After-put_decimal-at) → c.put_decimal-at.result ≤ 34
short c =
    omega (arith, length-decimal_le c.args.domain)

pub bounds-into-at : goal.bounds-into-at
bounds-into-at c = omega (arith, short (goal.at.bounds-into-at c).After-put_decimal-at)

pub overflow_add-at : goal.overflow_add-at
overflow_add-at c = omega (arith, short (goal.at.overflow_add-at c).After-put_decimal-at)

pub copy-requires-2 : goal.copy-requires-2
copy-requires-2 c = simp length-set (omega (arith, short (goal.at.copy-requires-2 c).After-put_decimal-at))

pub overflow_add-result : goal.overflow_add-result
overflow_add-result c = omega (arith, short (goal.at.overflow_add-result c).After-put_decimal-at)

pub overflow_add-result-2 : goal.overflow_add-result-2
overflow_add-result-2 c = omega (arith, short (goal.at.overflow_add-result-2 c).After-put_decimal-at)

pub returns : goal.returns
unfolding front text
returns c =
    full_put c.args.domain _ _ _ _ _ _ c.requires c.copy.ensures c.put_decimal-at.ensures
    (omega (arith, short (goal.at.returns c).After-put_decimal-at)) c.copy-2.ensures
