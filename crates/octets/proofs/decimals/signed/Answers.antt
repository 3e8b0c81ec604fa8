-- A minus sign goes before a decimal from 1 to 2 ^ 63, whose complement fits 64 bits; without it the decimal is below 2 ^ 63.
use mathlib.Core.Path.{◌≡◌, sym, ap, ◌∙◌}
use mathlib.Core.Option.{some}
use Prim.Native.Nat.{ℕ, ◌^◌, ◌≤◌}
use native.Mathlib.Omega.{arith}
use Rattle.rules.specs.Octets.{signed}
use Rattle.std.specs.Prelude.{Option}
use Rattle.octets.specs.Options.{meant}
use Rattle.octets.proofs.Ranges.{negated, signed_nothing, signed_plus, signed-told, minus_bounds}
use Rattle.octets.proofs.decimals.signed.Goals as goal
use Rattle.octets.proofs.decimals.signed.Goals.{After-number_in-2, In_ok-n}

pub returns-then-len-eq0 : goal.returns-then-len-eq0
returns-then-len-eq0 c = signed_nothing _ c.if-len-eq0.true

pub returns-then-s-ne45 : goal.returns-then-s-ne45
returns-then-s-ne45 c = c.number_in.ensures ∙ sym (signed_plus _ c.if-len-eq0.false c.if-s-ne45.true)

minus : (c : After-number_in-2) (r : Option ℕ) → c.number_in-2.result ≡ r →
    signed c.args.s.now ≡ negated (meant r)
minus c r e = signed-told _ _ _ c.if-len-eq0.false c.if-s-ne45.false c.number_in-2.ensures e

bounds : (c : In_ok-n) → (1 ≤ c.in_ok-n.n) × (c.in_ok-n.n ≤ 2 ^ 63)
bounds c = minus_bounds _ _ _ c.number_in-2.ensures c.in_ok-n.was

pub overflow_add-result : goal.overflow_add-result
overflow_add-result c = omega (arith, bounds c)

pub returns-in_err-n : goal.returns-in_err-n
returns-in_err-n c = rw c.from_residual.ensures (sym (minus (goal.at.returns-in_err-n c).After-number_in-2 _ c.in_err-n.was))

pub returns : goal.returns
returns c =
    let known = bounds c in
    sym (minus (goal.at.returns c).After-number_in-2 _ c.in_ok-n.was ∙ ap some (omega arith))
