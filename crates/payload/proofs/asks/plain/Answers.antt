-- The payload is one string, and that a path; anything else is malformed.
use mathlib.Core.Path.{sym, ◌∙◌}
use native.Mathlib.Omega.{arith}
use Rattle.payload.proofs.PartsLaws.{OneString, one_told}
use Rattle.payload.proofs.AskLaws.{plain_other, plain_not, plain_means}
use Rattle.payload.proofs.asks.plain.Goals as goal
use Rattle.payload.proofs.asks.plain.Goals.{In-One}

one : (c : In-One) → OneString c.args.s.now c.in-One.end
one c = one_told _ _ (sym c.apart.ensures ∙ c.in-One.is)

pub returns-in_default : goal.returns-in_default
returns-in_default c x = plain_other _ _ (λ e h. c.in_default.not-One e (c.apart.ensures ∙ h))

pub named-requires : goal.named-requires
named-requires c = omega (arith, (one (goal.at.named-requires c).In-One).high)

pub returns-in_err-named : goal.returns-in_err-named
returns-in_err-named c x =
    rw c.from_residual.ensures (plain_not _ _ (sym c.in_err-named.ensures) _ (one (goal.at.returns-in_err-named c).In-One).all)

pub returns : goal.returns
returns c x =
    let o = one (goal.at.returns c).In-One in
    plain_means _ _ _ o.high (sym c.in_ok-named.ensures) _ _ o.all x (c.asking.ensures _)
