-- The payload is one string, and that a domain id within the range.
use mathlib.Core.Path.{sym, ◌∙◌}
use native.Mathlib.Omega.{arith}
use lib.Seq.{length-take-le}
use Rattle.payload.proofs.PartsLaws.{OneString, one_told}
use Rattle.payload.proofs.DomainLaws.{domain_other, domain_one}
use Rattle.payload.proofs.domain.domain_alone.Goals as goal
use Rattle.payload.proofs.domain.domain_alone.Goals.{In-One}

one : (c : In-One) → OneString c.args.s.now c.in-One.end
one c = one_told _ _ (sym c.apart.ensures ∙ c.in-One.is)

pub returns-in_default : goal.returns-in_default
returns-in_default c = domain_other _ _ (λ e h. c.in_default.not-One e (c.apart.ensures ∙ h))

pub slice_bounds-small-end : goal.slice_bounds-small-end
slice_bounds-small-end c = sym (length-take-le _ _ (omega (arith, (one (goal.at.slice_bounds-small-end c).In-One).high)))

pub returns : goal.returns
returns c = c.small.ensures ∙ domain_one _ _ (one (goal.at.returns c).In-One) _
