-- The text has a first byte, which is a slash, and a domain id behind it.
use mathlib.Core.Path.{sym, ap, ◌∙◌}
use borrow.Author.Tests.{ne_eqb}
use Rattle.rules.specs.Message.{is_domain_path}
use Rattle.events.proofs.ReportLaws.{domain_empty, domain_other, domain-told}
use Rattle.events.proofs.report.is_domain_path.Goals as goal

pub returns-in-None : goal.returns-in-None
returns-in-None c = domain_empty _ c.in-None.ensures.cases

pub returns-then-first-eq47 : goal.returns-then-first-eq47
returns-then-first-eq47 c =
    c.is_some.ensures
    ∙ domain-told _ _ c.if-first-eq47.true _ c.number_in.ensures
    ∙ sym (ap is_domain_path c.in-Some.ensures.cases.0)

pub returns-else-first-eq47 : goal.returns-else-first-eq47
returns-else-first-eq47 c =
    ne_eqb _ _ c.if-first-eq47.false
    ∙ domain_other _ _ c.if-first-eq47.false
    ∙ sym (ap is_domain_path c.in-Some.ensures.cases.0)
