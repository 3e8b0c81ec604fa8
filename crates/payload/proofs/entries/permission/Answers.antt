-- The first byte is the access's letter, and what is behind it the domain id.
use mathlib.Core.Path.{ap, ◌∙◌}
use Rattle.payload.specs.Answers.{permission_meant}
use Rattle.payload.proofs.EntryLaws.{entry_empty, entry_no_letter, entry-told}
use Rattle.payload.proofs.entries.permission.Goals as goal

pub returns-in_err-first : goal.returns-in_err-first
returns-in_err-first c = ap permission_meant c.from_residual.ensures ∙ entry_empty _ c.in_err-first.ensures.cases

pub returns-in_err-access : goal.returns-in_err-access
returns-in_err-access c =
    ap permission_meant c.from_residual-in_err-access.ensures ∙ entry_no_letter _ _ _ c.in_ok-first.ensures.cases.0 c.in_err-access.ensures

pub returns-in_err-domain : goal.returns-in_err-domain
returns-in_err-domain c =
    ap permission_meant c.from_residual-in_err-domain.ensures
    ∙ entry-told _ _ _ c.in_ok-first.ensures.cases.0 _ _ c.in_ok-access.ensures c.in_err-domain.ensures

pub returns : goal.returns
returns c = entry-told _ _ _ c.in_ok-first.ensures.cases.0 _ _ c.in_ok-access.ensures c.in_ok-domain.ensures
