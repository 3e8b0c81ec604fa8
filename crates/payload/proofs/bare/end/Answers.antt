-- The two payloads are `T` and `F`, each with its nul.
use mathlib.Core.Path.{sym, ◌∙◌}
use Rattle.payload.proofs.DomainLaws.{end_commit, end-drop, end_not}
use Rattle.payload.proofs.bare.end.Goals as goal

pub returns-then-same : goal.returns-then-same
returns-then-same c = end_commit _ (sym c.same.ensures ∙ c.if-same.true)

pub returns-then-same-2 : goal.returns-then-same-2
returns-then-same-2 c = end-drop _ (sym c.same.ensures ∙ c.if-same.false)
    (sym c.same-2.ensures ∙ c.if-same-2.true)

pub returns : goal.returns
returns c = end_not _ (sym c.same.ensures ∙ c.if-same.false)
    (sym c.same-2.ensures ∙ c.if-same-2.false)
