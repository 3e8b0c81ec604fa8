-- The path is at or below the watch's own, deep enough and readable; or it was removed above it.
use mathlib.Core.Path.{sym, ap, ◌∙◌}
use Rattle.octets.specs.Options.{meant}
use Rattle.events.specs.Stores.{happened}
use Rattle.events.proofs.HearingLaws.{hear_once, too_deep, within-depth, not_below}
use Rattle.events.proofs.hearing.hears_on.Goals as goal

pub returns-then-deep_enough : goal.returns-then-deep_enough
unfolding happened
returns-then-deep_enough c = λ w o d.
    c.readable.ensures ∙ hear_once _ _ _
    ∙ within-depth _ _ w _ _ o d _ (ap meant (sym c.in-Some.is) ∙ c.beyond.ensures)
    (sym c.deep_enough.ensures ∙ c.if-deep_enough.true)

pub returns-else-deep_enough : goal.returns-else-deep_enough
unfolding happened
returns-else-deep_enough c = λ w o d.
    c.if-deep_enough.false
    ∙ too_deep _ _ w _ _ o d _ (ap meant (sym c.in-Some.is) ∙ c.beyond.ensures)
    (sym c.deep_enough.ensures ∙ c.if-deep_enough.false)

pub returns-in-None : goal.returns-in-None
unfolding happened
returns-in-None c = λ w o d.
    c.hears_above.ensures
    ∙ not_below _ _ w _ _ o d (ap meant (sym c.in-None.is) ∙ c.beyond.ensures)
