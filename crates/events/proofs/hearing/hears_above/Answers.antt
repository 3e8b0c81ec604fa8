-- A removed path that is above the watch's own is heard if the owner may read the watch's own; any other is not.
use mathlib.Core.Path.{sym, ◌∙◌}
use Rattle.domains.proofs.Tests.{given-some, given-none}
use Rattle.events.proofs.HearingLaws.{hear_once, above_kept, above_removed, above_other}
use Rattle.events.proofs.hearing.hears_above.Goals as goal

pub returns-then-not-removed : goal.returns-then-not-removed
returns-then-not-removed c = above_kept _ _ _ _ _ _ c.if-not-removed.true

pub returns-then-is_some : goal.returns-then-is_some
returns-then-is_some c =
    let above = sym (given-some 0 _ (sym c.is_some.ensures ∙ c.if-is_some.true)) ∙ c.beyond.ensures in
    c.readable.ensures ∙ hear_once _ _ _ ∙ above_removed _ _ _ _ _ _ c.if-not-removed.false _ above

pub returns-else-is_some : goal.returns-else-is_some
returns-else-is_some c =
    let apart = sym (given-none _ (sym c.is_some.ensures ∙ c.if-is_some.false)) ∙ c.beyond.ensures in
    c.if-is_some.false ∙ above_other _ _ _ _ _ _ apart
