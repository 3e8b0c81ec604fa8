-- The text of a watch on an event is the event's name, and no path's text is.
use mathlib.Core.Bool.{true, false}
use mathlib.Core.Path.{sym, ◌∙◌}
use Rattle.rules.specs.Path.{introduce_name, release_name}
use Rattle.rules.specs.Octets.{text}
use Rattle.watches.specs.Watch.{TakenWatch}
use Rattle.domains.proofs.Search.{passes_free}
use Rattle.events.specs.Stores.{event_name}
use Rattle.events.proofs.HearingLaws.{taken_here, event-hears}
use Rattle.events.proofs.masks.is_event.Goals as goal
use Rattle.events.proofs.masks.is_event.Goals.{Else-not-used}

pub returns-then-not-used : goal.returns-then-not-used
returns-then-not-used c = sym (passes_free _ _ (sym c.used.ensures ∙ c.if-not-used.true))

taken : (c : Else-not-used) → TakenWatch c.args.watches.now c.args.k
taken c = taken_here c.requires.0 c.requires.1 c.used.ensures c.if-not-used.false

pub returns-then-released : goal.returns-then-released
unfolding event_name release_name introduce_name text
returns-then-released c =
    c.same.ensures ∙ rw c.if-released.true (event-hears _ _ (taken (goal.at.returns-then-released c).Else-not-used) _ c.path-own.ensures true)

pub returns : goal.returns
unfolding event_name release_name introduce_name text
returns c =
    c.same-2.ensures ∙ rw c.if-released.false (event-hears _ _ (taken (goal.at.returns c).Else-not-used) _ c.path-own.ensures false)
