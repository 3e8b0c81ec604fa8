-- The rule's cases are told by the watch's text: the same text, an event's, a path's below or above.
use mathlib.Core.Path.{◌≡◌, ap, ◌∙◌}
use mathlib.Core.Bool.{true, false}
use mathlib.Core.List.{[], ◌∷◌}
use Rattle.rules.specs.Octets.{Octets, same, begins}
use Rattle.rules.specs.Path.{is_below}
use Rattle.rules.specs.Event.{place_text}
use Rattle.rules.proofs.EntryLayouts.{PlaceFits}
use Rattle.watches.specs.Watch.{watch_of}
use Rattle.events.proofs.WatchLaws.{taken-watch, watch-fits}
use Rattle.events.proofs.PlaceLaws.{told}
use Rattle.events.proofs.ReportLaws.{concern_same, concern_event, concern_below, concern_above}
use Rattle.events.proofs.report.concerns.Goals as goal
use Rattle.events.proofs.report.concerns.Goals.{After-path-own, Else-not-begins, Else-same, Then-not-begins}

pub path-own-requires : goal.path-own-requires
path-own-requires c =
    taken-watch c.args.watches.now c.args.k c.requires

pub returns-then-same : goal.returns-then-same
returns-then-same c =
    concern_same _ _ (told (same _) c.same.ensures c.path-own.ensures c.if-same.true)

fits : (c : After-path-own) → PlaceFits (watch_of c.args.watches.now c.args.k).place
fits c = (watch-fits c.args.watches.now c.args.k c.requires).place

differs : (c : Else-same) → same c.args.p.now (place_text (watch_of c.args.watches.now c.args.k).place) ≡ false
differs c = told (same _) c.same.ensures c.path-own.ensures c.if-same.false

unslashed : (c : Then-not-begins) → begins (47 ∷ []) (place_text (watch_of c.args.watches.now c.args.k).place) ≡ false
unslashed c =
    told (begins (47 ∷ [])) c.begins.ensures c.path-own.ensures c.if-not-begins.true

slashed : (c : Else-not-begins) → begins (47 ∷ []) (place_text (watch_of c.args.watches.now c.args.k).place) ≡ true
slashed c =
    told (begins (47 ∷ [])) c.begins.ensures c.path-own.ensures c.if-not-begins.false

pub returns-then-not-begins : goal.returns-then-not-begins
returns-then-not-begins c =
    let places = goal.at.returns-then-not-begins c in
    c.is_domain_path.ensures ∙ concern_event _ _ (differs places.Else-same) (unslashed places.Then-not-begins)

pub returns-then-is_below : goal.returns-then-is_below
returns-then-is_below c =
    let places = goal.at.returns-then-is_below c in
    let record-path = c.args.p.now in
    c.if-is_below.true
    ∙ concern_below record-path _ (fits places.After-path-own) (differs places.Else-same) (slashed places.Else-not-begins)
    (told (λ (x : Octets). is_below x record-path) c.is_below.ensures c.path-own.ensures c.if-is_below.true)

pub returns-else-is_below : goal.returns-else-is_below
returns-else-is_below c =
    let places = goal.at.returns-else-is_below c in
    let record-path = c.args.p.now in
    c.is_below-else-is_below.ensures
    ∙ ap (is_below record-path) c.path-own.ensures
    ∙ concern_above record-path _ (fits places.After-path-own) (differs places.Else-same) (slashed places.Else-not-begins)
    (told (λ (x : Octets). is_below x record-path) c.is_below.ensures c.path-own.ensures c.if-is_below.false)
