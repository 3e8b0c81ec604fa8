-- A watch on an event reports by its depth; one on a path the nearer of the two paths, cut by its base, for which there is room.
use mathlib.Core.Path.{◌≡◌, refl, sym, ◌∙◌}
use mathlib.Core.Bool.{Bool, true, false}
use mathlib.Core.List.{[], ◌∷◌}
use Rattle.rules.specs.Octets.{begins}
use Rattle.rules.specs.Path.{is_below}
use Rattle.rules.specs.Event.{place_text}
use Rattle.rules.specs.Sound.{good_place}
use Rattle.rules.proofs.EntryLayouts.{PlaceFits}
use Rattle.watches.specs.Watch.{watch_of, TakenWatch}
use Rattle.domains.proofs.Tests.{given-some, given-none}
use Rattle.events.proofs.WatchLaws.{taken-watch, watch-fits, good-place}
use Rattle.events.proofs.PlaceLaws.{told}
use Rattle.events.proofs.ReportLaws.{cut-same, report_own, report_record, report_nearer, report_further, nearer-room, further_room}
use Rattle.events.proofs.report.reported.Goals as goal
use Rattle.events.proofs.report.reported.Goals.{After-is_below, After-path-own, Else-not-begins, Then-not-begins}

pub path-own-requires : goal.path-own-requires
path-own-requires c =
    taken-watch c.args.watches.now c.args.k c.requires.0

used : (c : After-path-own) → TakenWatch c.args.watches.now c.args.k
used c = taken-watch c.args.watches.now c.args.k c.requires.0

fits : (c : After-path-own) → PlaceFits (watch_of c.args.watches.now c.args.k).place
fits c = (watch-fits c.args.watches.now c.args.k c.requires.0).place

good : (c : After-path-own)
    → good_place (watch_of c.args.watches.now c.args.k).owner (watch_of c.args.watches.now c.args.k).depth (watch_of c.args.watches.now c.args.k).place ≡ true
good c = good-place c.args.watches.now c.args.k c.requires.0

unslashed : (c : Then-not-begins) → begins (47 ∷ []) (place_text (watch_of c.args.watches.now c.args.k).place) ≡ false
unslashed c =
    told (begins (47 ∷ [])) c.begins.ensures c.path-own.ensures c.if-not-begins.true

slashed : (c : Else-not-begins) → begins (47 ∷ []) (place_text (watch_of c.args.watches.now c.args.k).place) ≡ true
slashed c =
    told (begins (47 ∷ [])) c.begins.ensures c.path-own.ensures c.if-not-begins.false

pub depth-requires : goal.depth-requires
depth-requires c = used (goal.at.depth-requires c).After-path-own

pub returns-then-is_some : goal.returns-then-is_some
returns-then-is_some c =
    report_record _ _ _ (unslashed (goal.at.returns-then-is_some c).Then-not-begins)
    (sym c.depth.ensures ∙ given-some 0 _ (sym c.is_some.ensures ∙ c.if-is_some.true))

pub returns-else-is_some : goal.returns-else-is_some
returns-else-is_some c =
    c.path-own.ensures
    ∙ report_own _ _ (unslashed (goal.at.returns-else-is_some c).Then-not-begins)
    (sym c.depth.ensures ∙ given-none _ (sym c.is_some.ensures ∙ c.if-is_some.false))

pub relative-r-requires : goal.relative-r-requires
relative-r-requires c = used (goal.at.relative-r-requires c).After-path-own

pub domain-d-requires : goal.domain-d-requires
domain-d-requires c = used (goal.at.domain-d-requires c).After-path-own

-- whether the record's path is above the watch's own
above : (c : After-is_below) (b : Bool) → c.is_below.result ≡ b
    → is_below c.args.p.now (place_text (watch_of c.args.watches.now c.args.k).place) ≡ b
above c b e = told (is_below c.args.p.now) c.is_below.ensures c.path-own.ensures e

pub cut-requires : goal.cut-requires
cut-requires c =
    nearer-room (watch_of c.args.watches.now c.args.k) (good (goal.at.cut-requires c).After-path-own) c.relative-r.ensures c.domain-d.ensures c.path-own.ensures

pub returns-then-is_below : goal.returns-then-is_below
returns-then-is_below c =
    let places = goal.at.returns-then-is_below c in
    c.cut.ensures
    ∙ cut-same c.relative-r.ensures c.domain-d.ensures c.path-own.ensures
    ∙ report_nearer _ _ (fits places.After-path-own) (slashed places.Else-not-begins) (above places.After-is_below true c.if-is_below.true)

pub cut-requires-2 : goal.cut-requires-2
cut-requires-2 c =
    let places = goal.at.cut-requires-2 c in
    further_room (watch_of c.args.watches.now c.args.k) (good places.After-path-own) c.relative-r.ensures c.domain-d.ensures _ c.requires.1
    (above places.After-is_below false c.if-is_below.false)

pub returns : goal.returns
returns c =
    let places = goal.at.returns c in
    c.cut-2.ensures
    ∙ cut-same c.relative-r.ensures c.domain-d.ensures refl
    ∙ report_further _ _ (fits places.After-path-own) (slashed places.Else-not-begins) (above places.After-is_below false c.if-is_below.false)
