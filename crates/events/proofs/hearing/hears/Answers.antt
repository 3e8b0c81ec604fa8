-- A watch whose text begins with a slash is on a full path; any other hears no change of a node.
use mathlib.Core.Path.{sym, ◌∙◌}
use Rattle.watches.specs.Watch.{TakenWatch}
use Rattle.domains.proofs.Search.{passes_free}
use Rattle.events.proofs.HearingLaws.{taken_here, OnPath, on_path, deaf, hears_so}
use Rattle.events.proofs.hearing.hears.Goals as goal
use Rattle.events.proofs.hearing.hears.Goals.{Else-not-begins, Else-not-used}

pub returns-then-not-used : goal.returns-then-not-used
returns-then-not-used c = sym (passes_free _ _ (sym c.used.ensures ∙ c.if-not-used.true))

abbrev taken : (c : Else-not-used) → TakenWatch c.args.watches.now c.args.k
taken c = taken_here c.requires.0 c.requires.1.kept c.used.ensures c.if-not-used.false

pub returns-then-not-begins : goal.returns-then-not-begins
returns-then-not-begins c =
    let places = goal.at.returns-then-not-begins c in
    deaf _ _ (taken places.Else-not-used) _ c.path-own.ensures _ _ _ (sym c.begins.ensures ∙ c.if-not-begins.true)

on : (c : Else-not-begins)
    → OnPath c.args.watches.now c.args.k (taken_here c.requires.0 c.requires.1.kept c.used.ensures c.if-not-used.false) c.path-own.result.now
    c.path-own.ensures
on c = on_path _ _ _ _ _ (sym c.begins.ensures ∙ c.if-not-begins.false)

pub hears_on-requires : goal.hears_on-requires
hears_on-requires c =
    (c.requires.1.sound, (on (goal.at.hears_on-requires c).Else-not-begins).full, c.requires.2)

pub returns : goal.returns
returns c =
    let places = goal.at.returns c in
    c.hears_on.ensures _ c.domain.ensures c.depth.ensures
    ∙ hears_so _ _ (taken places.Else-not-used) _ c.path-own.ensures _ _ _ (on places.Else-not-begins)
