-- An event's name is for the control domain; what is dropped is on the place that the payload gives.
use mathlib.Core.Path.{refl, sym}
use Rattle.payload.specs.Meaning.{place_at}
use Rattle.handlers.proofs.Alone.{watches-alone}
use Rattle.handlers.proofs.Ways.{handled_as, refused_so, same_tables_lem}
use Rattle.requests.proofs.PlaceLaws.{put_within, put_long, put_front, foreign_place, own-place}
use Rattle.requests.proofs.place.unwatch_place.Goals as goal

pub returns-then-is_foreign : goal.returns-then-is_foreign
returns-then-is_foreign c =
    let a = c.args in
    let special = c.is_special.ensures in
    let foreign = c.is_foreign.ensures in
    λ w l events.
    refused_so w _ _ events _ _
    (foreign_place _ a.path a.sender.domain c.requires.2.path _ c.requires.0 _ _ special foreign w _ c.if-is_foreign.true)
    (same_tables_lem refl refl (watches-alone w _ c.requires.1 l.watches) refl refl)

pub slice_bounds-text-end : goal.slice_bounds-text-end
slice_bounds-text-end c =
    let t = c.place_text-n in
    put_within _ _ _ _ t.ensures t.auto.into

pub slice_bounds-unwatch-end : goal.slice_bounds-unwatch-end
slice_bounds-unwatch-end c =
    let t = c.place_text-n in
    put_long _ _ _ _ t.ensures t.auto.into

pub returns : goal.returns
returns c =
    let a = c.args in
    let it = place_at a.sender.domain a.s.now a.path in
    let text = put_front _ _ _ _ c.place_text-n.ensures c.place_text-n.auto.into in
    let special = c.is_special.ensures in
    let foreign = c.is_foreign.ensures in
    λ w l events.
    let own = own-place _ a.path a.sender.domain c.requires.2.path _ c.requires.0 _ _ special foreign w _ c.if-is_foreign.false in
    handled_as own (c.unwatch.ensures it (sym text) w l events)
