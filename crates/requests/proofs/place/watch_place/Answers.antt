-- An event's name is for the control domain; what is watched is the place that the payload gives.
use Prim.Native.Nat.{ℕ}
use mathlib.Core.Option.{Option}
use mathlib.Core.Path.{refl, sym, ap₂, ◌∙◌}
use Rattle.payload.specs.Strings.{part}
use Rattle.rules.specs.Payload.{Place}
use Rattle.rules.specs.World.{watching}
use Rattle.handlers.proofs.Alone.{watches-alone}
use Rattle.handlers.proofs.Ways.{handled_as, refused_so, same_tables_lem}
use Rattle.requests.proofs.PlaceLaws.{put_within, put_long, put_front, stands_so, foreign_place, own-place}
use Rattle.requests.proofs.place.watch_place.Goals as goal

pub returns-then-is_foreign : goal.returns-then-is_foreign
returns-then-is_foreign c =
    let a = c.args in
    let special = c.is_special-special.ensures in
    let foreign = c.is_foreign.ensures in
    λ w l e.
    refused_so w _ _ _ _ _
    (foreign_place _ a.path a.sender.domain c.requires.3.path _ c.requires.0 _ _ special foreign w _ c.if-is_foreign.true)
    (same_tables_lem refl refl (watches-alone w _ c.requires.2 l.watches) refl refl)

pub slice_bounds-text-end : goal.slice_bounds-text-end
slice_bounds-text-end c =
    let t = c.place_text-n in
    put_within _ _ _ _ t.ensures t.auto.into

pub slice_bounds-watch-end : goal.slice_bounds-watch-end
slice_bounds-watch-end c =
    let t = c.place_text-n in
    put_long _ _ _ _ t.ensures t.auto.into

pub watch-requires : goal.watch-requires
watch-requires c =
    let p = c.requires in
    let text = put_front _ _ _ _ c.place_text-n.ensures c.place_text-n.auto.into in
    let s = stands_so _ c.args.path c.args.sender.domain p.3.path _ _ _ c.is_special-special.ensures
    c.is_relative-relative.ensures text in
    (p.2, p.1, s.placed, s.named, c.depth_of.ensures.1, p.5, p.6)

pub returns : goal.returns
returns c =
    let a = c.args in
    let h = c.requires.3.path in
    let special = c.is_special-special.ensures in
    let text = put_front _ _ _ _ c.place_text-n.ensures c.place_text-n.auto.into in
    let s = stands_so _ a.path a.sender.domain h _ _ _ special c.is_relative-relative.ensures text in
    λ w l e.
    let own = own-place _ a.path a.sender.domain h _ c.requires.0 _ _ special c.is_foreign.ensures w _ c.if-is_foreign.false in
    handled_as
    (own ∙ sym (ap₂ (λ (p : Place) (n : Option ℕ). watching w a.sender.connection p (part a.start a.end a.s.now) n) s.place
    c.depth_of.ensures.0))
    (c.watch.ensures w l e)
