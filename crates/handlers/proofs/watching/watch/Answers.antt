-- A free place takes the watch if it is new and short, and its first event is recorded; otherwise every table stays.
use Rattle.std.specs.Prelude.{Ok}
use Rattle.watches.specs.Watch.{watch_given}
use lib.ListN.{length}
use mathlib.Core.List.{List, flat_map}
use native.Mathlib.Omega.{arith}
use mathlib.Core.Path.{refl, sym, ap, ◌∙◌}
use Rattle.rules.specs.World.{fresh_world}
use Rattle.rules.specs.Event.{Record}
use Rattle.rules.specs.Octets.{paste}
use Rattle.watches.proofs.Bytes.{length-watches_of}
use Rattle.handlers.proofs.PlainLaws.{recorded-first}
use Rattle.handlers.proofs.Ways.{none-free, some_free, free-below, refused_so, heard_so, same_tables_lem}
use Rattle.handlers.proofs.WatchingLaws.{watch_twice, watch-long, watch-full, watch-done, watched-place, fit_watch, new_taken, first-same}
use Rattle.rules.specs.Layout.{record_bytes}
use Rattle.handlers.proofs.Alone.{watches-alone}
use Rattle.handlers.proofs.watching.watch.Goals as goal

pub returns-then-watched : goal.returns-then-watched
returns-then-watched c =
    let args = c.args in
    let pre = c.requires in
    let twice = watched-place args.special _ _ args.relative _ _ _ pre.2 (sym c.watched.ensures ∙ c.if-watched.true) in
    λ w l events. refused_so w _ _ _ _ _
    (watch_twice w _ _ _ _ _ l.watches (length-watches_of _) twice)
    (same_tables_lem refl refl (watches-alone w _ pre.0 l.watches) refl refl)

pub returns-then-not-is_short : goal.returns-then-not-is_short
returns-then-not-is_short c =
    let args = c.args in
    let pre = c.requires in
    let fresh = watched-place args.special _ _ args.relative _ _ _ pre.2
    (sym c.watched.ensures ∙ c.if-watched.false) in
    λ w l events. refused_so w _ _ _ _ _
    (watch-long w _ _ _ _ _ l.watches (length-watches_of _) fresh
    (sym (c.is_short.ensures w args.relative) ∙ c.if-not-is_short.true)) (same_tables_lem refl refl (watches-alone w _ pre.0 l.watches) refl refl)

pub returns-in_default : goal.returns-in_default
returns-in_default c =
    let args = c.args in
    let pre = c.requires in
    let fresh = watched-place args.special _ _ args.relative _ _ _ pre.2
    (sym c.watched.ensures ∙ c.if-watched.false) in
    λ w l events. refused_so w _ _ _ _ _
    (watch-full w _ _ _ _ _ l.watches (length-watches_of _) fresh
    (sym (c.is_short.ensures w args.relative) ∙ c.if-not-is_short.false) _
    (none-free _ _ _ c.lowest_free.ensures.found c.in_default.not-Some) (omega arith)) (same_tables_lem refl refl (watches-alone w _ pre.0 l.watches) refl refl)

pub add-requires : goal.add-requires
add-requires c =
    let args = c.args in
    let pre = c.requires in
    let short = sym (c.is_short.ensures fresh_world args.relative)
    ∙ c.if-not-is_short.false in
    ((free-below _ _ c.lowest_free.ensures.below _ c.in-Some.is), pre.0, fit_watch fresh_world args.special args.relative args.c _ _ pre.2 pre.3 pre.1 short)

pub first-n-requires : goal.first-n-requires
first-n-requires c =
    let args = c.args in
    let pre = c.requires in
    let short = sym (c.is_short.ensures fresh_world args.relative) ∙ c.if-not-is_short.false in
    let fit = fit_watch fresh_world args.special args.relative args.c _ _ pre.2 pre.3 pre.1 short in (
      new_taken _ pre.0 _ (free-below _ _ c.lowest_free.ensures.below _ c.in-Some.is) _ _ _ args.depth _ fit pre.4 _
          c.add.ensures,
      pre.6,
    )

pub returns : goal.returns
unfolding watch_given
returns c =
    let args = c.args in
    let pre = c.requires in
    let below = (free-below _ _ c.lowest_free.ensures.below _ c.in-Some.is) in
    let measured = c.is_short.ensures in
    let short = c.if-not-is_short.false in
    let fit = fit_watch fresh_world args.special args.relative args.c _ _ pre.2 pre.3 pre.1
    (sym (measured fresh_world args.relative) ∙ short) in
    let fresh = watched-place args.special _ _ args.relative _ _ _ pre.2
    (sym c.watched.ensures ∙ c.if-watched.false) in
    let f = recorded-first _ _ _ _ c.first-n.ensures in
    let same = first-same _ pre.0 _ below _ _ _ args.depth _ fit pre.4 _
    c.add.ensures in
    λ w l events. heard_so w _ _ _ _ _ _ _ _ _ _ _ _
    (watch-done w _ _ _ _ _ l.watches (length-watches_of _) fresh (sym (measured w args.relative) ∙ short) _
    (some_free _ _ _ c.lowest_free.ensures.found _ c.in-Some.is) below)
    (ap Ok c.with_events.ensures) c.okay.ensures
    (f.0 ∙ ap (λ (rs : List Record). paste 0 (flat_map record_bytes rs) args.events.now) same) (f.1 ∙ ap length same)
    (same_tables_lem refl refl c.add.ensures refl refl)
