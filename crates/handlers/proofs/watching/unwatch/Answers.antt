-- The watch is dropped where there is one, and otherwise the table stays.
use mathlib.Core.Path.{ap}
use Rattle.std.specs.Prelude.{Ok}
use Rattle.handlers.proofs.WatchingLaws.{unwatch-unknown, unwatch-done}
use Rattle.handlers.proofs.Ways.{refused_so, done_so, same_tables_lem}
use mathlib.Core.Path.{refl, sym, ◌∙◌}
use Rattle.handlers.proofs.Alone.{watches-alone}
use Rattle.handlers.proofs.watching.unwatch.Goals as goal

pub returns-then-not-watched : goal.returns-then-not-watched
returns-then-not-watched c =
    let known = sym c.watched.ensures ∙ c.if-not-watched.true in
    let pre = c.requires in
    λ p q w l events. refused_so w _ _ events _ _
    (unwatch-unknown w _ p _ _ _ l.watches q known)
    (same_tables_lem refl refl (watches-alone w _ pre.0 l.watches) refl refl)

pub returns : goal.returns
returns c =
    let known = sym c.watched.ensures
    ∙ c.if-not-watched.false in
    λ p q w l events. done_so w _ _ _ events _ _ _ _ _ (unwatch-done w _ p _ _ _ l.watches q known) (ap Ok c.with_events.ensures)
    c.okay.ensures
    (same_tables_lem refl refl c.remove_twin.ensures refl refl)
