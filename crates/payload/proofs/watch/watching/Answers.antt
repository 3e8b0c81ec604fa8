-- The first string is a path or an event's name, and a depth that is given has to suit it.
use mathlib.Core.Path.{sym, subst, subst⁻¹, ◌∙◌}
use Rattle.std.specs.Prelude.{Some}
use Rattle.payload.specs.Meaning.{DepthSound}
use Rattle.payload.proofs.WatchLaws.{Fits, watch_not, watch_unfit, watch_means}
use Rattle.payload.proofs.watch.watching.Goals as goal
use Rattle.payload.proofs.watch.watching.Goals.{in-Some+else-not-depth_fits, in_default}

pub returns-in_err-path : goal.returns-in_err-path
returns-in_err-path c x = rw c.from_residual.ensures (watch_not _ _ (sym c.in_err-path.ensures) _ _)

pub returns-then-not-depth_fits : goal.returns-then-not-depth_fits
returns-then-not-depth_fits c x =
    let t = c.requires in
    rw c.in-Some.is (watch_unfit _ _ _ _ t.0 t.1 (sym c.in_ok-path.ensures) _ (sym c.depth_fits.ensures ∙ c.if-not-depth_fits.true))

pub returns : goal.returns
returns c x =
    let t = c.requires in
    let is-placed = sym c.in_ok-path.ensures in
    elim c.match-depth.branch [
      | in-Some+else-not-depth_fits w ↦ rw (w.depth-is, w.in-Some.is)
          (watch_means _ _ _ _ t.0 t.1 is-placed (Some w.in-Some.k) (sym w.depth_fits.ensures ∙ w.if-not-depth_fits.false) (subst DepthSound w.in-Some.is x))
      | in_default w ↦ rw w.depth-is (watch_means _ _ _ _ t.0 t.1 is-placed c.args.depth (subst⁻¹ (Fits _ _ _ _ t.0 t.1 is-placed) w.in_default.is tt) x)
    ]
