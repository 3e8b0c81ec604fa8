-- A slot's way to the root is its parent's and one step more, and its text the parent's with a slash and its name behind it.
use mathlib.Core.Path.{◌≡◌, sym, ap, ◌∙◌}
use native.Mathlib.Nat.{pos_of_ne-zero}
use native.Mathlib.Omega.{arith}
use lib.ListN.{length, length-set}
use Rattle.rules.specs.Size.{longest_name, longest_path}
use Rattle.soundness.proofs.WalkLaws.{walked_root, walked_none, walked_unused, walked_far, walked_near, walked_lost, walked_count, walked_bare}
use Rattle.soundness.proofs.WalkLaws.{walked_place, walked_up, name-short, Step, step_up}
use Prim.Native.Nat.{ℕ, ◌+◌, ◌≤◌}
use Rattle.soundness.proofs.chain.+walk_walk_up.Goals as goal
use Rattle.soundness.proofs.chain.+walk_walk_up.Goals.{walk-After-parent, walk_up-Else-into-eq0}

pub walk-returns-then-i-eq0 : goal.walk-returns-then-i-eq0
walk-returns-then-i-eq0 t c = walked_root _ _ c.args.steps c.args.i c.if-i-eq0.true

pub walk-returns-then-steps-eq0 : goal.walk-returns-then-steps-eq0
walk-returns-then-steps-eq0 t c =
    let args = c.args in
    walked_none _ _ args.steps args.i c.if-i-eq0.false c.if-steps-eq0.true

pub walk-returns-then-not-used : goal.walk-returns-then-not-used
walk-returns-then-not-used t c =
    let args = c.args in
    walked_unused _ _ args.steps args.i c.if-i-eq0.false (sym c.used.ensures ∙ c.if-not-used.true)

walk_step : {t : ℕ} (c : walk-After-parent t) → Step c.args.t.now c.args.steps c.args.i c.parent.result
walk_step c =
    record {
      below = pos_of_ne-zero c.if-i-eq0.false;
      left = pos_of_ne-zero c.if-steps-eq0.false;
      used = sym c.used.ensures ∙ c.if-not-used.false;
      parent = c.parent.ensures.1;
    }

pub walk-returns-then-steps-above : goal.walk-returns-then-steps-above
walk-returns-then-steps-above t c =
    walked_far _ _ c.args.steps c.args.i _ (walk_step (goal.at.walk-returns-then-steps-above t c).After-parent) c.requires.1 _ c.requires.2
    c.if-above-eq0.false (omega (arith, c.requires.1, c.if-steps-above.true))

pub walk-returns : goal.walk-returns
walk-returns t c =
    walked_near _ _ c.args.steps c.args.i _ (walk_step (goal.at.walk-returns t c).After-parent) c.requires.1 _ c.requires.2
    c.if-above-eq0.false (omega (arith, c.if-steps-above.false))

pub walk_up-returns-in_err-up : goal.walk_up-returns-in_err-up
walk_up-returns-in_err-up t c =
    let args = c.args in
    rw c.from_residual.ensures
    (walked_lost _ _ args.steps args.i _ (step_up c.requires c.parent.ensures.1) _ _ c.walk.ensures c.in_err-up.was)

pub walk_up-overflow_add-steps : goal.walk_up-overflow_add-steps
walk_up-overflow_add-steps t c =
    let args = c.args in
    let n = walked_count _ _ args.steps args.i _ (step_up c.requires c.parent.ensures.1) _ _ c.walk.ensures _ _ c.in_ok-up.was in
    record { fits = omega (arith, c.requires.4) }

pub walk_up-returns-then-into-eq0 : goal.walk_up-returns-then-into-eq0
walk_up-returns-then-into-eq0 t c =
    let args = c.args in
    walked_bare _ _ args.steps args.i _ (step_up c.requires c.parent.ensures.1) _ _ c.walk.ensures _ _ c.in_ok-up.was
    (sym c.walk.auto.into ∙ c.if-into-eq0.true)

filled : {t : ℕ} (c : walk_up-Else-into-eq0 t) → length c.args.into.now ≡ 0 → ⊥
filled c z = c.if-into-eq0.false (c.walk.auto.into ∙ z)

room : {t : ℕ} (c : walk_up-Else-into-eq0 t)
    → (c.in_ok-up.up.length + 1 + longest_name ≤ longest_path)
    × (longest_path ≤ length c.walk.new.into)
room c =
    let p = c.requires in
    let n = filled c in (
      walked_place _ _ c.args.steps c.args.i _ (step_up p c.parent.ensures.1) _ _ c.walk.ensures _ _ c.in_ok-up.was n p.4,
      omega (arith, c.walk.auto.into, p.5.room n),
    )

pub walk_up-bounds-into-at : goal.walk_up-bounds-into-at
walk_up-bounds-into-at t c = omega (arith, room (goal.at.walk_up-bounds-into-at t c).Else-into-eq0)

pub walk_up-overflow_add-at : goal.walk_up-overflow_add-at
walk_up-overflow_add-at t c = record { fits = omega (arith, (room (goal.at.walk_up-overflow_add-at t c).Else-into-eq0).0) }

pub walk_up-copy-requires : goal.walk_up-copy-requires
walk_up-copy-requires t c =
    let args = c.args in
    rw length-set (omega (arith, room (goal.at.walk_up-copy-requires t c).Else-into-eq0, ap length c.name-s.ensures, name-short args.t.now args.i))

pub walk_up-overflow_add-length : goal.walk_up-overflow_add-length
walk_up-overflow_add-length t c = record { fits = omega (arith, (room (goal.at.walk_up-overflow_add-length t c).Else-into-eq0).0) }

pub walk_up-overflow_add-length-2 : goal.walk_up-overflow_add-length-2
walk_up-overflow_add-length-2 t c =
    let places = goal.at.walk_up-overflow_add-length-2 t c in
    let args = c.args in
    record {
      fits = omega (arith, (room places.Else-into-eq0).0, ap length c.name-s.ensures, name-short args.t.now args.i);
    }

pub walk_up-returns : goal.walk_up-returns
walk_up-returns t c =
    let places = goal.at.walk_up-returns t c in
    let args = c.args in
    let len = c.walk.auto.into in
    walked_up _ _ args.steps args.i _ (step_up c.requires c.parent.ensures.1) _ _ c.walk.ensures _ _ c.in_ok-up.was
    (filled places.Else-into-eq0) len (omega (arith, room places.Else-into-eq0, len)) _ c.name-s.ensures _ c.copy.ensures
