-- The names before the one in turn are made; the rest is still to be, below the one that was made last.
use mathlib.Core.Path.{◌∙◌, refl}
use native.Mathlib.Omega.{arith}
use Rattle.paths.proofs.PieceLaws.{end_low}
use Rattle.making.proofs.MadeLaws.{made_none, to_make, free_one, last_short, made_last, next_short, made_next}
use Rattle.making.proofs.making.make.Goals as goal

pub returns-then-path-at : goal.returns-then-path-at
returns-then-path-at c =
    let args = c.args in
    made_none args.path.now args.value.now args.t.now args.domain args.slot args.at c.requires.used.1 c.if-path-at.true

pub loop-t-init : goal.loop-t-init
loop-t-init c =
    let args = c.args in
    let pre = c.requires in
    let all = to_make args.path.now args.value.now args.t.now args.domain args.slot args.at c.if-path-at.false in
    (all pre.used.1 pre.used.0 pre.used.2 pre.short pre.room, refl)

pub make_one-requires : goal.make_one-requires
make_one-requires c =
    let rest = c.loop-t.invariant.0 in
    let fit = c.requires.sizes in
    let short = last_short _ _ _ _ _ _ _ rest fit.1 (rw c.name_end-end.ensures at c.if-path-end.true) in
    (rest.slot, rest.canonical, rest.used, record { name = short; value = fit.0; domain = fit.1 }, free_one _ _ _ _ _ _ _ rest fit.1)

pub returns-then-path-end : goal.returns-then-path-end
returns-then-path-end c =
    let made = c.make_one.ensures in
    let last = rw c.name_end-end.ensures at c.if-path-end.true in
    made_last _ _ _ _ _ _ _ c.loop-t.invariant.0 c.requires.sizes.1 last made.0 made.1

pub slice_bounds-make_one-count-in-loop-t : goal.slice_bounds-make_one-count-in-loop-t
slice_bounds-make_one-count-in-loop-t c =
    let turn = c.loop-t in
    rw c.name_end-end.ensures (end_low _ turn.from turn.invariant.0.inside)

pub slice_bounds-make_one-start-in-loop-t : goal.slice_bounds-make_one-start-in-loop-t
slice_bounds-make_one-start-in-loop-t c = slice_bounds-make_one-count-in-loop-t c

pub make_one-parent-requires : goal.make_one-parent-requires
make_one-parent-requires c =
    let rest = c.loop-t.invariant.0 in
    let fit = c.requires.sizes in
    let short = next_short _ _ _ _ _ _ _ rest fit.1 _ c.name_end-end.ensures c.if-path-end.false in
    (rest.slot, rest.canonical, rest.used, record { name = short; value = omega arith; domain = fit.1 }, free_one _ _ _ _ _ _ _ rest fit.1)

pub loop-t-smaller : goal.loop-t-smaller
loop-t-smaller c =
    let turn = c.loop-t in
    let path = c.args.path.now in
    omega (arith, end_low path turn.from turn.invariant.0.inside, c.name_end-end.ensures, c.if-path-end.false)

pub loop-t-preserved : goal.loop-t-preserved
loop-t-preserved c =
    let inv = c.loop-t.invariant in
    let domain = c.requires.sizes.1 in
    let made = c.make_one-parent.ensures in
    (made_next _ _ _ _ _ _ _ inv.0 domain _ c.name_end-end.ensures c.if-path-end.false made.0 made.1, c.make_one-parent.auto.t ∙ inv.1)
