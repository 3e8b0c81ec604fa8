-- The payload is two strings or three; the third is the depth.
use mathlib.Core.Path.{sym, ◌∙◌}
use native.Mathlib.Omega.{arith}
use Rattle.payload.proofs.PartsLaws.{ThreeStrings, two_told, three_told}
use Rattle.payload.proofs.WatchLaws.{watch_two, watch_three, watch_no_depth, watch_other}
use Rattle.payload.proofs.watch.watch.Goals as goal
use Rattle.payload.proofs.watch.watch.Goals.{In-Three}

three : (c : In-Three) → ThreeStrings c.args.s.now c.in-Three.a c.in-Three.b c.in-Three.c
three c = three_told _ _ _ _ (sym c.apart.ensures ∙ c.in-Three.is)

pub watching-requires : goal.watching-requires
watching-requires c =
    let t = two_told _ _ _ (sym c.apart.ensures ∙ c.in-Two.is) in
    (t.low, t.high)

pub overflow_add-b : goal.overflow_add-b
overflow_add-b c =
    let t = three (goal.at.overflow_add-b c).In-Three in
    omega (arith, c.well_formed)

pub slice_bounds-small-count : goal.slice_bounds-small-count
slice_bounds-small-count c = let t = three (goal.at.slice_bounds-small-count c).In-Three in omega arith

pub slice_bounds-small-start : goal.slice_bounds-small-start
slice_bounds-small-start c = let t = three (goal.at.slice_bounds-small-start c).In-Three in omega arith

pub slice_bounds-small-end : goal.slice_bounds-small-end
slice_bounds-small-end c = let t = three (goal.at.slice_bounds-small-end c).In-Three in omega arith

pub watching-requires-in-Three : goal.watching-requires-in-Three
watching-requires-in-Three c =
    let t = three (goal.at.watching-requires-in-Three c).In-Three in
    (t.low, omega arith)

pub returns-in-Two : goal.returns-in-Two
returns-in-Two c =
    let t = two_told _ _ _ (sym c.apart.ensures ∙ c.in-Two.is) in
    watch_two _ _ _ _ t.all (c.watching.ensures tt)

pub returns-in_err-depth-in-Three : goal.returns-in_err-depth-in-Three
returns-in_err-depth-in-Three c =
    let t = three (goal.at.returns-in_err-depth-in-Three c).In-Three in
    rw c.from_residual.ensures (watch_no_depth _ _ _ _ t.all (sym c.in_err-depth-in-Three.ensures))

pub returns-in_ok-depth-in-Three : goal.returns-in_ok-depth-in-Three
returns-in_ok-depth-in-Three c =
    let t = three (goal.at.returns-in_ok-depth-in-Three c).In-Three in
    watch_three _ _ _ _ t.all _ _ (sym c.in_ok-depth-in-Three.ensures) c.watching-in-Three.ensures

pub returns-in_default : goal.returns-in_default
returns-in_default c =
    watch_other _ (λ a b h. c.in_default.not-Two a b (c.apart.ensures ∙ h)) (λ a b e h. c.in_default.not-Three a b e (c.apart.ensures ∙ h))
