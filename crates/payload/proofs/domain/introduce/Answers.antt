-- The payload is three strings, each a number within its range: a domain, a page and a channel.
use mathlib.Core.Path.{sym, ◌∙◌}
use native.Mathlib.Omega.{arith}
use lib.Seq.{length-take-le}
use Rattle.payload.proofs.PartsLaws.{ThreeStrings, three_told}
use Rattle.payload.proofs.DomainLaws.{introduce_other, introduce_no_domain, introduce_no_page, introduce_no_channel, introduce_means}
use Rattle.payload.proofs.domain.introduce.Goals as goal
use Rattle.payload.proofs.domain.introduce.Goals.{In-Three}

three : (c : In-Three) → ThreeStrings c.args.s.now c.in-Three.a c.in-Three.b c.in-Three.c
three c = three_told _ _ _ _ (sym c.apart.ensures ∙ c.in-Three.is)

pub returns-in_default : goal.returns-in_default
returns-in_default c = introduce_other _ (λ a b e h. c.in_default.not-Three a b e (c.apart.ensures ∙ h))

pub slice_bounds-small-end : goal.slice_bounds-small-end
slice_bounds-small-end c = sym (length-take-le _ _ (let t = three (goal.at.slice_bounds-small-end c).In-Three in omega arith))

pub returns-in_err-domain : goal.returns-in_err-domain
returns-in_err-domain c =
    let t = three (goal.at.returns-in_err-domain c).In-Three in
    rw c.from_residual.ensures (introduce_no_domain _ _ _ _ t (sym c.in_err-domain.ensures))

pub overflow_add-a : goal.overflow_add-a
overflow_add-a c =
    let t = three (goal.at.overflow_add-a c).In-Three in
    omega (arith, c.well_formed)

pub slice_bounds-signed-count : goal.slice_bounds-signed-count
slice_bounds-signed-count c = let t = three (goal.at.slice_bounds-signed-count c).In-Three in omega arith

pub slice_bounds-signed-start : goal.slice_bounds-signed-start
slice_bounds-signed-start c = let t = three (goal.at.slice_bounds-signed-start c).In-Three in omega arith

pub slice_bounds-signed-end : goal.slice_bounds-signed-end
slice_bounds-signed-end c = let t = three (goal.at.slice_bounds-signed-end c).In-Three in omega arith

pub returns-in_err-page : goal.returns-in_err-page
returns-in_err-page c =
    let t = three (goal.at.returns-in_err-page c).In-Three in
    rw c.from_residual-in_err-page.ensures (introduce_no_page _ _ _ _ t _ (sym c.in_ok-domain.ensures) (sym c.in_err-page.ensures))

pub overflow_add-b : goal.overflow_add-b
overflow_add-b c =
    let t = three (goal.at.overflow_add-b c).In-Three in
    omega (arith, c.well_formed)

pub slice_bounds-small-count : goal.slice_bounds-small-count
slice_bounds-small-count c = let t = three (goal.at.slice_bounds-small-count c).In-Three in omega arith

pub slice_bounds-small-start : goal.slice_bounds-small-start
slice_bounds-small-start c = let t = three (goal.at.slice_bounds-small-start c).In-Three in omega arith

pub slice_bounds-small-end-2 : goal.slice_bounds-small-end-2
slice_bounds-small-end-2 c = let t = three (goal.at.slice_bounds-small-end-2 c).In-Three in omega arith

pub returns-in_err-channel : goal.returns-in_err-channel
returns-in_err-channel c =
    let t = three (goal.at.returns-in_err-channel c).In-Three in
    rw c.from_residual-in_err-channel.ensures
    (introduce_no_channel _ _ _ _ t _ (sym c.in_ok-domain.ensures) _ (sym c.in_ok-page.ensures) (sym c.in_err-channel.ensures))

pub returns : goal.returns
returns c =
    let t = three (goal.at.returns c).In-Three in
    introduce_means _ _ _ _ t _ (sym c.in_ok-domain.ensures) _ (sym c.in_ok-page.ensures) _ (sym c.in_ok-channel.ensures)
