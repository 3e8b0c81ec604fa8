-- The path stands behind the change's fields, as long as they say.
use native.Mathlib.Omega.{arith}
use Rattle.transactions.proofs.ChangeLaws.{place-within, length-read, path-read, change-fits}
use Rattle.transactions.proofs.places.path.Goals as goal

pub overflow_mul-at-2 : goal.overflow_mul-at-2
overflow_mul-at-2 c = let args = c.args in omega (arith, place-within args.s.now args.k args.j c.requires)

pub overflow_add-at-2 : goal.overflow_add-at-2
overflow_add-at-2 c = let args = c.args in omega (arith, place-within args.s.now args.k args.j c.requires)

pub number-requires : goal.number-requires
number-requires c = let args = c.args in omega (arith, place-within args.s.now args.k args.j c.requires)

pub overflow_add-from : goal.overflow_add-from
overflow_add-from c = let args = c.args in omega (arith, place-within args.s.now args.k args.j c.requires)

pub overflow_add-result : goal.overflow_add-result
overflow_add-result c = let args = c.args in omega (arith, place-within args.s.now args.k args.j c.requires)

pub slice_bounds-result-end : goal.slice_bounds-result-end
slice_bounds-result-end c =
    let s = c.args.s.now in
    let k = c.args.k in
    let j = c.args.j in
    omega (arith, place-within s k j c.requires, length-read s k j c.requires _ c.number.ensures.read, (change-fits s k j c.requires).short)

pub returns : goal.returns
returns c =
    let s = c.args.s.now in
    let k = c.args.k in
    let j = c.args.j in
    path-read s k j c.requires _ (length-read s k j c.requires _ c.number.ensures.read)
