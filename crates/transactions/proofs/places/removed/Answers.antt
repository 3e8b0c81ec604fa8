-- The first bit of the change says it.
use native.Mathlib.Omega.{arith}
use Rattle.transactions.proofs.ChangeLaws.{place-within, removed-read}
use Rattle.transactions.proofs.places.removed.Goals as goal

pub overflow_mul-result-2 : goal.overflow_mul-result-2
overflow_mul-result-2 c = let args = c.args in omega (arith, place-within args.s.now args.k args.j c.requires)

pub overflow_add-result-2 : goal.overflow_add-result-2
overflow_add-result-2 c = let args = c.args in omega (arith, place-within args.s.now args.k args.j c.requires)

pub bounds-s-k : goal.bounds-s-k
bounds-s-k c = let args = c.args in omega (arith, place-within args.s.now args.k args.j c.requires)

pub returns : goal.returns
returns c = let args = c.args in removed-read args.s.now args.k args.j c.requires
