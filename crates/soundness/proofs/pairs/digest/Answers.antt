-- A name of two bytes or more has all the bytes that the digest takes; a shorter one is told apart by its length.
use native.Mathlib.Omega.{arith}
use Rattle.soundness.proofs.KeyLaws.{digest_small, digest_large, digest_bound, digest_none}
use Rattle.soundness.proofs.pairs.digest.Goals as goal

pub returns-then-n-eq0 : goal.returns-then-n-eq0
returns-then-n-eq0 c = (digest_none c.args.s.now c.if-n-eq0.true, omega arith)

pub returns-then-n-eq1 : goal.returns-then-n-eq1
returns-then-n-eq1 c =
    let s = c.args.s.now in
    let e = digest_small s (omega (arith, c.if-n-eq1.true)) in
    (e, omega (arith, e, digest_bound s))

pub returns : goal.returns
returns c =
    let s = c.args.s.now in
    let e = digest_large s (omega arith) in
    (e, omega (arith, e, digest_bound s))
