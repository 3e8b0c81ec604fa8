-- In a sound table the way reaches the root, so the walk puts the whole path; the root's is a slash.
use native.Mathlib.Nat.{pos_of_ne-zero}
use native.Mathlib.Omega.{arith}
use Rattle.soundness.proofs.PathTexts.{nothing_lent, used-below, used_reaches, root_put, never_lost, path_put}
use Rattle.soundness.proofs.chain.path_of.Goals as goal

pub returns-then-i-eq0 : goal.returns-then-i-eq0
returns-then-i-eq0 c =
    let args = c.args in
    root_put args.t.now args.into.now args.i c.if-i-eq0.true (omega (arith, c.requires.2))

pub walk_up-requires : goal.walk_up-requires
walk_up-requires c =
    let args = c.args in (
      pos_of_ne-zero c.if-i-eq0.false,
      used-below args.t.now c.requires.0 args.i c.requires.1,
      c.requires.1,
      omega arith,
      omega arith,
      nothing_lent args.t.now c.requires.0 _ c.requires.2,
    )

pub returns-in-None : goal.returns-in-None
returns-in-None c =
    let args = c.args in
    absurd (never_lost args.t.now args.into.now _ args.i c.if-i-eq0.false
    (used_reaches args.t.now c.requires.0 args.i c.requires.1) c.requires.2 _ c.walk_up.ensures c.in-None.is)

pub returns-in-Some : goal.returns-in-Some
returns-in-Some c =
    let args = c.args in
    path_put args.t.now args.into.now _ args.i c.if-i-eq0.false
    (used_reaches args.t.now c.requires.0 args.i c.requires.1) c.requires.2 _ c.walk_up.ensures _ _ c.in-Some.is
