-- The parent and the name's digest are the key's parts, and a parent is below 128, so the key fits 16 bits.
use mathlib.Core.Path.{sym, ◌∙◌, ap}
use native.Mathlib.Omega.{arith}
use lib.ListN.{length}
use Rattle.soundness.proofs.WalkLaws.{name-short}
use Rattle.soundness.proofs.KeyLaws.{key_none, key_some}
use Rattle.soundness.proofs.pairs.key_of.Goals as goal

pub returns-then-not-used : goal.returns-then-not-used
returns-then-not-used c = key_none _ (sym c.used.ensures ∙ c.if-not-used.true)

pub digest-requires : goal.digest-requires
digest-requires c =
    let args = c.args in
    omega (arith, ap length c.name.ensures, name-short args.t.now args.i)

pub returns : goal.returns
returns c =
    let args = c.args in
    key_some args.t.now args.i _ _ _ (sym c.used.ensures ∙ c.if-not-used.false)
    c.parent-p.ensures.1 c.name.ensures c.digest.ensures.0
