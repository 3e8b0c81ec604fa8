-- A free slot's key is 0 and clashes with none; a key whose place was not taken was not met.
use mathlib.Core.Path.{ap}
use mathlib.Core.Bool.{not}
use borrow.Author.Tests.{eq-eqb, ne_eqb}
use Rattle.soundness.specs.Keys.{may_clash}
use Rattle.soundness.proofs.Tests.{stop, pass}
use Rattle.soundness.proofs.pairs.may_clash.Goals as goal

pub returns-then-key-eq0 : goal.returns-then-key-eq0
unfolding may_clash
returns-then-key-eq0 c = stop _ (ap not (eq-eqb _ 0 c.if-key-eq0.true))

pub returns-then-taken-place-eq0 : goal.returns-then-taken-place-eq0
unfolding may_clash
returns-then-taken-place-eq0 c = pass (ap not (ne_eqb _ 0 c.if-key-eq0.false)) (stop _ (ap not (eq-eqb _ 0 c.if-taken-place-eq0.true)))

pub returns : goal.returns
unfolding may_clash
returns c =
    pass (ap not (ne_eqb _ 0 c.if-key-eq0.false)) (pass (ap not (ne_eqb _ 0 c.if-taken-place-eq0.false)) c.has_key.ensures)
