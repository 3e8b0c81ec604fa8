-- A depth is given, or its byte is asked.
use mathlib.Core.Path.{sym}
use borrow.Author.Tests.{eq-eqb, ne_eqb}
use Rattle.watches.specs.Checks.{depth_same}
use Rattle.watches.proofs.checks.depth_same.Goals as goal

pub returns-then-s-at-eq1 : goal.returns-then-s-at-eq1
unfolding depth_same
returns-then-s-at-eq1 c = sym (rw (eq-eqb _ _ c.if-s-at-eq1.true))

pub returns-else-s-at-eq1 : goal.returns-else-s-at-eq1
unfolding depth_same
returns-else-s-at-eq1 c = sym (rw (ne_eqb _ _ c.if-s-at-eq1.false))
