-- The tests are those of a good change, but that its path fits.
use mathlib.Core.Path.{sym, ◌∙◌}
use borrow.Author.Tests.{eq-eqb, ne_eqb}
use Rattle.transactions.proofs.Good.{removed-made, removed-none, written_none, written-made}
use Rattle.transactions.proofs.checks.parents_good.Goals as goal

pub returns-then-parents-eq0 : goal.returns-then-parents-eq0
returns-then-parents-eq0 c =
    sym (removed-none _ _ _ c.requires.1 c.if-removed.true c.if-parents-eq0.true _ c.depth.ensures)

pub returns-else-parents-eq0 : goal.returns-else-parents-eq0
returns-else-parents-eq0 c =
    ne_eqb _ _ c.if-parents-eq0.false ∙ sym (removed-made _ _ _ c.requires.1 c.if-removed.true c.if-parents-eq0.false)

pub returns-then-parents-eq0-2 : goal.returns-then-parents-eq0-2
returns-then-parents-eq0-2 c =
    eq-eqb _ _ c.if-parents-eq0-2.true ∙ sym (written_none _ _ _ c.requires.1 c.if-removed.false c.if-parents-eq0-2.true)

pub returns-else-parents-eq0-2 : goal.returns-else-parents-eq0-2
returns-else-parents-eq0-2 c =
    sym (written-made _ _ _ c.requires.1 c.if-removed.false c.if-parents-eq0-2.false _ c.depth-else-parents-eq0-2.ensures)
