-- The five tests are those of the sizes.
use mathlib.Core.Path.{sym}
use borrow.Author.Tests.{eq-eqb, ne_eqb}
use Rattle.rules.specs.Call.{sized_tables}
use Rattle.haabuvilk.proofs.sizes.sized_tables.Goals as goal

pub returns-then-nodes-ne-TABLE_SIZE : goal.returns-then-nodes-ne-TABLE_SIZE
unfolding sized_tables
returns-then-nodes-ne-TABLE_SIZE c = sym (rw (ne_eqb _ _ c.if-nodes-ne-TABLE_SIZE.true))

pub returns-then-copies-ne-COPIES_SIZE : goal.returns-then-copies-ne-COPIES_SIZE
unfolding sized_tables
returns-then-copies-ne-COPIES_SIZE c = sym (rw (eq-eqb _ _ c.if-nodes-ne-TABLE_SIZE.false, ne_eqb _ _ c.if-copies-ne-COPIES_SIZE.true))

pub returns-then-watches-ne-WATCHES_SIZE : goal.returns-then-watches-ne-WATCHES_SIZE
unfolding sized_tables
returns-then-watches-ne-WATCHES_SIZE c = sym
    (rw (eq-eqb _ _ c.if-nodes-ne-TABLE_SIZE.false, eq-eqb _ _ c.if-copies-ne-COPIES_SIZE.false, ne_eqb _ _ c.if-watches-ne-WATCHES_SIZE.true))

pub returns-then-transactions-ne-TRANSACTIONS_SIZE : goal.returns-then-transactions-ne-TRANSACTIONS_SIZE
unfolding sized_tables
returns-then-transactions-ne-TRANSACTIONS_SIZE c = sym (rw (
  eq-eqb _ _ c.if-nodes-ne-TABLE_SIZE.false,
  eq-eqb _ _ c.if-copies-ne-COPIES_SIZE.false,
  eq-eqb _ _ c.if-watches-ne-WATCHES_SIZE.false,
  ne_eqb _ _ c.if-transactions-ne-TRANSACTIONS_SIZE.true,
))

pub returns : goal.returns
unfolding sized_tables
returns c = sym (rw (
  eq-eqb _ _ c.if-nodes-ne-TABLE_SIZE.false,
  eq-eqb _ _ c.if-copies-ne-COPIES_SIZE.false,
  eq-eqb _ _ c.if-watches-ne-WATCHES_SIZE.false,
  eq-eqb _ _ c.if-transactions-ne-TRANSACTIONS_SIZE.false,
))
