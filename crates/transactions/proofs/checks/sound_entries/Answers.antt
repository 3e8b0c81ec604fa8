-- The tests are those of sound entries, in their order.
use mathlib.Core.Path.{sym, ◌∙◌}
use borrow.Author.Tests.{eq-eqb, ne_eqb}
use Rattle.transactions.specs.Checks.{sound_entries}
use Rattle.transactions.proofs.Good.{kept_of}
use Rattle.transactions.proofs.checks.sound_entries.Goals as goal

pub returns-then-s-ne-TRANSACTIONS_SIZE : goal.returns-then-s-ne-TRANSACTIONS_SIZE
unfolding sound_entries
returns-then-s-ne-TRANSACTIONS_SIZE c = sym (rw (ne_eqb _ _ c.if-s-ne-TRANSACTIONS_SIZE.true))

pub returns-else-kept : goal.returns-else-kept
unfolding sound_entries
returns-else-kept c =
    c.if-kept.false ∙ sym (rw (eq-eqb _ _ c.if-s-ne-TRANSACTIONS_SIZE.false, sym c.kept.ensures ∙ c.if-kept.false))

pub good-requires : goal.good-requires
good-requires c =
    (kept_of _ c.if-s-ne-TRANSACTIONS_SIZE.false (sym c.kept.ensures ∙ c.if-kept.true), c.requires)

pub returns-then-kept : goal.returns-then-kept
unfolding sound_entries
returns-then-kept c =
    c.good.ensures ∙ sym (rw (eq-eqb _ _ c.if-s-ne-TRANSACTIONS_SIZE.false, sym c.kept.ensures ∙ c.if-kept.true))
