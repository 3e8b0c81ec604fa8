-- The count of its changes tells whether there is one.
use mathlib.Core.Path.{sym, ap, ◌∙◌}
use Rattle.rules.specs.World.{staled}
use Rattle.rules.specs.Layout.{Transactions, transactions_bytes}
use Rattle.transactions.proofs.Written.{close_kept}
use Rattle.handlers.proofs.EndLaws.{committed_still, committed_stale}
use Rattle.handlers.proofs.transacting.close_committed.Goals as goal

pub returns-then-changes-eq0 : goal.returns-then-changes-eq0
returns-then-changes-eq0 c =
    let none = sym c.changes.ensures.0 ∙ c.if-changes-eq0.true in
    committed_still _ _ _ none c.close.ensures

pub stale_all-requires : goal.stale_all-requires
stale_all-requires c =
    let pre = c.requires in
    (close_kept _ pre.kept _ pre.below _ c.close-2.ensures).0

pub returns : goal.returns
returns c =
    let pre = c.requires in
    let closed = (close_kept _ pre.kept _ pre.below _ c.close-2.ensures).1 in
    committed_stale _ _ _ (λ e. c.if-changes-eq0.false (c.changes.ensures.0 ∙ e))
    (c.stale_all.ensures ∙ ap (λ (y : Transactions). transactions_bytes (staled y)) closed)
