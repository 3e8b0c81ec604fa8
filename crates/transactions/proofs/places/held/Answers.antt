-- A closed place has no transaction; an open one has its holder's.
use mathlib.Core.Path.{sym, ap, ◌∙◌}
use lib.Dec.{eqb}
use Rattle.rules.specs.Layout.{opened}
use Rattle.transactions.specs.Transaction.{held_by}
use Rattle.domains.proofs.Search.{passes_free, passes-taken}
use Rattle.transactions.proofs.places.held.Goals as goal

pub returns-else-is_open : goal.returns-else-is_open
returns-else-is_open c = c.if-is_open.false ∙ sym (passes_free _ _ (sym c.is_open.ensures ∙ c.if-is_open.false))

pub returns-then-is_open : goal.returns-then-is_open
unfolding held_by
returns-then-is_open c =
    let args = c.args in
    let is_open_lem = sym c.is_open.ensures ∙ c.if-is_open.true in
    ap (eqb args.c) c.holder.ensures ∙ sym (passes-taken (held_by args.c) (opened 0) _ is_open_lem)
