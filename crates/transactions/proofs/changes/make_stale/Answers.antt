-- An open transaction keeps its changes and its holder; a closed place stays as it is.
use mathlib.Core.Path.{sym, ◌∙◌}
use Rattle.transactions.proofs.Written.{put_stale, left-stale}
use Rattle.transactions.proofs.changes.make_stale.Goals as goal

pub returns-then-is_open : goal.returns-then-is_open
returns-then-is_open c =
    let args = c.args in
    put_stale args.s.now c.requires.1 args.k c.requires.0 (sym c.is_open.ensures ∙ c.if-is_open.true)

pub returns-else-is_open : goal.returns-else-is_open
returns-else-is_open c =
    let args = c.args in
    left-stale args.s.now c.requires.1 args.k c.requires.0 (sym c.is_open.ensures ∙ c.if-is_open.false)
