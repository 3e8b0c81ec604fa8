-- A closed place is zero.
use mathlib.Core.Path.{◌∙◌}
use Rattle.transactions.proofs.Written.{closed}
use Rattle.transactions.proofs.changes.close.Goals as goal

pub returns : goal.returns
returns c =
    c.clear.ensures ∙ closed c.args.s.now c.requires.1 c.args.k c.requires.0
