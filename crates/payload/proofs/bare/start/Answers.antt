-- There is no transaction in a transaction, and the payload is a nul alone.
use mathlib.Core.Path.{sym, ◌∙◌}
use Rattle.payload.proofs.DomainLaws.{start-inside, start_means, start_not}
use Rattle.payload.proofs.bare.start.Goals as goal
use Rattle.payload.proofs.bare.start.Goals.{else-tx-eq0-via-then-tx-eq0+else-same, else-tx-eq0-via-else-tx-eq0}

pub returns-then-same : goal.returns-then-same
returns-then-same c = start_means _ _ c.if-tx-eq0.true (sym c.same.ensures ∙ c.if-same.true)

pub returns : goal.returns
returns c =
    elim c.else-tx-eq0.branch [
      | else-tx-eq0-via-then-tx-eq0+else-same w ↦ start_not _ _ w.if-tx-eq0.true (sym w.same.ensures ∙ w.if-same.false)
      | else-tx-eq0-via-else-tx-eq0 w ↦ start-inside _ _ w.if-tx-eq0.false
    ]
