-- The places before the one in turn are done, the others as they were.
use mathlib.Core.Path.{◌≡◌}
use Rattle.rules.specs.Layout.{transactions_of}
use Rattle.transactions.specs.Transaction.{stale_of, KeptTransactions}
use Rattle.domains.proofs.Search.{swept_before}
use Rattle.transactions.proofs.changes.stale_all.Given as goal

abbrev pub invariant-loop-k : goal.invariant-loop-k
invariant-loop-k l = KeptTransactions l.s × (transactions_of l.s ≡ swept_before (stale_of) l.k (transactions_of l.initial.s))
