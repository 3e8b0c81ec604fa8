-- The copies before i are sound, so those from i on decide.
use mathlib.Core.Path.{◌≡◌}
use lib.ListN.{drop}
use Rattle.rules.specs.Size.{most_transactions, table_size}
use Rattle.rules.specs.Octets.{chunks}
use Rattle.rules.specs.Layout.{transactions_of}
use Rattle.transactions.specs.Checks.{sound_copies}
use Rattle.haabuvilk.proofs.checks.sound_copies.Given as goal

abbrev pub invariant-loop-i : goal.invariant-loop-i
invariant-loop-i l =
    sound_copies (transactions_of l.transactions) (chunks most_transactions table_size l.copies)
    ≡ sound_copies (drop l.i (transactions_of l.transactions)) (drop l.i (chunks most_transactions table_size l.copies))
