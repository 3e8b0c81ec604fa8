-- Each place is asked whose transaction it has, of bytes that still re-encode to themselves.
use mathlib.Core.Path.{◌≡◌, ap, ◌∙◌}
use mathlib.Core.Option.{none}
use native.Mathlib.Omega.{arith}
use lib.ListN.{get_or}
use Rattle.std.proofs.Common.{rules, tests}
use Rattle.rules.specs.Octets.{Octets}
use Rattle.rules.specs.Layout.{transactions_of}
use Rattle.rules.specs.World.{without_transactions}
use Rattle.transactions.specs.Transaction.{KeptTransactions, held_by}
use Rattle.domains.specs.Entry.{passes}
use Rattle.transactions.proofs.Written.{freed-kept, freed-transactions}
use Rattle.transactions.proofs.changes.remove_of.Goals as goal

pub free_where-requires-clause-asked : goal.free_where-requires-clause-asked
free_where-requires-clause-asked c = λ x answers h e.
    let kept : KeptTransactions x.now = rw e (freed-kept c.args.s.now c.requires answers (omega arith)) in
    search (rules, tests)

pub returns : goal.returns
unfolding without_transactions held_by
returns c =
    let test = held_by c.args.c in
    freed-transactions c.args.s.now c.requires test _
    (λ t i b kept h p.
    let said : b ≡ passes test (get_or (transactions_of p.0.now) i none) = search (rules, tests) in
    said ∙ ap (λ (s : Octets). passes test (get_or (transactions_of s) i none)) p.1)
    _ c.free_where.ensures
