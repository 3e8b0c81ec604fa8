-- What is asked of the table is asked of each place.
use mathlib.Core.Path.{refl, ◌∙◌}
use Rattle.std.proofs.Common.{rules, tests}
use Rattle.std.proofs.lemmas.Iterator.{YieldsList-from_range}
use Rattle.std.proofs.lemmas.Iterator.Search.{all_from_yields_List}
use Rattle.rules.specs.Size.{most_transactions}
use Rattle.rules.specs.Layout.{domains_of, transactions_of}
use Rattle.domains.proofs.Turns.{asked_at, asked_all}
use Rattle.transactions.proofs.Laws.{length-transactions_of}
use Rattle.transactions.proofs.Good.{entries_check}
use Rattle.transactions.proofs.checks.good.Goals as goal

pub returns : goal.returns
returns c =
    let check = entries_check (domains_of c.args.domains.now) in
    let ts = transactions_of c.args.s.now in
    all_from_yields_List (asked_at check ts) _ _ c.all.result c.all.ensures.ran
    (YieldsList-from_range 0 most_transactions most_transactions refl refl) (λ x b q k. search (rules, tests))
    ∙ asked_all check ts most_transactions (length-transactions_of _)
