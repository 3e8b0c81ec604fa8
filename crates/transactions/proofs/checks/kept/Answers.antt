-- The table is the bytes of its places, so they are those of what they mean where each place's are.
use mathlib.Core.Path.{refl, ◌∙◌}
use Rattle.std.proofs.Common.{rules, tests}
use Rattle.std.proofs.lemmas.Iterator.{YieldsList-from_range}
use Rattle.std.proofs.lemmas.Iterator.Search.{all_from_yields_List}
use Rattle.rules.specs.Size.{most_transactions, transaction_size}
use Rattle.rules.specs.Layout.{transaction_bytes, transaction_in, transactions_bytes, transactions_of}
use Rattle.domains.specs.Kept.{kept_at}
use Rattle.domains.proofs.Rows.{kept_row, rows_all}
use Rattle.transactions.proofs.Laws.{transaction_wide}
use Rattle.transactions.proofs.checks.kept.Goals as goal

pub returns : goal.returns
unfolding transactions_bytes transactions_of kept_at
returns c =
    let s = c.args.s.now in
    all_from_yields_List (kept_row transaction_bytes transaction_in transaction_size transaction_wide s) _ _ c.all.result c.all.ensures.ran
    (YieldsList-from_range 0 most_transactions most_transactions refl refl) (λ x b q k. search (rules, tests))
    ∙ rows_all transaction_bytes transaction_in transaction_size transaction_wide most_transactions s c.requires _ (λ i h. refl)
