-- Changes are good where each is.
use mathlib.Core.Path.{refl, sym, ◌∙◌}
use native.Mathlib.Omega.{arith}
use Rattle.std.proofs.Common.{rules, tests}
use Rattle.std.proofs.lemmas.Iterator.{YieldsList-from_range}
use Rattle.std.proofs.lemmas.Iterator.Search.{all_from_yields_List}
use Rattle.transactions.specs.Transaction.{transaction_of}
use Rattle.domains.proofs.Turns.{asked_at, asked_all}
use Rattle.transactions.proofs.Good.{changes_check}
use Rattle.transactions.proofs.checks.changes_good.Goals as goal

pub returns : goal.returns
returns c =
    let changes = (transaction_of c.args.s.now c.args.k).changes in
    let n = c.changes.result in
    all_from_yields_List (asked_at changes_check changes) _ _ c.all.result c.all.ensures.ran
    (YieldsList-from_range 0 n n refl (omega arith)) (λ x b q k. search (rules, tests))
    ∙ asked_all changes_check changes n (sym c.changes.ensures.0)
