-- The four numbers are those of the entries that are given, and 0 for those that are not.
use mathlib.Core.Path.{◌≡◌}
use native.Mathlib.Omega.{arith}
use mathlib.Core.List.{◌∷◌}
use borrow.Author.Rules.{rules}
use borrow.Author.Tests.{tests}
use Rattle.slots.specs.Written.{entry_number, entry_in, others_in}
use Rattle.slots.proofs.Made.{made_by}
use Rattle.slots.proofs.Numbers.{entries_at, others_many}
use Rattle.slots.proofs.writing.put_given.Goals as goal

pub returns : goal.returns
returns c =
    let args = c.args in
    let few = c.requires.1.few in
    let access = args.access.now in
    let domain = args.domain.now in
    let numbers = entry_number (entry_in access domain 0 ∷ others_in args.count access domain) in
    let each = made_by (λ k n. n ≡ numbers k) (λ k n q called. search (rules, tests)) c.from_fn.result 0 4 c.from_fn.ensures.items in
    entries_at args.at _ _ _ (omega (arith, others_many _ _ _ c.requires.1)) (each 0 (omega arith)) (each 1 (omega arith)) (each 2 (omega arith))
    (each 3 (omega arith)) c.put_four.ensures
