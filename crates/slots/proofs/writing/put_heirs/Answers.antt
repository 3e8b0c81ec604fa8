-- The four numbers are those of the heir's entries.
use mathlib.Core.Path.{◌≡◌}
use Prim.Native.Nat.{◌+◌, ◌*◌}
use native.Mathlib.Omega.{arith}
use mathlib.Core.List.{◌∷◌}
use borrow.Author.Rules.{rules}
use borrow.Author.Tests.{tests}
use Rattle.rules.specs.Size.{slot_size, fields_size}
use Rattle.rules.proofs.Fitting.{decoded_fits, node_at-fits}
use Rattle.rules.specs.Layout.{table_of}
use Rattle.rules.specs.Node.{node_at, heir}
use Rattle.slots.specs.Written.{entry_number}
use Rattle.slots.proofs.Made.{made_by}
use Rattle.slots.proofs.Numbers.{entries_at}
use Rattle.slots.proofs.writing.put_heirs.Goals as goal

pub returns : goal.returns
returns c =
    let args = c.args in
    let n = node_at (table_of args.t.now) args.parent in
    let f = node_at-fits (table_of args.t.now) args.parent (decoded_fits args.t.now).all in
    let numbers = entry_number (heir args.domain n.owner ∷ n.others) in
    let each = made_by (λ k n. n ≡ numbers k) (λ k n q called. search (rules, tests)) c.from_fn-numbers.result 0 4 c.from_fn-numbers.ensures.items in
    entries_at (args.i * slot_size + fields_size) args.t.now (heir args.domain n.owner) n.others f.few (each 0 (omega arith)) (each 1 (omega arith))
    (each 2 (omega arith)) (each 3 (omega arith)) c.put_four.ensures
