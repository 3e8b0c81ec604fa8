-- The change goes behind those that are there, and the first byte counts one more.
use mathlib.Core.Path.{ap, ◌∙◌}
use Prim.Native.Nat.{ℕ, ◌+◌, ◌*◌}
use native.Mathlib.Omega.{arith}
use lib.ListN.{get_or, set}
use Rattle.rules.specs.Size.{changes_at, transaction_size, change_size}
use Rattle.rules.specs.Octets.{Octets, paste}
use Rattle.rules.specs.Layout.{change_bytes}
use Rattle.transactions.specs.Transaction.{change_given}
use Rattle.transactions.proofs.ChangeAdded.{first_small, put_changed}
use Rattle.transactions.proofs.changes.add_change.Goals as goal

pub overflow_add-s : goal.overflow_add-s
overflow_add-s c =
    let args = c.args in
    omega (arith, first_small args.s.now args.k args.parents args.path.now c.requires args.removed)

pub returns : goal.returns
returns c =
    let args = c.args in
    let s = args.s.now in
    let at = args.k * transaction_size in
    let change = change_bytes (change_given args.removed args.parents args.path.now) in
    let put = c.put_change.ensures ∙ ap (λ (n : ℕ). paste (at + changes_at + n * change_size) change s) c.changes-n.ensures.0 in
    ap (λ (l : Octets). set l at (get_or s at 0 + 1)) put ∙ put_changed s args.k args.parents args.path.now c.requires args.removed
