-- A canonical slot holds the entries that it means, and 0 past their count.
use native.Mathlib.Omega.{arith}
use Rattle.slots.proofs.Numbers.{entry_small, stored_at, stored_past}
use Rattle.slots.proofs.writing.entry_number.Goals as goal

pub overflow_mul-result : goal.overflow_mul-result
overflow_mul-result c =
    let args = c.args in
    omega (arith, entry_small args.t.now args.i args.k)

pub overflow_add-result : goal.overflow_add-result
overflow_add-result c =
    let args = c.args in
    omega (arith, entry_small args.t.now args.i args.k)

pub returns-then-k-entry_count : goal.returns-then-k-entry_count
returns-then-k-entry_count c =
    let args = c.args in
    let e = c.entry_at-e.ensures in (
      stored_at _ c.requires.1 args.i c.requires.0 c.requires.2 args.k (omega arith) e.0 e.1,
      omega (arith, entry_small args.t.now args.i args.k),
    )

pub returns : goal.returns
returns c =
    (stored_past _ c.requires.1 c.args.i c.requires.0 c.requires.2 c.args.k (omega arith), omega arith)
