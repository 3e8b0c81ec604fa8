-- A free place takes the new transaction and its copy, and the reply its id; without one every table stays.
use mathlib.Core.Path.{ap}
use Rattle.std.specs.Prelude.{Ok}
use Prim.Native.Nat.{◌+◌}
use native.Mathlib.Omega.{arith}
use Rattle.rules.proofs.Decimals.{length-decimal_le}
use Rattle.handlers.proofs.StartLaws.{three_transactions, start-full, start-done, id_told, copied}
use Rattle.handlers.proofs.Ways.{none-free, some_free, free-below, refused_so, done_so, same_tables_lem}
use mathlib.Core.Path.{refl}
use Rattle.handlers.proofs.Alone.{copies-alone, transactions-alone}
use Rattle.handlers.proofs.transacting.start.Goals as goal

pub returns-in_default : goal.returns-in_default
returns-in_default c =
    let pre = c.requires in
    λ w l events. refused_so w _ _ events _ _
    (start-full w _ _ l.transactions (three_transactions _) _ (none-free _ _ _ c.lowest_free.ensures.found c.in_default.not-Some) (omega arith))
    (same_tables_lem refl (copies-alone w _ pre.1 l.copies) refl (transactions-alone w _ pre.2 l.transactions) refl)

pub bounds-reply-end : goal.bounds-reply-end
bounds-reply-end c =
    let k = c.in-Some.k in
    omega (arith, length-decimal_le (k + 1))

pub overflow_add-end : goal.overflow_add-end
overflow_add-end c =
    let k = c.in-Some.k in
    omega (arith, length-decimal_le (k + 1))

pub returns : goal.returns
returns c =
    let pre = c.requires in
    let below = free-below _ _ c.lowest_free.ensures.below _ c.in-Some.is in
    λ w l events. done_so w _ _ _ events _ _ _ _ _
    (start-done w _ _ l.transactions (three_transactions _) _ (some_free _ _ _ c.lowest_free.ensures.found _ c.in-Some.is) below) (ap Ok c.with_events.ensures)
    (id_told _ _ _ _ pre.4 c.put_decimal-end.ensures (omega (arith, length-decimal_le (c.in-Some.k + 1))))
    (same_tables_lem refl (copied w _ _ _ _ pre.1 pre.0 l.nodes l.copies below
    c.copy.ensures)
    refl c.«open».ensures refl)
