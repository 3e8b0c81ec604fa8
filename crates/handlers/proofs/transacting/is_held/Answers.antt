-- Only the ids 1 to 3 have a place, and the place knows its holder.
use Rattle.handlers.specs.Transacting.{HeldOr}
use Prim.Native.Nat.{ℕ}
use mathlib.Core.Bool.{false}
use mathlib.Core.Path.{sym, subst}
use Rattle.handlers.proofs.EndLaws.{zero_held, past_held, held_or}
use Rattle.handlers.proofs.transacting.is_held.Goals as goal

pub returns-then-tx-eq0 : goal.returns-then-tx-eq0
returns-then-tx-eq0 c = subst (λ (n : ℕ). HeldOr c.args.transactions.now c.args.c n false) (sym c.if-tx-eq0.true) (zero_held _ _)

pub returns-then-tx-gt3 : goal.returns-then-tx-gt3
returns-then-tx-gt3 c = past_held _ _ _ c.if-tx-gt3.true

pub returns : goal.returns
returns c = held_or _ _ _ _ c.requires c.if-tx-eq0.false c.if-tx-gt3.false c.held.ensures
