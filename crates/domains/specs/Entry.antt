-- One place of a table: whether it is taken, whether its entry passes a test, and the entry.
use Rattle.std.specs.Prelude.{Bool, true, false, cond}
use Rattle.std.proofs.Math.Option.{Option, none, some}

module _ {A : Type 0} where
  unfoldable pub taken : Option A → Bool
  taken none = false
  taken (some x) = true

  -- there is an entry, and it passes the test
  unfoldable pub passes : (A → Bool) → Option A → Bool
  passes test none = false
  passes test (some x) = test x

  -- the entry, or a stand-in where the place is free
  unfoldable pub entry_or : A → Option A → A
  entry_or stand none = stand
  entry_or stand (some x) = x

  -- the place without its entry, if that passes the test
  unfoldable pub dropped_if : (A → Bool) → Option A → Option A
  dropped_if test none = none
  dropped_if test (some x) = cond (test x) none (some x)
