-- Where a slot is free, there is a lowest free one.
use mathlib.Core.Path.{refl}
use Prim.Native.Nat.{ℕ, ◌<◌}
use native.Mathlib.Omega.{arith}
use Rattle.std.specs.Prelude.{Option, Some, None, unwrap_or}
use Rattle.std.specs.Option.{IsSome}
use Rattle.rules.specs.Size.{slots}
use Rattle.rules.proofs.Fitting.{lowest-below}
use Rattle.rules.proofs.Slots.{length-table_of}
use Rattle.making.proofs.making.make_one.Goals as goal

below_some : (o : Option ℕ) (n : ℕ) → unwrap_or o n < n → IsSome o
below_some (Some k) n h = refl
below_some None n h = absurd (omega arith)

pub unwrap-i-requires : goal.unwrap-i-requires
unwrap-i-requires c =
    let low = lowest-below _ c.requires.4 in
    below_some c.lowest_free.result slots (rw c.lowest_free.ensures.found (omega (arith, length-table_of c.args.t.now)))
