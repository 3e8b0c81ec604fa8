-- The value's length is within its field, so what is behind it lies in the field.
use mathlib.Core.Path.{ap, ◌∙◌}
use Prim.Native.Nat.{ℕ, ◌+◌, ◌*◌}
use native.Mathlib.Omega.{arith}
use lib.ListN.{take, drop}
use Rattle.rules.specs.Size.{slot_size, value_at, longest_value}
use Rattle.rules.specs.Octets.{all_zero}
use Rattle.soundness.specs.Parts.{zero_behind}
use Rattle.soundness.proofs.SlotLaws.{sizes_of}
use Rattle.soundness.proofs.slot.zero_behind.Goals as goal

pub rest_zero-requires : goal.rest_zero-requires
rest_zero-requires c =
    let s = sizes_of _ _ c.requires.2 in
    (omega (arith, s.value, c.value_length.ensures), omega arith)

pub returns : goal.returns
unfolding zero_behind
returns c =
    let args = c.args in
    c.rest_zero.ensures ∙ ap (λ (n : ℕ). all_zero (drop n (take longest_value (drop (args.i * slot_size + value_at) args.t.now))))
    c.value_length.ensures
