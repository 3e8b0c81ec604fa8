-- What a look-up finds, in the code's terms.
use Rattle.std.specs.Prelude.{◌≡◌, true, ℕ, ◌<◌}
use Rattle.rules.specs.Size.{slots}
use Rattle.rules.specs.Octets.{Octets}
use Rattle.rules.specs.Path.{names_in}
use Rattle.rules.specs.Node.{reach}
use Rattle.rules.specs.Layout.{table_of}
use Rattle.slots.specs.Slot.{slot_at, is_used}
use Rattle.slots.specs.Left.{left_at}

-- the slot that a path leads to, and the place in its text where what is left begins
pub record Reaches (t p : Octets) (slot at : ℕ) : Type 0 where
  pub below : slot < slots
  pub used : is_used (slot_at t slot) ≡ true
  pub there : slot ≡ (reach (table_of t) (names_in p)).slot
  pub left : left_at p at ≡ (reach (table_of t) (names_in p)).left
