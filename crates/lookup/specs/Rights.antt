-- A decision on rights, in the code's terms.
use Rattle.std.specs.Prelude.{◌≡◌, true, ℕ, ◌<◌}
use Rattle.rules.specs.Size.{slots}
use Rattle.rules.specs.Octets.{Octets}
use Rattle.rules.specs.Rights as R
use Rattle.rules.specs.Sound.{sound_table}
use Rattle.slots.specs.Slot.{slot_at, is_used}
use Rattle.lookup.specs.declared.rights.Ground.{Ground}
use Rattle.lookup.specs.declared.rights.Ground.TheVariants.{Control, Owner, Entry, Default}
use Rattle.lookup.specs.declared.rights.Access.{Access}

-- a used slot of a sound table
pub record Asked (t : Octets) (i : ℕ) : Type 0 where
  pub below : i < slots
  pub sound : sound_table t ≡ true
  pub used : is_used (slot_at t i) ≡ true

abbrev pub ground_meant : Ground → R.Ground
ground_meant Control = R.control
ground_meant Owner = R.owner
ground_meant (Entry k) = R.entry k
ground_meant Default = R.default

-- the rule book's decision, of its parts
abbrev pub decided : (access : ℕ) (ground : R.Ground) → R.Access
decided a g = record { access = a; ground = g }

abbrev pub access_meant : Access → R.Access
access_meant a = decided a.access (ground_meant a.ground)
