-- What events are made from: the node tables before and after a call, the watches after it, and the changes.
use Rattle.std.specs.Prelude.{◌≡◌, Bool, true, false, cond, ◌&&◌, ℕ, ◌-◌, ◌≤◌, length, take}
use mathlib.Core.List.{List, flat_map}
use Rattle.std.proofs.Math.Option.{none, some}
use Rattle.rules.specs.Octets.{Octets}
use Rattle.rules.specs.Path.{Domain, Names, beyond, names_in, introduce_name, release_name}
use Rattle.rules.specs.Node.{Table, path_of}
use Rattle.rules.specs.Rights.{readable}
use Rattle.rules.specs.Answer.{Change}
use Rattle.rules.specs.Event.{Watches, Happening, Record, events_of, may_hear, heard_event}
use Rattle.rules.specs.Sound.{sound_table}
use Rattle.watches.specs.Watch.{KeptWatches}
use Rattle.transactions.specs.Transaction.{change_given}

-- the node table is sound, and the watches' bytes are those of what they mean
pub record Store (t watches : Octets) : Type 0 where
  pub sound : sound_table t ≡ true
  pub kept : KeptWatches watches

-- the same of the tables before and after
pub record Stores (before after watches : Octets) : Type 0 where
  pub was : sound_table before ≡ true
  pub is : sound_table after ≡ true
  pub kept : KeptWatches watches

-- what happened to the path of a text
unfoldable pub happened : Bool → Octets → Happening
happened removed text = record { removal = removed; names = names_in text }

-- "p was removed, lies above w, and its owner may read w"
unfoldable pub hears_above : Table → Table → Domain → Names → Names → Bool → Bool
hears_above before after d own names removed = elim (beyond names own) [ none ↦ false | some rest ↦ removed && may_hear before after d own ]

-- the parents that a change created were not there before it; a removal created none
pub record NewAbove (before : Table) (removed : Bool) (parents : ℕ) (text : Octets) : Type 0 where
  pub written : removed ≡ true → parents ≡ 0
  pub absent : (j : ℕ) → 1 ≤ j → j ≤ parents → (d : Domain) → readable before d (take (length (names_in text) - j) (names_in text)) ≡ false

-- the records of the parents that a change created, as the store after it tells
unfoldable pub heard_parents : Table → Watches → ℕ → Octets → List Record
heard_parents after ws parents text = flat_map (heard_event after after ws) (take parents (events_of (change_given false parents text)))

-- the removal of the node in slot i
unfoldable pub removal_of : Table → ℕ → Change
removal_of t i = record { removal = true; parents = 0; names = path_of t i }

-- the name of the event of a domain that is released or introduced
unfoldable pub event_name : Bool → Octets
event_name released = cond released release_name introduce_name
