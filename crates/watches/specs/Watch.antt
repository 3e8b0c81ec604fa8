-- The watch in a place, by its fields.
use Rattle.std.specs.Prelude.{◌≡◌, Bool, true, false, [], ℕ, ◌*◌, ◌<◌, ◌≤◌, eqb, length, get_or, Option}
use Rattle.std.proofs.Math.Option.{none}
use Rattle.rules.specs.Size.{most_watches, watch_fields_size, watch_size, longest_path, longest_token}
use Rattle.rules.specs.Octets.{Octets, field, bits_at}
use Rattle.rules.specs.Path.{Connection, special, given, is_full}
use Rattle.rules.specs.Payload.{event}
use Rattle.rules.specs.Event.{Watch}
use Rattle.rules.specs.Layout.{place_in, watch_bytes, watch_in, watches_of}
use Rattle.octets.specs.Options.{meant}
use Rattle.domains.specs.Entry.{taken, entry_or}
use Rattle.domains.specs.Kept.{Kept}

-- bytes that re-encode to themselves
abbrev pub KeptWatches : Octets → Type 0
KeptWatches = Kept most_watches watch_size watch_bytes watch_in

-- a watch that no sound table has
unfoldable pub nobody : Watch
nobody = record { owner = 0; place = event []; depth = none; token = [] }

-- the watch in place k
abbrev pub watch_of : Octets → ℕ → Watch
watch_of s k = entry_or nobody (get_or (watches_of s) k none)

unfoldable pub owned_by : Connection → Watch → Bool
owned_by c w = eqb c w.owner

-- the lengths as the fields have them
unfoldable pub path_length : Octets → ℕ → ℕ
path_length s k = bits_at (field s (k * watch_size) watch_fields_size) 7 9

unfoldable pub token_length : Octets → ℕ → ℕ
token_length s k = bits_at (field s (k * watch_size) watch_fields_size) 0 6

-- place k is taken, in a table whose bytes are those of what they mean
pub record TakenWatch (s : Octets) (k : ℕ) : Type 0 where
  pub below : k < most_watches
  pub kept : KeptWatches s
  pub used : taken (get_or (watches_of s) k none) ≡ true

-- a full path's text, or an event's name, which is never relative
pub data Placed (relative : Bool) (text : Octets) : Type 0 where
  full : is_full text ≡ true → Placed relative text
  named : given text ≡ special text → relative ≡ false → Placed relative text

-- a watch that a place has room for
pub record FitWatch (c : Connection) (text : Octets) (relative : Bool) (token : Octets) : Type 0 where
  pub owner : c < 65536
  pub placed : Placed relative text
  pub path : length text ≤ longest_path
  pub few : length token ≤ longest_token

unfoldable pub watch_given : Connection → Octets → Bool → Option ℕ → Octets → Watch
watch_given c text relative depth token = record { owner = c; place = place_in relative text; depth = meant depth; token = token }
