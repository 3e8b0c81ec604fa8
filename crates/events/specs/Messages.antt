-- What is asked of a watch table, and what the answers mean.
use Rattle.std.specs.Prelude.{◌≡◌, Bool, true, ◌&&◌, [], ◌++◌, ℕ, ◌+◌, ◌<◌, ◌≤◌, leb, length, get_or}
use Rattle.std.proofs.Math.Option.{Option, none}
use Rattle.rules.specs.Size.{most_watches, longest_path}
use Rattle.rules.specs.Octets.{Octets, four_bytes}
use Rattle.rules.specs.Path.{Domain, base, path_text}
use Rattle.rules.specs.Event.{Watch}
use Rattle.rules.specs.Layout.{Domains, watches_of}
use Rattle.rules.specs.Sound.{sound_watches}
use Rattle.rules.specs.Call.{handled, no_event, call_number}
use Rattle.rules.specs.Message.{Delivered, sent, record_at, mask_bit, path_length, path_in, concerns}
use Rattle.domains.specs.Entry.{taken, passes}
use Rattle.std.specs.Prelude as code

-- watches that are sound, whoever is introduced
pub record SoundWatches (s : Octets) : Type 0 where
  pub domains : Domains
  pub sound : sound_watches domains s ≡ true

-- place k of sound watches is in use
pub record UsedWatch (s : Octets) (k : ℕ) : Type 0 where
  pub below : k < most_watches
  pub watches : SoundWatches s
  pub used : taken (get_or (watches_of s) k none) ≡ true

-- a path that the base of domain d can be cut off, if it is to be
pub record RoomToCut (relative : Bool) (d : Domain) (p : Octets) : Type 0 where
  pub long : relative ≡ true → length (path_text (base d)) + 1 ≤ length p

-- the four numbers of an event message, with n bytes of payload
unfoldable pub header : ℕ → Octets
header n = four_bytes 15 ++ (four_bytes 0 ++ (four_bytes 0 ++ four_bytes n))

-- number 6's causes that lie in the record and the watch: a message is due where none holds
unfoldable pub due_for : Octets → ℕ → Watch → Bool
due_for r k w = mask_bit r k && (leb 1 (path_length r) && (leb (path_length r) longest_path && concerns (path_in r) w.place))

unfoldable pub due : Octets → Octets → ℕ → ℕ → Bool
due watches events i k = passes (due_for (record_at events i) k) (get_or (watches_of watches) k none)

-- document 01's number and length of each answer, with the buffer after it
abbrev pub sent_as : code.Option ℕ → Octets → Delivered
sent_as (code.Some n) m = record { number = call_number handled; message_length = n; message = m }
sent_as code.None m = record { number = call_number no_event; message_length = 0; message = m }

-- the rule book's answer over a buffer, of which alone it depends
abbrev pub sent_over : Octets → Option Octets → Delivered
sent_over m o = sent [] [] [] m o
