-- What is entered into the event records.
use Rattle.std.specs.Prelude.{◌≡◌, Bool, false, ℕ, ◌+◌, ◌-◌, ◌*◌, ◌≤◌, ◌<◌, eqb, length, get_or}
use mathlib.Core.List.{List, flat_map}
use Rattle.rules.specs.Size.{most_watches, record_size, most_records, events_size}
use Rattle.rules.specs.Octets.{Octets, paste, pack, bits_at}
use Rattle.rules.specs.Event.{Record}
use Rattle.rules.specs.Layout.{mask_bits, record_bytes}

-- the record of a mask and a path
abbrev pub record_of : List Bool → Octets → Record
record_of m p = record { mask = m; path = p }

-- records go in behind n others, up to place r; all other bytes stay
pub record Recorded (n : ℕ) (rs : List Record) (before after : Octets) (r : ℕ) : Type 0 where
  pub bytes : after ≡ paste (n * record_size) (flat_map record_bytes rs) before
  pub count : r ≡ n + length rs
  pub wide : length (flat_map record_bytes rs) ≡ length rs * record_size

-- a buffer of records has room for k more behind n
pub record Room (events : Octets) (n k : ℕ) : Type 0 where
  pub whole : length events ≡ events_size
  pub few : n + k ≤ most_records

-- a mask as a number: a bit for each watch, that of watch 0 the highest
pub record Mask (m : List Bool) (number : ℕ) : Type 0 where
  pub long : length m ≡ most_watches
  pub value : number ≡ pack (mask_bits m)

-- the bit of watch k in a mask's number
abbrev pub number_bit : ℕ → ℕ → Bool
number_bit number k = eqb (bits_at number (most_watches - 1 - k) 1) 1

-- a mask has a bit for each watch, which is what a test says of its place
pub record Tested (says : ℕ → Bool → Type 0) (m : List Bool) : Type 0 where
  pub long : length m ≡ most_watches
  pub each : (k : ℕ) (b : Bool) → k < most_watches → says k b → b ≡ get_or m k false
