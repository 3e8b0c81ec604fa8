-- What a request's handler leaves: the rule book's outcome.
use Rattle.std.specs.Prelude.{Result, Ok, Err, ◌≡◌, ℕ, length}
use mathlib.Core.List.{flat_map}
use Rattle.rules.specs.Octets.{Octets, paste}
use Rattle.rules.specs.Layout.{record_bytes}
use Rattle.rules.specs.World as W
use Rattle.rules.specs.Call.{Tables, tables_of}
use Rattle.replies.specs.Framed.{Told}
use Rattle.replies.specs.Meant.{Reply}
use Rattle.replies.specs.declared.kinds.Errno.{Errno}
use Rattle.replies.specs.declared.kinds.Done.{Done}

-- what a request tells, or an error
abbrev pub Outcome : Type 0
Outcome = Result Done Errno

-- a reply with so many event records; an error has none
abbrev pub with_events : Reply → ℕ → Outcome
with_events (Ok n) k = Ok (record { length = n; events = k; page = 0; channel = 0 })
with_events (Err e) k = Err e

-- its reply
abbrev pub reply_of : Outcome → Reply
reply_of (Ok d) = Ok d.length
reply_of (Err e) = Err e

-- a number of what it tells, 0 where it is an error
abbrev pub told_of : (Done → ℕ) → Outcome → ℕ
told_of field (Ok d) = field d
told_of field (Err e) = 0

-- the outcome o, with these tables, reply and event records
pub record Handled (o : W.Outcome) (after : Tables) (replied replied' recorded recorded' : Octets) (r : Outcome) : Type 0 where
  pub tables : after ≡ tables_of o.world
  pub reply : Told o.reply (reply_of r) replied replied'
  pub events : recorded' ≡ paste 0 (flat_map record_bytes o.records) recorded
  pub count : told_of (λ d. d.events) r ≡ length o.records
  pub page : told_of (λ d. d.page) r ≡ o.page
  pub channel : told_of (λ d. d.channel) r ≡ o.channel
