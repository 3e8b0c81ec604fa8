-- What a call is lent and what it leaves, as the rule book's records, and the contract of each exported call.
use Rattle.std.specs.Prelude.{◌≡◌, ℕ}
use Rattle.rules.specs.Octets.{Octets}
use Rattle.rules.specs.Domain.{Connection}
use Rattle.rules.specs.Call.{Tables, Refreshed, fresh_call, Result, request_call}
use Rattle.rules.specs.Message.{Delivered, event_call}

-- ── what is lent, and what is left ──

-- the fresh call's number, and the tables after it
abbrev pub refreshed : ℕ → Tables → Refreshed
refreshed n t = record { number = n; tables = t }

-- the event-message call's number and length, and the lent buffer after it
abbrev pub messaged : ℕ → ℕ → Octets → Delivered
messaged n l m = record { number = n; message_length = l; message = m }

-- the request call's number and four results, and what is lent after it
abbrev pub requested : ℕ → ℕ → ℕ → ℕ → ℕ → Tables → Octets → Octets → Result
requested n l count page channel t reply events =
    record {
      number = n;
      reply_length = l;
      event_count = count;
      page = page;
      channel = channel;
      tables = t;
      reply = reply;
      events = events;
    }

-- ── the contracts: what is left is what the rule book says of what was lent ──

abbrev pub FreshMeets : Tables → Refreshed → Type 0
FreshMeets t r = r ≡ fresh_call t

abbrev pub MessageMeets : Octets → Octets → Octets → Octets → ℕ → ℕ → ℕ → Delivered → Type 0
MessageMeets watches domains events message count i k r = r ≡ event_call watches domains events message count i k

abbrev pub RequestMeets : Tables → Octets → Octets → Connection → Octets → Result → Type 0
RequestMeets t reply events c message r = r ≡ request_call t reply events c message
