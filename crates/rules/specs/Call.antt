-- The calls on bytes: what each answers, and every byte of every lent buffer after it.
use Rattle.std.specs.Prelude.{◌≡◌, Bool, true, false, cond, ◌&&◌, ℕ, ◌+◌, ◌-◌, length, take, drop, eqb, ltb}
use mathlib.Core.List.{◌++◌, flat_map}
use Rattle.rules.specs.Size.{most_transactions, header_size, req_at, tx_at, len_at, longest_payload, table_size, copies_size, watches_size}
use Rattle.rules.specs.Size.{transactions_size, domains_size, reply_size, events_size}
use Rattle.rules.specs.Octets.{Octets, nul, four_bytes, little_endian, chunks, paste}
use Rattle.rules.specs.Domain.{Connection, domain_of}
use Rattle.rules.specs.Payload.{Parsed, unknown, invalid, request, parse}
use Rattle.rules.specs.Answer.{EINVAL, ENOSYS, errno_text, Reply, done, refused}
use Rattle.rules.specs.Layout.{table_bytes, table_of, domains_bytes, domains_of, watches_bytes, watches_of, transactions_bytes, transactions_of, record_bytes}
use Rattle.rules.specs.Sound.{sound_table, sound_domains, sound_watches, sound_transactions, known}
use Rattle.rules.specs.World.{World, Outcome, left, handle, fresh_world}

-- ── call numbers ──

-- why a call turns its message away, or that it handled it
pub data Verdict : Type 0 where
  handled : Verdict
  wrong_size : Verdict
  unsound : Verdict
  stranger : Verdict
  broken : Verdict
  overlong : Verdict
  no_event : Verdict

-- document 01's number for each
unfoldable pub call_number : Verdict → ℕ
call_number handled = 0
call_number wrong_size = 1
call_number unsound = 2
call_number stranger = 3
call_number broken = 4
call_number overlong = 5
call_number no_event = 6

unfoldable pub is_handled : Verdict → Bool
is_handled handled = true
is_handled wrong_size = false
is_handled unsound = false
is_handled stranger = false
is_handled broken = false
is_handled overlong = false
is_handled no_event = false

-- ── the lent tables ──

pub record Tables : Type 0 where
  pub nodes : Octets
  pub copies : Octets
  pub watches : Octets
  pub transactions : Octets
  pub domains : Octets

unfoldable pub sized_tables : Tables → Bool
sized_tables t =
    eqb (length t.nodes) table_size
    && (eqb (length t.copies) copies_size
    && (eqb (length t.watches) watches_size
    && (eqb (length t.transactions) transactions_size && eqb (length t.domains) domains_size)))

unfoldable pub sound : Tables → Bool
sound t =
    let ds = domains_of t.domains in
    sound_table t.nodes
    && (sound_domains t.domains
    && (sound_watches ds t.watches && sound_transactions ds (chunks most_transactions table_size t.copies) t.transactions))

-- tables of the right sizes that are sound: those that a call does not turn away
pub record Lendable (t : Tables) : Type 0 where
  pub sized : sized_tables t ≡ true
  pub sound : sound t ≡ true

unfoldable pub world_of : Tables → World
world_of t =
    record {
      nodes = table_of t.nodes;
      copies = chunks most_transactions table_size t.copies;
      watches = watches_of t.watches;
      transactions = transactions_of t.transactions;
      domains = domains_of t.domains;
    }

unfoldable pub tables_of : World → Tables
tables_of w =
    record {
      nodes = table_bytes w.nodes;
      copies = flat_map (λ (copy : Octets). copy) w.copies;
      watches = watches_bytes w.watches;
      transactions = transactions_bytes w.transactions;
      domains = domains_bytes w.domains;
    }

-- ── the fresh store ──

pub record Refreshed : Type 0 where
  pub number : ℕ
  pub tables : Tables

unfoldable pub fresh_call : Tables → Refreshed
fresh_call t =
    cond (sized_tables t)
    (record { number = call_number handled; tables = tables_of fresh_world })
    (record { number = call_number wrong_size; tables = t })

-- ── one message from one sender ──

pub record Result : Type 0 where
  pub number : ℕ
  pub reply_length : ℕ
  pub event_count : ℕ
  pub page : ℕ
  pub channel : ℕ
  pub tables : Tables
  pub reply : Octets
  pub events : Octets

-- "A message is four little-endian 32-bit numbers (type, req_id, tx_id, len) and len bytes."
unfoldable pub type_of : Octets → ℕ
type_of m = little_endian m 0

unfoldable pub tx_of : Octets → ℕ
tx_of m = little_endian m tx_at

unfoldable pub len_of : Octets → ℕ
len_of m = little_endian m len_at

unfoldable pub payload_of : Octets → Octets
payload_of m = drop header_size m

-- "Order: 1, 2, 3, under 16 bytes, 5, wrong total."
unfoldable pub frame_verdict : Octets → Verdict
frame_verdict m =
    cond (ltb (length m) header_size) broken
    (cond (ltb longest_payload (len_of m)) overlong
    (cond (eqb (length m) (header_size + len_of m)) handled broken))

unfoldable pub request_verdict : Tables → Octets → Octets → Connection → Octets → Verdict
request_verdict t reply events c m =
    let isSound = sound t in
    let isKnown = known (domain_of c) (domains_of t.domains) in
    cond (sized_tables t && (eqb (length reply) reply_size && eqb (length events) events_size))
    (cond isSound (cond isKnown (frame_verdict m) stranger) unsound)
    wrong_size

-- "A reply copies type, req_id and tx_id; an error has type 16, copies the last two and carries the errno name and a nul."
unfoldable pub reply_type : ℕ → Reply → ℕ
reply_type type (done s) = type
reply_type type (refused e) = 16

unfoldable pub reply_payload : Reply → Octets
reply_payload (done s) = s
reply_payload (refused e) = errno_text e ++ nul

unfoldable pub reply_to : Octets → Reply → Octets
reply_to m r = four_bytes (reply_type (type_of m) r) ++ (take (len_at - req_at) (drop req_at m) ++ (four_bytes (length (reply_payload r)) ++ reply_payload r))

-- steps 1 and 2, then the rest
unfoldable pub outcome_of : World → Connection → ℕ → Parsed → Outcome
outcome_of w c tx unknown = left w (refused ENOSYS)
outcome_of w c tx invalid = left w (refused EINVAL)
outcome_of w c tx (request r) = handle w c tx r

unfoldable pub outcome : World → Connection → Octets → Outcome
outcome w c m = outcome_of w c (tx_of m) (parse c (type_of m) (tx_of m) (payload_of m))

module _ (t : Tables) (reply events : Octets) where
  -- "other results 0, memory unaltered"
  unfoldable pub turned_away : ℕ → Result
  turned_away n = record { number = n; reply_length = 0; event_count = 0; page = 0; channel = 0; tables = t; reply = reply; events = events }

  -- "Bytes past a reply, and event records past the count, stay as they were."
  unfoldable pub delivered : Octets → Outcome → Result
  delivered m o =
      let message = reply_to m o.reply in
      let written = paste 0 message reply in
      let recorded = paste 0 (flat_map record_bytes o.records) events in
      record {
        number = call_number handled;
        reply_length = length message;
        event_count = length o.records;
        page = o.page;
        channel = o.channel;
        tables = tables_of o.world;
        reply = written;
        events = recorded;
      }

  unfoldable pub request_by : Verdict → Connection → Octets → Result
  request_by v c m =
      let answered = delivered m (outcome (world_of t) c m) in
      cond (is_handled v) answered (turned_away (call_number v))

  unfoldable pub request_call : Connection → Octets → Result
  request_call c m = request_by (request_verdict t reply events c m) c m
