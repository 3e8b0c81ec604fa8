-- The event message of one record for one watch.
use Rattle.std.specs.Prelude.{Bool, true, false, cond, ◌&&◌, ◌||◌, [], ◌∷◌, ◌++◌, ℕ, suc, ◌-◌, ◌*◌, length, get_or, take, drop, eqb, ltb, leb}
use Rattle.std.proofs.Math.Option.{Option, none, some}
use Rattle.rules.specs.Size.{most_watches, most_records, mask_size, record_path_at, record_size, longest_path, watches_size, domains_size, events_size}
use Rattle.rules.specs.Size.{message_size, last_domain}
use Rattle.rules.specs.Octets.{Octets, nul, same, four_bytes, field, bits_at, number_in, paste}
use Rattle.rules.specs.Domain.{Domain, domain_of}
use Rattle.rules.specs.Path.{base, path_text, is_below}
use Rattle.rules.specs.Payload.{Place, path, event}
use Rattle.rules.specs.Event.{Watch, Watches}
use Rattle.rules.specs.Layout.{text_at, watches_of, domains_of}
use Rattle.rules.specs.Sound.{sound_domains, sound_watches}
use Rattle.rules.specs.Call.{Verdict, handled, wrong_size, unsound, no_event, call_number}

pub record Delivered : Type 0 where
  pub number : ℕ
  pub message_length : ℕ
  pub message : Octets

-- ── the record ──

unfoldable pub record_at : Octets → ℕ → Octets
record_at events i = take record_size (drop (i * record_size) events)

-- the mask's bit for watch k, watch 0 first
unfoldable pub mask_bit : Octets → ℕ → Bool
mask_bit r k = eqb (bits_at (field r 0 mask_size) (most_watches - 1 - k) 1) 1

unfoldable pub path_length : Octets → ℕ
path_length r = bits_at (field r mask_size (record_path_at - mask_size)) 7 9

unfoldable pub path_in : Octets → Octets
path_in r = text_at r record_path_at longest_path (path_length r)

-- ── the reported path ──

unfoldable pub is_number : Option ℕ → Bool
is_number none = false
is_number (some n) = true

-- "`/` and a domain id"
unfoldable pub is_domain_path : Octets → Bool
is_domain_path [] = false
is_domain_path (c ∷ cs) = eqb c 47 && is_number (number_in 0 last_domain cs)

-- "the watch's path [or] above or below it [or], for an `@` watch, `/` and a domain id"
unfoldable pub concerns : Octets → Place → Bool
concerns p (path r ns) = same p (path_text ns) || (is_below (path_text ns) p || is_below p (path_text ns))
concerns p (event e) = same p e || is_domain_path p

-- "cut by the base if the watch was given relative": the base and the slash after it
unfoldable pub cut : Bool → Domain → Octets → Octets
cut relative d p = cond relative (drop (suc (length (path_text (base d)))) p) p

-- "For a watch below a removed path the report is the watch's own path, otherwise the record's"
unfoldable pub nearer : Octets → Octets → Octets
nearer own p = cond (is_below p own) own p

-- "a watch with depth 1 reports that, one without depth its own path"
unfoldable pub reported : Watch → Octets → Octets
reported w p =
    elim w.place [
      | path r ns ↦ cut r (domain_of w.owner) (nearer (path_text ns) p)
      | event e ↦ elim w.depth [ none ↦ e | some k ↦ p ]
    ]

-- "An event message has type 15, both ids 0, and path, nul, token, nul."
unfoldable pub event_message : Octets → Octets → Octets
event_message p token =
    let payload = p ++ (nul ++ (token ++ nul)) in
    four_bytes 15 ++ (four_bytes 0 ++ (four_bytes 0 ++ (four_bytes (length payload) ++ payload)))

-- ── the call ──

-- number 6's causes: what is left where none holds
unfoldable pub message_for : Octets → ℕ → Option Watch → Option Octets
message_for r k none = none
message_for r k (some w) =
    cond (mask_bit r k && (leb 1 (path_length r) && (leb (path_length r) longest_path && concerns (path_in r) w.place)))
    (some (event_message (reported w (path_in r)) w.token))
    none

unfoldable pub message_of : Watches → Octets → ℕ → ℕ → ℕ → Option Octets
message_of ws events count i k =
    let m = message_for (record_at events i) k (get_or ws k none) in
    cond (ltb i count && (ltb i most_records && ltb k most_watches)) m none

module _ (watches domains events message : Octets) where
  unfoldable pub refused_with : Verdict → Delivered
  refused_with v = record { number = call_number v; message_length = 0; message = message }

  -- "Bytes past an event message stay as they were."
  unfoldable pub sent : Option Octets → Delivered
  sent none = refused_with no_event
  sent (some m) = record { number = call_number handled; message_length = length m; message = paste 0 m message }

  unfoldable pub sized_message : Bool
  sized_message =
      eqb (length watches) watches_size
      && (eqb (length domains) domains_size && (eqb (length events) events_size && eqb (length message) message_size))

  -- "The event-message call checks 1, 2, 6."
  unfoldable pub event_call : ℕ → ℕ → ℕ → Delivered
  event_call count i k =
      let isSound = sound_domains domains && sound_watches (domains_of domains) watches in
      let answer = sent (message_of (watches_of watches) events count i k) in
      cond sized_message (cond isSound answer (refused_with unsound)) (refused_with wrong_size)
