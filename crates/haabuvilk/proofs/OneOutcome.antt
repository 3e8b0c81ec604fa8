-- No second outcome meets a call's contract: the numbers and all lent bytes are determined.
use mathlib.Core.Path.{◌≡◌, sym, ap, ◌∙◌}
use Prim.Native.Nat.{ℕ}
use Rattle.rules.specs.Octets.{Octets}
use Rattle.rules.specs.Domain.{Connection}
use Rattle.rules.specs.Call.{Tables, Refreshed, Result}
use Rattle.rules.specs.Message.{Delivered}
use Rattle.haabuvilk.specs.Lent.{refreshed, messaged, requested, FreshMeets, MessageMeets, RequestMeets}

pub one_fresh_outcome : (before : Tables) (n m : ℕ) (s t : Tables)
    → FreshMeets before (refreshed n s) → FreshMeets before (refreshed m t)
    → (n ≡ m) × (s ≡ t)
one_fresh_outcome before n m s t p q = let e = p ∙ sym q in (ap (λ (r : Refreshed). r.number) e, ap (λ (r : Refreshed). r.tables) e)

pub one_message_outcome : (watches domains events message : Octets) (count i k : ℕ) (n m a b : ℕ) (x y : Octets)
    → MessageMeets watches domains events message count i k (messaged n a x) → MessageMeets watches domains events message count i k (messaged m b y)
    → (n ≡ m) × (a ≡ b) × (x ≡ y)
one_message_outcome watches domains events message count i k n m a b x y p q =
    let e = p ∙ sym q in
    (ap (λ (r : Delivered). r.number) e, ap (λ (r : Delivered). r.message_length) e, ap (λ (r : Delivered). r.message) e)

pub one_request_outcome : (before : Tables) (reply events : Octets) (c : Connection) (message : Octets)
    (n m l k i j p q a b : ℕ) (s t : Tables) (x y u v : Octets)
    → RequestMeets before reply events c message (requested n l i p a s x u) → RequestMeets before reply events c message (requested m k j q b t y v)
    → (n ≡ m) × (l ≡ k) × (i ≡ j) × (p ≡ q) × (a ≡ b) × (s ≡ t) × (x ≡ y) × (u ≡ v)
one_request_outcome before reply events c message n m l k i j p q a b s t x y u v f g =
    let e = f ∙ sym g in (
      ap (λ (r : Result). r.number) e,
      ap (λ (r : Result). r.reply_length) e,
      ap (λ (r : Result). r.event_count) e,
      ap (λ (r : Result). r.page) e,
      ap (λ (r : Result). r.channel) e,
      ap (λ (r : Result). r.tables) e,
      ap (λ (r : Result). r.reply) e,
      ap (λ (r : Result). r.events) e,
    )
