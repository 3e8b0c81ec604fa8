-- What the event-message call answers, by the tests that the code makes.
use mathlib.Core.Path.{◌≡◌, refl, sym, ap, ◌∙◌}
use mathlib.Core.Bool.{true, false}
use mathlib.Core.Option.{Option, none, some}
use Prim.Native.Nat.{ℕ}
use lib.ListN.{length}
use lib.Dec.{eqb}
use borrow.Author.Tests.{eqb-true}
use Rattle.rules.specs.Size.{watches_size, domains_size, events_size, message_size}
use Rattle.rules.specs.Octets.{Octets}
use Rattle.rules.specs.Layout.{watches_of, domains_of}
use Rattle.rules.specs.Sound.{sound_domains, sound_watches}
use Rattle.rules.specs.Call.{wrong_size, unsound, call_number}
use Rattle.rules.specs.Message.{message_of, refused_with, sent, sized_message, event_call}
use Rattle.rules.proofs.Compare.{both_true}
use Rattle.events.specs.Messages.{sent_as, sent_over}
use Rattle.std.specs.Prelude as code
use Rattle.haabuvilk.specs.Lent.{messaged, MessageMeets}

module _ (watches domains events message : Octets) where
  sent_over_lem : (o : Option Octets) → sent_over message o ≡ sent watches domains events message o
  unfolding sent refused_with
  sent_over_lem none = refl
  sent_over_lem (some m) = refl

  pub wrong_size_lem : (count i k : ℕ) → sized_message watches domains events message ≡ false
      → MessageMeets watches domains events message count i k (messaged (call_number wrong_size) 0 message)
  unfolding event_call refused_with
  wrong_size_lem count i k z = rw z refl

  module _ (z : sized_message watches domains events message ≡ true) where
    pub lent-sized : (length domains ≡ domains_size) × (length events ≡ events_size) × (length message ≡ message_size)
    unfolding sized_message
    lent-sized =
        let a = both_true (eqb (length watches) watches_size) _ z in
        let b = both_true (eqb (length domains) domains_size) _ a.1 in
        let c = both_true (eqb (length events) events_size) (eqb (length message) message_size) b.1 in
        (eqb-true _ _ b.0, eqb-true _ _ c.0, eqb-true _ _ c.1)

    module _ (count i k : ℕ) where
      pub unsound-domains : sound_domains domains ≡ false → MessageMeets watches domains events message count i k (messaged (call_number unsound) 0 message)
      unfolding event_call refused_with
      unsound-domains d = rw (z, d) refl

      module _ (d : sound_domains domains ≡ true) where
        pub unsound-watches : sound_watches (domains_of domains) watches ≡ false
            → MessageMeets watches domains events message count i k (messaged (call_number unsound) 0 message)
        unfolding event_call refused_with
        unsound-watches w = rw (z, d, w) refl

        pub answered : (r e : code.Option ℕ) (after : Octets) → sound_watches (domains_of domains) watches ≡ true → r ≡ e
            → sent_as r after ≡ sent_over message (message_of (watches_of watches) events count i k)
            → MessageMeets watches domains events message count i k (sent_as e after)
        unfolding event_call
        answered r e after w q h = ap (λ (x : code.Option ℕ). sent_as x after) (sym q) ∙ h ∙ sent_over_lem (message_of (watches_of watches) events count i k)
            ∙ sym (rw (z, d, w) refl)
