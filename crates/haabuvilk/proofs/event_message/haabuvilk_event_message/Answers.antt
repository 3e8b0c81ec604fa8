-- A wrong size, an unsound table and a record with no message have their numbers and alter nothing; else the message is put.
use mathlib.Core.Path.{◌≡◌, sym, ◌∙◌}
use mathlib.Core.Bool.{true}
use Rattle.rules.specs.Layout.{domains_of}
use Rattle.rules.specs.Sound.{sound_domains, sound_watches}
use Rattle.rules.specs.Call.{call_number}
use Rattle.rules.specs.Message.{sized_message}
use Rattle.octets.proofs.Options.{is_nothing}
use Rattle.haabuvilk.proofs.EventLaws.{wrong_size_lem, unsound-domains, unsound-watches, lent-sized, answered}
use Rattle.haabuvilk.proofs.event_message.haabuvilk_event_message.Goals as goal
use Rattle.haabuvilk.proofs.event_message.haabuvilk_event_message.Goals.{Else-not-sized_message, Else-not-sound_domains, Else-not-sound_watches}

pub returns-then-not-sized_message : goal.returns-then-not-sized_message
returns-then-not-sized_message c = rw c.number.ensures (wrong_size_lem _ _ _ _ _ _ _ (sym c.sized_message.ensures ∙ c.if-not-sized_message.true))

sized : (c : Else-not-sized_message) → sized_message c.args.watches.now c.args.domains.now c.args.events.now c.args.message.now ≡ true
sized c = sym c.sized_message.ensures ∙ c.if-not-sized_message.false

domains-sound : (c : Else-not-sound_domains) → sound_domains c.args.domains.now ≡ true
domains-sound c = sym c.sound_domains.ensures ∙ c.if-not-sound_domains.false

watches-sound : (c : Else-not-sound_watches) → sound_watches (domains_of c.args.domains.now) c.args.watches.now
    ≡ true
watches-sound c = sym c.sound_watches.ensures ∙ c.if-not-sound_watches.false

pub returns-then-not-sound_domains : goal.returns-then-not-sound_domains
returns-then-not-sound_domains c =
    let places = goal.at.returns-then-not-sound_domains c in
    rw c.number-then-not-sound_domains.ensures
    (unsound-domains _ _ _ _ (sized places.Else-not-sized_message) _ _ _ (sym c.sound_domains.ensures ∙ c.if-not-sound_domains.true))

pub sound_watches-requires : goal.sound_watches-requires
sound_watches-requires c = (lent-sized _ _ _ _ (sized (goal.at.sound_watches-requires c).Else-not-sized_message)).0

pub returns-then-not-sound_watches : goal.returns-then-not-sound_watches
returns-then-not-sound_watches c =
    let places = goal.at.returns-then-not-sound_watches c in
    rw c.number-then-not-sound_watches.ensures
    (unsound-watches _ _ _ _ (sized places.Else-not-sized_message) _ _ _ (domains-sound places.Else-not-sound_domains)
    (sym c.sound_watches.ensures ∙ c.if-not-sound_watches.true))

pub message-sent-requires : goal.message-sent-requires
message-sent-requires c =
    let places = goal.at.message-sent-requires c in
    let s = lent-sized _ _ _ _ (sized places.Else-not-sized_message) in
    (record { domains = _; sound = watches-sound places.Else-not-sound_watches }, s.1, s.2)

pub returns-in_default : goal.returns-in_default
returns-in_default c =
    let places = goal.at.returns-in_default c in
    rw c.number-in_default.ensures
    (answered _ _ _ _ (sized places.Else-not-sized_message) _ _ _ (domains-sound places.Else-not-sound_domains) _ _ _
    (watches-sound places.Else-not-sound_watches) (is_nothing _ c.in_default.not-Some) c.message-sent.ensures)

pub returns : goal.returns
unfolding call_number
returns c =
    let places = goal.at.returns c in
    answered _ _ _ _ (sized places.Else-not-sized_message) _ _ _ (domains-sound places.Else-not-sound_domains) _ _ _
    (watches-sound places.Else-not-sound_watches) c.in-Some.is c.message-sent.ensures
