-- The tests are those of a good watch, in its order, on the fields as they were read.
use mathlib.Core.Path.{◌≡◌, sym, ap, ◌∙◌}
use mathlib.Core.Bool.{not}
use Rattle.rules.specs.Domain.{Connection, domain_of}
use Rattle.rules.specs.Layout.{domains_of}
use Rattle.rules.specs.Sound.{known, no_nul, good_place}
use Rattle.octets.specs.Read.{Bytes}
use Rattle.octets.proofs.Bytes.{bytes-known}
use Rattle.watches.specs.Watch.{watch_of, TakenWatch}
use Rattle.watches.proofs.Good.{good_free, good-unknown, good-nul, good_misplaced, good_placed, read_same, place_agree}
use Rattle.watches.proofs.checks.place_good.Goals as goal
use Rattle.watches.proofs.checks.place_good.Goals.{After-good_place, After-known_sender, After-no_nul, Else-not-used}

-- ── what is known behind each test ──
bytes : (c : Else-not-used) → Bytes c.args.s.now
bytes c = bytes-known c.args.s.now c.type_inv.s

a-watch : (c : Else-not-used) → let args = c.args in TakenWatch args.s.now args.k
a-watch c =
    let pre = c.requires in
    record { below = pre.0; kept = pre.1; used = sym c.used.ensures ∙ c.if-not-used.false }

owner-known : (c : After-known_sender) →
    let args = c.args in
    known (domain_of (watch_of args.s.now args.k).owner) (domains_of args.domains.now) ≡ c.known_sender.result
owner-known c =
    let ds = domains_of c.args.domains.now in
    sym (c.known_sender.ensures ∙ ap (λ (o : Connection). known (domain_of o) ds) c.owner-c.ensures)

token-clean : (c : After-no_nul) →
    let args = c.args in
    no_nul (watch_of args.s.now args.k).token ≡ c.no_nul.result
token-clean c = sym (c.no_nul.ensures ∙ ap no_nul c.token-t.ensures)

place-good : (c : After-good_place) →
    let args = c.args in
    let w = watch_of args.s.now args.k in good_place w.owner w.depth w.place ≡ c.good_place.result
place-good c =
    let w : TakenWatch c.args.s.now c.args.k = record { below = c.requires.0; kept = c.requires.1; used = sym c.used.ensures ∙ c.if-not-used.false } in
    let own = c.owner-c.ensures in
    place_agree c.depth.result _ _ w.below (bytes-known c.args.s.now c.type_inv.s) w.kept w.used own c.depth.ensures c.relative.ensures
    c.path-p.ensures
    ∙ sym c.good_place.ensures

-- ── the tests ──
pub returns-then-not-used : goal.returns-then-not-used
returns-then-not-used c = sym (good_free _ _ _ (sym c.used.ensures ∙ c.if-not-used.true))

pub returns-then-not-known_sender : goal.returns-then-not-known_sender
returns-then-not-known_sender c =
    let places = goal.at.returns-then-not-known_sender c in
    sym (good-unknown _ _ _ (a-watch places.Else-not-used).used (owner-known places.After-known_sender ∙ c.if-not-known_sender.true))

pub returns-then-not-no_nul : goal.returns-then-not-no_nul
returns-then-not-no_nul c =
    let places = goal.at.returns-then-not-no_nul c in
    let is_Known = owner-known places.After-known_sender ∙ c.if-not-known_sender.false in
    sym (good-nul _ _ _ (a-watch places.Else-not-used).used is_Known (token-clean places.After-no_nul ∙ c.if-not-no_nul.true))

pub good_place-requires : goal.good_place-requires
good_place-requires c =
    let places = goal.at.good_place-requires c in
    let w = a-watch places.Else-not-used in
    read_same _ _ w.below (bytes places.Else-not-used) w.kept w.used c.relative.ensures c.path-p.ensures

pub returns-then-not-good_place : goal.returns-then-not-good_place
returns-then-not-good_place c =
    let places = goal.at.returns-then-not-good_place c in
    let watch = a-watch places.Else-not-used in
    let is_Known = owner-known places.After-known_sender ∙ c.if-not-known_sender.false in
    let is-clean = token-clean places.After-no_nul ∙ c.if-not-no_nul.false in
    sym (good_misplaced _ _ _ watch.used is_Known is-clean (place-good places.After-good_place ∙ c.if-not-good_place.true))

pub returns : goal.returns
returns c =
    let places = goal.at.returns c in
    let watch = a-watch places.Else-not-used in
    let is_Known = owner-known places.After-known_sender ∙ c.if-not-known_sender.false in
    let is-clean = token-clean places.After-no_nul ∙ c.if-not-no_nul.false in
    let is-placed = place-good places.After-good_place ∙ c.if-not-good_place.false in
    let later = c.watched_from.ensures in
    let path = c.path-p.ensures in
    ap not (rw (c.owner-c.ensures, path, c.token-t.ensures) at later)
    ∙ sym (good_placed _ _ _ watch.used is_Known is-clean is-placed)
