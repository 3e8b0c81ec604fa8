-- Each kind is its handler's; a table that the handler is not lent stays as it is.
use mathlib.Core.Path.{refl, ap}
use Rattle.std.specs.Prelude.{Ok}
use Rattle.rules.specs.World as W
use Rattle.rules.specs.Call.{outcome_of}
use Rattle.payload.specs.Meaning.{meant}
use Rattle.handlers.proofs.Ways.{refused_so, done_so, same_tables_lem}
use Rattle.requests.proofs.HandleLaws.{connection_low, nodes_canonical, domains-kept, watches-kept, transactions-kept, committable, releasable}
use Rattle.requests.proofs.HandleLaws.{nodes-left, copies-left, watches-left, transactions-left, domains-left, all_left, is_unknown, sound_as}
use Rattle.requests.proofs.HandleLaws.{read_as, handled_so}
use Rattle.requests.proofs.handle.other_request.Goals as goal

pub watch_place-requires : goal.watch_place-requires
watch_place-requires c =
    let v = c.requires.0 in
    let it = sound_as c.in-Watch.is _ c.requires.1 in
    (v.speaks, connection_low _ _ _ _ _ v, watches-kept _ _ _ _ _ v, it, v.payload, v.reply, v.events)

pub unwatch_place-requires : goal.unwatch_place-requires
unwatch_place-requires c =
    let v = c.requires.0 in
    let it = sound_as c.in-Unwatch.is _ c.requires.1 in
    (v.speaks, watches-kept _ _ _ _ _ v, it, v.payload, v.reply)

pub start-requires : goal.start-requires
start-requires c =
    let v = c.requires.0 in
    (nodes_canonical _ _ _ _ _ v, (committable _ _ _ _ _ v).whole, transactions-kept _ _ _ _ _ v, connection_low _ _ _ _ _ v, v.reply)

pub end-requires : goal.end-requires
end-requires c =
    let v = c.requires.0 in
    committable _ _ _ _ _ v

pub introduce_by-requires : goal.introduce_by-requires
introduce_by-requires c =
    let v = c.requires.0 in
    let it = sound_as c.in-Introduce.is _ c.requires.1 in
    (v.speaks, watches-kept _ _ _ _ _ v, domains-kept _ _ _ _ _ v, it.high, v.reply, v.events)

pub release_by-requires : goal.release_by-requires
release_by-requires c =
    let v = c.requires.0 in
    let it = sound_as c.in-Release.is _ c.requires.1 in
    (v.speaks, releasable _ _ _ _ _ v, it.0, it.1, v.reply)

pub is_introduced-requires : goal.is_introduced-requires
is_introduced-requires c =
    let v = c.requires.0 in
    ((domains-kept _ _ _ _ _ v).whole, v.reply)

pub reset-requires : goal.reset-requires
reset-requires c =
    let v = c.requires.0 in
    (watches-kept _ _ _ _ _ v, transactions-kept _ _ _ _ _ v, v.reply)

pub returns-in-Invalid : goal.returns-in-Invalid
unfolding meant outcome_of W.handle W.left W.to
returns-in-Invalid c =
    λ w l e.
    refused_so w _ _ _ _ _ (read_as c.in-Invalid.is w _ _ _ _) (all_left _ _ _ _ _ c.requires.0 w l)

pub returns-in-Watch : goal.returns-in-Watch
unfolding meant outcome_of W.handle W.left W.to
returns-in-Watch c =
    let v = c.requires.0 in
    let kind = c.in-Watch.is in
    λ w l e.
    handled_so (read_as kind w _ _ _ _)
    (same_tables_lem (nodes-left _ _ _ _ _ v w l.nodes) (copies-left _ _ _ _ _ v w l.copies) refl
    (transactions-left _ _ _ _ _ v w l.transactions) (domains-left _ _ _ _ _ v w l.domains))
    (c.watch_place.ensures w (record { nodes = tt; copies = tt; watches = l.watches; transactions = tt; domains = tt }) e)

pub returns-in-Unwatch : goal.returns-in-Unwatch
unfolding meant outcome_of W.handle W.left W.to
returns-in-Unwatch c =
    let v = c.requires.0 in
    let kind = c.in-Unwatch.is in
    λ w l e.
    handled_so (read_as kind w _ _ _ _)
    (same_tables_lem (nodes-left _ _ _ _ _ v w l.nodes) (copies-left _ _ _ _ _ v w l.copies) refl
    (transactions-left _ _ _ _ _ v w l.transactions) (domains-left _ _ _ _ _ v w l.domains))
    (c.unwatch_place.ensures w (record { nodes = tt; copies = tt; watches = l.watches; transactions = tt; domains = tt }) c.args.events.now)

pub returns-in-Start : goal.returns-in-Start
unfolding meant outcome_of W.handle W.left W.to
returns-in-Start c =
    let v = c.requires.0 in
    let kind = c.in-Start.is in
    λ w l e.
    handled_so (read_as kind w _ _ _ _)
    (same_tables_lem (nodes-left _ _ _ _ _ v w l.nodes) refl (watches-left _ _ _ _ _ v w l.watches) refl (domains-left _ _ _ _ _ v w l.domains))
    (c.start.ensures w (record { nodes = l.nodes; copies = l.copies; watches = tt; transactions = l.transactions; domains = tt })
    c.args.events.now)

pub returns-in-End : goal.returns-in-End
unfolding meant outcome_of W.handle W.left W.to
returns-in-End c =
    let v = c.requires.0 in
    let kind = c.in-End.is in
    λ w l e.
    handled_so (read_as kind w _ _ _ _)
    (same_tables_lem refl (copies-left _ _ _ _ _ v w l.copies) (watches-left _ _ _ _ _ v w l.watches) refl (domains-left _ _ _ _ _ v w l.domains))
    (c.end.ensures w (record { nodes = l.nodes; copies = l.copies; watches = l.watches; transactions = l.transactions; domains = tt }) e)

pub returns-in-Introduce : goal.returns-in-Introduce
unfolding meant outcome_of W.handle W.left W.to
returns-in-Introduce c =
    let v = c.requires.0 in
    let kind = c.in-Introduce.is in
    λ w l e.
    handled_so (read_as kind w _ _ _ _)
    (same_tables_lem (nodes-left _ _ _ _ _ v w l.nodes) (copies-left _ _ _ _ _ v w l.copies) (watches-left _ _ _ _ _ v w l.watches)
    (transactions-left _ _ _ _ _ v w l.transactions) refl)
    (c.introduce_by.ensures w (record { nodes = tt; copies = tt; watches = l.watches; transactions = tt; domains = l.domains }) e)

pub returns-in-Release : goal.returns-in-Release
unfolding meant outcome_of W.handle W.left W.to
returns-in-Release c =
    let v = c.requires.0 in
    let kind = c.in-Release.is in
    λ w l e.
    handled_so (read_as kind w _ _ _ _)
    (same_tables_lem refl (copies-left _ _ _ _ _ v w l.copies) refl refl refl)
    (c.release_by.ensures w (record { nodes = l.nodes; copies = tt; watches = l.watches; transactions = l.transactions; domains = l.domains }) e)

pub returns-in-DomainPath : goal.returns-in-DomainPath
unfolding meant outcome_of W.handle W.left W.to
returns-in-DomainPath c =
    let kind = c.in-DomainPath.is in
    λ w l e.
    done_so w _ _ _ _ _ _ _ _ _ (read_as kind w _ _ _ _) (ap Ok c.with_events.ensures) c.domain_path.ensures
    (all_left _ _ _ _ _ c.requires.0 w l)

pub returns-in-IsIntroduced : goal.returns-in-IsIntroduced
unfolding meant outcome_of W.handle W.left W.to
returns-in-IsIntroduced c =
    let kind = c.in-IsIntroduced.is in
    λ w l e.
    done_so w _ _ _ _ _ _ _ _ _ (read_as kind w _ _ _ _) (ap Ok c.with_events-in-IsIntroduced.ensures) (c.is_introduced.ensures w l.domains)
    (all_left _ _ _ _ _ c.requires.0 w l)

pub returns-in-Reset : goal.returns-in-Reset
unfolding meant outcome_of W.handle W.left W.to
returns-in-Reset c =
    let v = c.requires.0 in
    let kind = c.in-Reset.is in
    λ w l e.
    handled_so (read_as kind w _ _ _ _)
    (same_tables_lem (nodes-left _ _ _ _ _ v w l.nodes) (copies-left _ _ _ _ _ v w l.copies) refl refl (domains-left _ _ _ _ _ v w l.domains))
    (c.reset.ensures w (record { nodes = tt; copies = tt; watches = l.watches; transactions = l.transactions; domains = tt }) c.args.events.now)

pub returns-in_default : goal.returns-in_default
unfolding meant outcome_of W.handle W.left W.to
returns-in_default c =
    let no = c.in_default in
    let kind =
    is_unknown c.args.r c.requires.2 no.not-Invalid no.not-Watch no.not-Unwatch no.not-Start no.not-End no.not-Introduce no.not-Release
    no.not-DomainPath no.not-IsIntroduced no.not-Reset in
    λ w l e. refused_so w _ _ _ _ _ (read_as kind w _ _ _ _) (all_left _ _ _ _ _ c.requires.0 w l)
