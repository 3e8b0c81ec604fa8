-- A free place takes the domain if it is new, and the records are those of its event; otherwise every table stays.
use lib.ListN.{length}
use mathlib.Core.List.{flat_map}
use native.Mathlib.Omega.{arith}
use mathlib.Core.Path.{refl, sym, ap, ◌∙◌}
use Rattle.rules.specs.Event.{Watches, heard_of}
use Rattle.rules.specs.Path.{introduce_name}
use Rattle.rules.specs.Octets.{paste}
use Rattle.events.specs.Stores.{event_name}
use Rattle.handlers.proofs.PlainLaws.{recorded-first}
use Rattle.handlers.proofs.Ways.{none-free, some_free, free-below, refused_so, same_tables_lem}
use Rattle.handlers.proofs.DomainLaws.{introduce_twice, introduce-full, introduce-done, introduced_so}
use Rattle.rules.specs.Layout.{record_bytes}
use Rattle.domains.proofs.Laws.{length-domains_of}
use Rattle.handlers.proofs.Alone.{domains-alone}
use Rattle.handlers.proofs.introducing.introduce.Goals as goal

pub returns-then-introduced : goal.returns-then-introduced
returns-then-introduced c =
    let pre = c.requires in
    λ w l events. refused_so w _ _ _ _ _
    (introduce_twice w _ _ _ _ l.domains (length-domains_of _) (sym c.introduced.ensures ∙ c.if-introduced.true))
    (same_tables_lem refl refl refl refl (domains-alone w _ pre.1 l.domains))

pub returns-in_default : goal.returns-in_default
returns-in_default c =
    let pre = c.requires in
    let fresh = sym c.introduced.ensures ∙ c.if-introduced.false in
    λ w l events. refused_so w _ _ _ _ _
    (introduce-full w _ _ _ _ l.domains (length-domains_of _) fresh _ (none-free _ _ _ c.lowest_free.ensures.found c.in_default.not-Some) (omega arith))
    (same_tables_lem refl refl refl refl (domains-alone w _ pre.1 l.domains))

pub returns : goal.returns
unfolding event_name
returns c =
    let args = c.args in
    let fresh = sym c.introduced.ensures ∙ c.if-introduced.false in
    let f = recorded-first _ _ _ _ c.of_domain-events.ensures in
    λ w l events. introduced_so _ _ _ _ _ _ _ _ _ _ _ _ _
    (introduce-done w _ _ _ _ l.domains (length-domains_of _) fresh _
    (some_free _ _ _ c.lowest_free.ensures.found _ c.in-Some.is) (free-below _ _ c.lowest_free.ensures.below _ c.in-Some.is))
    refl c.okay.ensures
    (f.0 ∙ ap (λ (ws : Watches). paste 0 (flat_map record_bytes (heard_of introduce_name args.domain ws)) args.events.now) (sym l.watches))
    (f.1 ∙ ap (λ (ws : Watches). length (heard_of introduce_name args.domain ws)) (sym l.watches))
    (same_tables_lem refl refl refl refl c.add.ensures)
