-- A path by its names, an event's name by its owner and depth.
use mathlib.Core.Path.{sym, ap, ◌∙◌}
use mathlib.Core.Bool.{not}
use Rattle.rules.specs.Domain.{Domain, is_control}
use Rattle.rules.specs.Path.{base, beyond, names_in}
use Rattle.rules.specs.Sound.{strictly_below}
use lib.Dec.{eqb}
use Rattle.std.specs.Prelude.{◌≡◌, MatchOption, IsTrue}
use Rattle.std.proofs.Common.{rules, tests}
use Rattle.domains.proofs.Tests.{empty_is, filled_is}
use Rattle.watches.proofs.Kept.{slash_full, other_special}
use Rattle.watches.proofs.Good.{good_unfit, good-plain, good-relative, good_foreign, good-event, event-levels, good_empty}
use Rattle.watches.proofs.checks.good_place.Goals as goal

pub returns-then-is_empty : goal.returns-then-is_empty
returns-then-is_empty c = sym (good_empty _ _ _ _ (empty_is c.is_empty.ensures c.if-is_empty.true))

pub fits-requires : goal.fits-requires
fits-requires c =
    slash_full _ _ c.requires (filled_is c.is_empty.ensures c.if-is_empty.false) c.if-x-eq47.true

pub returns-then-not-fits : goal.returns-then-not-fits
returns-then-not-fits c =
    sym (good_unfit _ _ _ _ (slash_full _ _ c.requires (filled_is c.is_empty.ensures c.if-is_empty.false) c.if-x-eq47.true)
    (sym c.fits.ensures ∙ c.if-not-fits.true))

pub returns-then-not-relative : goal.returns-then-not-relative
returns-then-not-relative c =
    ap not c.if-not-relative.true
    ∙ sym (good-plain _ _ _ _ (slash_full _ _ c.requires (filled_is c.is_empty.ensures c.if-is_empty.false) c.if-x-eq47.true)
    (sym c.fits.ensures ∙ c.if-not-fits.false) c.if-not-relative.true)

pub below_base-requires : goal.below_base-requires
below_base-requires c =
    slash_full _ _ c.requires (filled_is c.is_empty.ensures c.if-is_empty.false) c.if-x-eq47.true

pub returns-else-not-relative : goal.returns-else-not-relative
returns-else-not-relative c =
    let own = ap (λ (d : Domain). strictly_below (beyond (base d) (names_in c.args.x.now))) c.domain_of.ensures in
    c.below_base.ensures ∙ own
    ∙ sym (good-relative _ _ _ _ (slash_full _ _ c.requires (filled_is c.is_empty.ensures c.if-is_empty.false) c.if-x-eq47.true)
    (sym c.fits.ensures ∙ c.if-not-fits.false) c.if-not-relative.false)

pub returns-then-not-is_control : goal.returns-then-not-is_control
returns-then-not-is_control c =
    sym (good_foreign _ _ _ _ (other_special _ _ c.requires (filled_is c.is_empty.ensures c.if-is_empty.false) c.if-x-eq47.false)
    (sym (c.is_control.ensures ∙ ap is_control c.domain_of-2.ensures) ∙ c.if-not-is_control.true))

pub returns : goal.returns
returns c =
    let own : MatchOption c.args.depth (IsTrue c.is_none_or.result) (λ k. c.is_none_or.result ≡ eqb k 1) = search (rules, tests) in
    event-levels _ _ own
    ∙ sym (good-event _ _ _ _ (other_special _ _ c.requires (filled_is c.is_empty.ensures c.if-is_empty.false) c.if-x-eq47.false)
    (sym (c.is_control.ensures ∙ ap is_control c.domain_of-2.ensures) ∙ c.if-not-is_control.false))
