-- An event's name always fits, and a path by its length.
use Rattle.handlers.specs.Watching.{PlacedAs}
use mathlib.Core.Bool.{Bool}
use mathlib.Core.Path.{subst}
use Rattle.handlers.proofs.WatchingLaws.{token-long, named-short, full-short}
use Rattle.handlers.proofs.watching.is_short.Goals as goal

pub returns-then-token-gt-LONGEST_TOKEN : goal.returns-then-token-gt-LONGEST_TOKEN
returns-then-token-gt-LONGEST_TOKEN c = λ w r. token-long w _ c.args.token.now r c.if-token-gt-LONGEST_TOKEN.true

pub returns-then-special : goal.returns-then-special
returns-then-special c =
    let placed = subst (λ (b : Bool). PlacedAs b c.args.path.now) c.if-special.true c.requires in
    λ w r. named-short w _ c.args.token.now r c.if-token-gt-LONGEST_TOKEN.false placed

pub fits-requires : goal.fits-requires
fits-requires c =
    subst (λ (b : Bool). PlacedAs b c.args.path.now) c.if-special.false c.requires

pub returns : goal.returns
returns c =
    let placed = subst (λ (b : Bool). PlacedAs b c.args.path.now) c.if-special.false c.requires in
    λ w r. full-short w _ c.args.token.now r c.if-token-gt-LONGEST_TOKEN.false _ placed c.fits.ensures
