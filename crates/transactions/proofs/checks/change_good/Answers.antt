-- The path that was read fits, and the change that was read is that of the table.
use mathlib.Core.Path.{sym, ap, ◌∙◌}
use Rattle.rules.specs.Sound.{good_change}
use Rattle.transactions.proofs.ChangeLaws.{change-fits}
use Rattle.transactions.proofs.Good.{path-full, change_unfit, given_is}
use Rattle.transactions.proofs.checks.change_good.Goals as goal

pub fits-requires : goal.fits-requires
fits-requires c =
    let args = c.args in
    path-full _ (change-fits args.s.now args.k args.j c.requires) _ c.path-p.ensures

pub returns-else-fits : goal.returns-else-fits
returns-else-fits c =
    let args = c.args in
    let fits = change-fits args.s.now args.k args.j c.requires in
    c.if-fits.false ∙ sym (change_unfit _ fits _ c.path-p.ensures (sym c.fits.ensures ∙ c.if-fits.false))

pub parents_good-requires : goal.parents_good-requires
parents_good-requires c =
    let args = c.args in
    let full = path-full _ (change-fits args.s.now args.k args.j c.requires) _ c.path-p.ensures in
    (full, sym c.fits.ensures ∙ c.if-fits.true)

pub returns-then-fits : goal.returns-then-fits
returns-then-fits c =
    let args = c.args in
    let fits = change-fits args.s.now args.k args.j c.requires in
    c.parents_good.ensures
    ∙ ap good_change (given_is _ fits _ c.path-p.ensures _ _ c.removed.ensures c.parents.ensures)
