-- A full path means itself, an event's name itself where it is not relative, and nothing else but the empty text means a place.
use mathlib.Core.Path.{sym, ◌∙◌}
use Rattle.paths.proofs.FormLaws.{form-absolute, form-special, form-relative, form-malformed}
use Rattle.domains.proofs.Tests.{empty_is, filled_is}
use Rattle.watches.proofs.Kept.{same_full, same-special, same_empty, same_other, place-malformed, place-relative, relative-long}
use Rattle.watches.proofs.checks.place_same.Goals as goal

pub returns-then-is_empty : goal.returns-then-is_empty
returns-then-is_empty c =
    let x = c.args.x.now in
    let e = form-malformed x (sym c.form.ensures ∙ c.in-Malformed.is) in
    sym (same_empty _ x (place-malformed _ x e) (empty_is c.is_empty.ensures c.if-is_empty.true))

pub returns-in-Absolute : goal.returns-in-Absolute
returns-in-Absolute c = sym (same_full _ _ (form-absolute _ (sym c.form.ensures ∙ c.in-Absolute.is)))

pub returns-in-Special : goal.returns-in-Special
returns-in-Special c = sym (same-special _ _ (form-special _ (sym c.form.ensures ∙ c.in-Special.is)))

pub returns-in-Relative : goal.returns-in-Relative
returns-in-Relative c =
    let x = c.args.x.now in
    let e = form-relative x (sym c.form.ensures ∙ c.in-Relative.is) in
    sym (same_other _ x (place-relative _ x e) (relative-long x e))

pub returns-else-is_empty : goal.returns-else-is_empty
returns-else-is_empty c =
    let x = c.args.x.now in
    let e = form-malformed x (sym c.form.ensures ∙ c.in-Malformed.is) in
    c.if-is_empty.false ∙ sym (same_other _ x (place-malformed _ x e) (filled_is c.is_empty.ensures c.if-is_empty.false))
