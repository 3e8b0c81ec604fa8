-- A payload begins with a string, or there is none in it.
use mathlib.Core.Path.{◌≡◌, ap, sym, ◌∙◌}
use mathlib.Core.Logic.{⊎_elim}
use Rattle.payload.specs.Cursor.{taken_at}
use Rattle.payload.specs.declared.cursor.Taken.{Taken}
use Rattle.payload.specs.declared.cursor.Taken.TheVariants.{Left, End}
use Rattle.payload.proofs.CursorLaws.{string-told}
use Rattle.payload.proofs.PartsLaws.{none_left, none_end, none_more}
use Rattle.payload.proofs.parts.apart.Goals as goal
use Rattle.payload.proofs.parts.apart.Goals.{After-next}

found : (c : After-next) (t : Taken) → c.next.result ≡ t → taken_at c.args.s.now 0 ≡ t
found c t e = sym (ap (taken_at _) c.new.ensures) ∙ (sym c.next.ensures ∙ e)

pub after_one-requires : goal.after_one-requires
after_one-requires c =
    let t = string-told _ _ _ _ _ (found (goal.at.after_one-requires c).After-next _ c.in-String.is) in
    (t.string.high, t.goes_on)

pub returns-in-String : goal.returns-in-String
returns-in-String c = none_more _ _ _ _ _ (found (goal.at.returns-in-String c).After-next _ c.in-String.is) c.after_one.ensures

pub returns-in-End : goal.returns-in-End
returns-in-End c =
    let f = found (goal.at.returns-in-End c).After-next in
    ⊎_elim (λ (e : c.next.result ≡ End). none_end _ (f _ e)) (λ (e : c.next.result ≡ Left). none_left _ (f _ e)) c.in-End.is
