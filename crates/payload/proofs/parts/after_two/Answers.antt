-- Behind two strings is the end or a third; behind a third nothing more may stand.
use mathlib.Core.Path.{◌≡◌, ap, sym, ◌∙◌}
use Prim.Native.Nat.{◌+◌}
use Rattle.payload.specs.Cursor.{taken_at}
use Rattle.payload.specs.declared.cursor.Taken.{Taken}
use Rattle.payload.proofs.PartsLaws.{two_left, two_end, three_other, three_end}
use Rattle.payload.proofs.parts.after_two.Goals as goal
use Rattle.payload.proofs.parts.after_two.Goals.{After-next}

found : (c : After-next) (t : Taken) → c.next.result ≡ t → taken_at c.args.s.now (c.args.b + 1) ≡ t
found c t e = sym (ap (taken_at _) c.requires.2) ∙ (sym c.next.ensures ∙ e)

pub returns-in-End-next : goal.returns-in-End-next
returns-in-End-next c =
    three_end _ _ _ c.requires.0 c.requires.1 _ _ _ (found (goal.at.returns-in-End-next c).After-next _ c.in-String.is)
    (sym c.next-in-String.ensures ∙ c.in-End-next.is)

pub returns-in_default : goal.returns-in_default
returns-in_default c =
    three_other _ _ _ c.requires.0 c.requires.1 _ _ _ (found (goal.at.returns-in_default c).After-next _ c.in-String.is)
    (λ h. c.in_default.not-End (c.next-in-String.ensures ∙ h))

pub returns-in-End : goal.returns-in-End
returns-in-End c =
    two_end _ _ _ c.requires.0 c.requires.1 (found (goal.at.returns-in-End c).After-next _ c.in-End.is)

pub returns-in-Left : goal.returns-in-Left
returns-in-Left c =
    two_left _ _ _ c.requires.0 c.requires.1 (found (goal.at.returns-in-Left c).After-next _ c.in-Left.is)
