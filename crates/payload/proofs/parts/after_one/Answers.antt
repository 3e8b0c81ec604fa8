-- What the cursor finds behind the first string is a second one, the end, or bytes left over.
use mathlib.Core.Path.{◌≡◌, ap, sym, ◌∙◌}
use Prim.Native.Nat.{◌+◌}
use native.Mathlib.Omega.{arith}
use Rattle.payload.specs.Cursor.{taken_at}
use Rattle.payload.specs.declared.cursor.Taken.{Taken}
use Rattle.payload.proofs.CursorLaws.{string-told}
use Rattle.payload.proofs.PartsLaws.{one_left, one_end, one_more}
use Rattle.payload.proofs.parts.after_one.Goals as goal
use Rattle.payload.proofs.parts.after_one.Goals.{After-next}

found : (c : After-next) (t : Taken) → c.next.result ≡ t → taken_at c.args.s.now (c.args.a + 1) ≡ t
found c t e = sym (ap (taken_at _) c.requires.1) ∙ (sym c.next.ensures ∙ e)

pub after_two-requires : goal.after_two-requires
after_two-requires c =
    let t = string-told _ _ _ _ _ (found (goal.at.after_two-requires c).After-next _ c.in-String.is) in
    (omega (arith, t.string.low), t.string.high, t.goes_on)

pub returns-in-String : goal.returns-in-String
returns-in-String c =
    one_more _ _ c.requires.0 _ _ _ _ (found (goal.at.returns-in-String c).After-next _ c.in-String.is) c.after_two.ensures

pub returns-in-End : goal.returns-in-End
returns-in-End c = one_end _ _ c.requires.0 (found (goal.at.returns-in-End c).After-next _ c.in-End.is)

pub returns-in-Left : goal.returns-in-Left
returns-in-Left c = one_left _ _ c.requires.0 (found (goal.at.returns-in-Left c).After-next _ c.in-Left.is)
