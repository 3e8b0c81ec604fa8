-- The first string is the path, if it is one, and the rest the value.
use mathlib.Core.Path.{◌≡◌, ap, sym, ◌∙◌}
use native.Mathlib.Omega.{arith}
use Rattle.payload.specs.Cursor.{taken_at}
use Rattle.payload.specs.declared.cursor.Taken.TheVariants.{String}
use Rattle.payload.proofs.CursorLaws.{string-told, first-told, nothing_told}
use Rattle.payload.proofs.AskLaws.{write_other, write_not, write_means}
use Rattle.payload.proofs.asks.write.Goals as goal
use Rattle.payload.proofs.asks.write.Goals.{In-String}

found : (c : In-String) → taken_at c.args.s.now 0
    ≡ String c.in-String.start c.in-String.end c.in-String.next
found c =
    sym (ap (taken_at _) c.new.ensures) ∙ (sym c.next.ensures ∙ c.in-String.is)

pub returns-in_default : goal.returns-in_default
returns-in_default c =
    write_other _ (nothing_told _ _ (λ start end next h.
    c.in_default.not-String start end next (c.next.ensures ∙ (ap (taken_at _) c.new.ensures ∙ h))))

pub named-requires : goal.named-requires
named-requires c = omega (arith, (string-told _ _ _ _ _ (found (goal.at.named-requires c).In-String)).string.high)

pub returns-in_err-named : goal.returns-in_err-named
returns-in_err-named c =
    rw c.from_residual.ensures
    (write_not _ _ (sym c.in_err-named.ensures) (first-told _ _ _ _ (found (goal.at.returns-in_err-named c).In-String)))

pub returns : goal.returns
returns c =
    let f = found (goal.at.returns c).In-String in
    let t = string-told _ _ _ _ _ f in
    write_means _ _ _ t.string.high (sym c.in_ok-named.ensures) _ _ t.goes_on (first-told _ _ _ _ f) (c.asking.ensures _)
