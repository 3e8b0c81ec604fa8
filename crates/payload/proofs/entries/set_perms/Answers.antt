-- The first string is the path, if it is one, and the others are entries, if they are.
use mathlib.Core.Path.{◌≡◌, ap, sym, ◌∙◌}
use native.Mathlib.Omega.{arith}
use Rattle.payload.specs.Cursor.{taken_at}
use Rattle.payload.specs.declared.cursor.Taken.TheVariants.{String}
use Rattle.payload.proofs.CursorLaws.{string-told, nothing_told}
use Rattle.payload.proofs.SettingLaws.{setting_other, setting_not, setting_unnamed, setting_means}
use Rattle.payload.proofs.entries.set_perms.Goals as goal
use Rattle.payload.proofs.entries.set_perms.Goals.{In-String}

found : (c : In-String) → taken_at c.args.s.now 0
    ≡ String c.in-String.start c.in-String.end c.in-String.next
found c =
    sym (ap (taken_at _) c.new.ensures) ∙ (sym c.next.ensures ∙ c.in-String.is)

pub returns-in_default : goal.returns-in_default
returns-in_default c =
    setting_other _ (nothing_told _ _ (λ start end next h.
    c.in_default.not-String start end next (c.next.ensures ∙ (ap (taken_at _) c.new.ensures ∙ h))))

pub permissions-requires : goal.permissions-requires
permissions-requires c = let t = string-told _ _ _ _ _ (found (goal.at.permissions-requires c).In-String) in omega arith

pub returns-in_err-entries : goal.returns-in_err-entries
returns-in_err-entries c =
    rw c.from_residual.ensures
    (setting_not _ _ _ _ (found (goal.at.returns-in_err-entries c).In-String) (sym c.in_err-entries.ensures))

pub named-requires : goal.named-requires
named-requires c = let t = string-told _ _ _ _ _ (found (goal.at.named-requires c).In-String) in omega arith

pub returns-in_err-named : goal.returns-in_err-named
returns-in_err-named c =
    rw c.from_residual-in_err-named.ensures
    (setting_unnamed _ _ _ _ (found (goal.at.returns-in_err-named c).In-String) (sym c.in_err-named.ensures))

pub returns : goal.returns
returns c =
    setting_means _ _ _ _ (found (goal.at.returns c).In-String) _ (sym c.in_ok-named.ensures) _ _
    (sym c.in_ok-entries.ensures) (c.setting.ensures _)
