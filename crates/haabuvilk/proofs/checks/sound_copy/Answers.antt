-- Of a closed transaction nothing is asked; an open one's copy is its part of the copies.
use mathlib.Core.Path.{sym, ◌∙◌}
use Rattle.haabuvilk.proofs.CheckLaws.{copy-closed, copy_open, copy-part}
use Rattle.haabuvilk.proofs.checks.sound_copy.Goals as goal

pub returns-then-not-is_open : goal.returns-then-not-is_open
returns-then-not-is_open c = sym (copy-closed _ _ (sym c.is_open.ensures ∙ c.if-not-is_open.true))

pub returns : goal.returns
returns c =
    let args = c.args in
    c.sound.ensures ∙ (copy-part args.copies.now args.k ∙ sym (copy_open _ _
    (sym c.is_open.ensures ∙ c.if-not-is_open.false)))
