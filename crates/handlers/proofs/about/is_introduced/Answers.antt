-- The letter that was put is that of whether the domain is known.
use mathlib.Core.Path.{sym, ◌∙◌}
use Rattle.handlers.proofs.AboutLaws.{told-introduced, told-unknown}
use Rattle.handlers.proofs.about.is_introduced.Goals as goal

pub returns-then-known : goal.returns-then-known
returns-then-known c =
    let known = sym c.known.ensures ∙ c.if-known.true in
    λ w e. told-introduced w _ _ _ _ e known c.copy.ensures

pub returns-else-known : goal.returns-else-known
returns-else-known c =
    let known = sym c.known.ensures ∙ c.if-known.false in
    λ w e. told-unknown w _ _ _ _ e known c.copy-else-known.ensures
