-- Any other domain is refused; the control domain's request is the handler's.
use mathlib.Core.Path.{refl, sym, ◌∙◌}
use Rattle.handlers.proofs.Alone.{domains-alone}
use Rattle.handlers.proofs.Ways.{handled_as, refused_so, same_tables_lem}
use Rattle.requests.proofs.HandleLaws.{control_denied, control_allowed}
use Rattle.requests.proofs.control.introduce_by.Goals as goal

pub returns-then-not-is_control : goal.returns-then-not-is_control
returns-then-not-is_control c =
    let denied = sym c.is_control.ensures ∙ c.if-not-is_control.true in
    λ w l e.
    refused_so w _ _ _ _ _ (control_denied w c.args.sender c.requires.0 _ denied)
    (same_tables_lem refl refl refl refl (domains-alone w _ c.requires.2 l.domains))

pub returns : goal.returns
returns c =
    let allowed = sym c.is_control.ensures ∙ c.if-not-is_control.false in
    λ w l e. handled_as (control_allowed w c.args.sender c.requires.0 _ allowed) (c.introduce.ensures w l e)
