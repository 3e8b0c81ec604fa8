-- The three tests of the rule book, in its order.
use mathlib.Core.Path.{sym, ap, ◌∙◌}
use Rattle.slots.proofs.Canonical.{sound_canonical}
use Rattle.rules.specs.Node.{Entry}
use Rattle.lookup.proofs.RightsLaws.{owner_is}
use Rattle.nodes.proofs.PermittingLaws.{set_denied, set-control, set-owner}
use borrow.Author.Rules.{rules}
use Rattle.nodes.proofs.permitting.may_set.Goals as goal

pub returns-then-not-may_own : goal.returns-then-not-may_own
returns-then-not-may_own c = λ ns o e. set_denied _ ns _ _ o (sym c.may_own.ensures ∙ c.if-not-may_own.true)

pub returns-then-is_control : goal.returns-then-is_control
returns-then-is_control c =
    λ ns o e.
    set-control _ ns _ _ o (sym c.may_own.ensures ∙ c.if-not-may_own.false) (sym c.is_control.ensures ∙ c.if-is_control.true)

pub entry_at-requires : goal.entry_at-requires
entry_at-requires c =
    (c.requires.below, (sound_canonical _ c.requires.sound).whole, search rules)

pub returns : goal.returns
returns c =
    λ ns o e.
    set-owner _ ns _ _ o (sym c.may_own.ensures ∙ c.if-not-may_own.false) (sym c.is_control.ensures ∙ c.if-is_control.false) _ _ e
    (c.entry_at.ensures.1 ∙ ap (λ (x : Entry). x.domain) (owner_is _ _ c.requires))
