-- The control domain owns every node; for any other its owner decides.
use lib.Dec.{eqb}
use borrow.Author.Rules.{rules}
use Rattle.rules.specs.Node.{Entry}
use mathlib.Core.Path.{sym, ap, ◌∙◌}
use Rattle.rules.specs.Rights.{may_own}
use Rattle.slots.proofs.Canonical.{sound_canonical}
use Rattle.lookup.proofs.RightsLaws.{owner_is}
use Rattle.lookup.proofs.rights.may_own.Goals as goal

pub returns-then-is_control : goal.returns-then-is_control
unfolding may_own
returns-then-is_control c = c.if-is_control.true ∙ rw (sym c.is_control.ensures ∙ c.if-is_control.true)

pub entry_at-requires : goal.entry_at-requires
entry_at-requires c = (c.requires.below, (sound_canonical _ c.requires.sound).whole, search rules)

pub returns-else-is_control : goal.returns-else-is_control
unfolding may_own
returns-else-is_control c =
    let args = c.args in
    rw (sym c.is_control.ensures ∙ c.if-is_control.false)
    (ap (eqb args.domain) (c.entry_at.ensures.1 ∙ ap (λ (e : Entry). e.domain) (owner_is args.t.now args.i c.requires)))
