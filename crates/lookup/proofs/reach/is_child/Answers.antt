-- A free slot is nobody's child; of a used one parent and name decide.
use mathlib.Core.Path.{sym, ap, ◌∙◌}
use Rattle.rules.specs.Octets.{Octets, same}
use Rattle.rules.specs.Layout.{table_of}
use Rattle.slots.proofs.Canonical.{sound_canonical, name-short}
use Rattle.lookup.proofs.ChildrenLaws.{unused_parent, parent-used}
use Rattle.lookup.proofs.ReachLaws.{other_parent, same-parent}
use Rattle.lookup.proofs.reach.is_child.Goals as goal

pub used-requires : goal.used-requires
used-requires c = (c.requires.0, (sound_canonical _ c.requires.1).whole)

pub returns-then-not-used : goal.returns-then-not-used
returns-then-not-used c =
    sym (other_parent c.args.p c.args.n.now _ (unused_parent _ _ (sym c.used.ensures ∙ c.if-not-used.true)))

pub name-requires : goal.name-requires
name-requires c =
    let u = parent-used c.args.p _ (sym c.has_parent.ensures ∙ c.if-has_parent.true) in
    (c.requires.0, (sound_canonical _ c.requires.1).whole, u, name-short c.args.t.now c.requires.1 c.args.i c.requires.0 u)

pub returns-then-has_parent : goal.returns-then-has_parent
returns-then-has_parent c =
    let args = c.args in
    c.same.ensures
    ∙ ap (λ (m : Octets). same m args.n.now) c.name.ensures
    ∙ sym (same-parent (table_of args.t.now) args.i args.p args.n.now (sym c.has_parent.ensures ∙ c.if-has_parent.true))

pub returns-else-has_parent : goal.returns-else-has_parent
returns-else-has_parent c = c.if-has_parent.false ∙ sym (other_parent c.args.p c.args.n.now _ (sym c.has_parent.ensures ∙ c.if-has_parent.false))
