-- A free slot has no parent; of a used one its parent decides.
use mathlib.Core.Path.{sym, ap, ◌∙◌}
use Prim.Native.Nat.{ℕ}
use lib.Dec.{eqb}
use Rattle.rules.specs.Layout.{table_of}
use Rattle.slots.proofs.Canonical.{sound_canonical}
use Rattle.lookup.proofs.ChildrenLaws.{unused_parent, used-parent}
use Rattle.lookup.proofs.children.has_parent.Goals as goal

pub used-requires : goal.used-requires
used-requires c = (c.requires.0, (sound_canonical _ c.requires.1).whole)

pub returns-else-used : goal.returns-else-used
returns-else-used c = c.if-used.false ∙ sym (unused_parent _ _ (sym c.used.ensures ∙ c.if-used.false))

pub parent-requires : goal.parent-requires
parent-requires c =
    (c.requires.0, (sound_canonical _ c.requires.1).whole, sym c.used.ensures ∙ c.if-used.true)

pub returns-then-used : goal.returns-then-used
returns-then-used c =
    let args = c.args in
    let u = sym c.used.ensures ∙ c.if-used.true in
    ap (λ (n : ℕ). eqb n args.p) c.parent.ensures.1 ∙ sym (used-parent (table_of args.t.now) args.i args.p u)
