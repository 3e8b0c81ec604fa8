-- The control domain and the owner have every access; for any other the later entries decide, and else the first entry's access.
use mathlib.Core.Path.{sym, ap, ◌∙◌}
use Prim.Native.Nat.{ℕ}
use Rattle.rules.specs.Node.{Entry, node_at}
use Rattle.rules.specs.Rights.{named}
use Rattle.rules.specs.Layout.{table_of}
use Rattle.slots.proofs.Canonical.{sound_canonical}
use Rattle.lookup.proofs.RightsLaws.{owner_is, by_control, by_owner, by_others}
use borrow.Author.Rules.{rules}
use Rattle.lookup.proofs.rights.access_of.Goals as goal

pub returns-then-is_control : goal.returns-then-is_control
returns-then-is_control c = sym (by_control _ _ (sym c.is_control.ensures ∙ c.if-is_control.true))

pub entry_at-owner-requires : goal.entry_at-owner-requires
entry_at-owner-requires c = (c.requires.below, (sound_canonical _ c.requires.sound).whole, search rules)

pub returns-then-domain-owner : goal.returns-then-domain-owner
returns-then-domain-owner c =
    let o = owner_is c.args.t.now c.args.i c.requires in
    sym (by_owner _ _ (sym c.is_control.ensures ∙ c.if-is_control.false)
    (c.if-domain-owner.true ∙ c.entry_at-owner.ensures.1 ∙ ap (λ (e : Entry). e.domain) o))

pub returns : goal.returns
returns c =
    let args = c.args in
    let o = owner_is args.t.now args.i c.requires in
    let got = c.entry_at-owner in
    let node = node_at (table_of args.t.now) args.i in
    c.named.ensures
    ∙ ap (λ (f : ℕ). named args.domain f 1 node.others) (got.ensures.0 ∙ ap (λ (e : Entry). e.access) o)
    ∙ sym (by_others args.domain node (sym c.is_control.ensures ∙ c.if-is_control.false)
    (λ q. c.if-domain-owner.false (q ∙ sym (got.ensures.1 ∙ ap (λ (e : Entry). e.domain) o))))
