-- The tests are those of the rule book in its order, and four entries at most are those that are put.
use mathlib.Core.Path.{refl, sym, ◌∙◌}
use native.Mathlib.Omega.{arith}
use Rattle.slots.proofs.Canonical.{sound_canonical}
use Rattle.nodes.proofs.Outcomes.{refused_so, changed_so}
use Rattle.nodes.proofs.ChangingLaws.{perms_absent, perms_denied, perms_many, perms_done}
use Rattle.payload.proofs.Kept.{length-others}
use Rattle.nodes.proofs.permitting.set_perms.Goals as goal

pub returns-then-reached-path : goal.returns-then-reached-path
returns-then-reached-path c =
    refused_so c.args.domain _ c.args.t.now (sound_canonical _ c.requires.0.standing.sound) _ c.args.reply.now _
    (perms_absent _ _ _ _ _ c.reach-reached.ensures c.if-reached-path.true _ _ _ (c.absent.ensures _))

pub returns-then-not-may_set : goal.returns-then-not-may_set
returns-then-not-may_set c =
    refused_so c.args.domain _ c.args.t.now (sound_canonical _ c.requires.0.standing.sound) _ c.args.reply.now _
    (perms_denied _ _ _ _ _ c.reach-reached.ensures c.if-reached-path.false _ _
    (sym (c.may_set.ensures _ _ refl) ∙ c.if-not-may_set.true))

pub returns-then-entries-gt-MOST_ENTRIES : goal.returns-then-entries-gt-MOST_ENTRIES
returns-then-entries-gt-MOST_ENTRIES c =
    refused_so c.args.domain _ c.args.t.now (sound_canonical _ c.requires.0.standing.sound) _ c.args.reply.now _
    (perms_many _ _ _ _ _ c.reach-reached.ensures c.if-reached-path.false _ _
    (sym (c.may_set.ensures _ _ refl) ∙ c.if-not-may_set.false)
    (omega (arith, length-others c.args.entries c.requires.1.some-entry, c.if-entries-gt-MOST_ENTRIES.true)))

pub returns : goal.returns
returns c =
    changed_so c.args.domain _ _ _ c.args.reply.now _ _ _ _ _ _ _ c.success.ensures refl
    (perms_done _ _ _ _ _ c.reach-reached.ensures c.if-reached-path.false _ _
    (sym (c.may_set.ensures _ _ refl) ∙ c.if-not-may_set.false)
    (omega (arith, length-others c.args.entries c.requires.1.some-entry, c.if-entries-gt-MOST_ENTRIES.false)))
    c.permit.ensures
