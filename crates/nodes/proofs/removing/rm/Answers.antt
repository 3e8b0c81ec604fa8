-- A path that is there is removed if the domain may write it; an absent one is answered by its own function.
use mathlib.Core.Path.{refl, sym, ◌∙◌}
use Rattle.slots.proofs.Canonical.{sound_canonical}
use Rattle.nodes.proofs.Outcomes.{refused_so, changed_so}
use Rattle.nodes.proofs.ChangingLaws.{rm_denied, rm-done}
use Rattle.nodes.proofs.removing.rm.Goals as goal

pub returns-then-not-may_write : goal.returns-then-not-may_write
returns-then-not-may_write c =
    refused_so c.args.domain _ c.args.t.now (sound_canonical _ c.requires.standing.sound) _ c.args.reply.now _
    (rm_denied _ _ _ _ _ c.reach-reached.ensures c.if-at-path.false (sym c.may_write.ensures ∙ c.if-not-may_write.true))

pub remove-requires : goal.remove-requires
remove-requires c =
    sound_canonical _ c.requires.standing.sound

pub returns : goal.returns
returns c =
    changed_so c.args.domain _ _ _ c.args.reply.now _ _ _ _ _ _ _ c.success.ensures refl
    (rm-done _ _ _ _ _ c.reach-reached.ensures c.if-at-path.false (sym c.may_write.ensures ∙ c.if-not-may_write.false))
    c.remove.ensures
