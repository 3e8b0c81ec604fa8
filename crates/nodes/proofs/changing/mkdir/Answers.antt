-- What is left of the path is made with no value; where nothing is, the right to write decides.
use mathlib.Core.Path.{sym, ◌∙◌}
use Rattle.slots.proofs.Canonical.{sound_canonical}
use Rattle.nodes.proofs.Outcomes.{refused_so, okay_so}
use Rattle.nodes.proofs.ChangingLaws.{mkdir-absent, mkdir-there}
use Rattle.nodes.proofs.changing.mkdir.Goals as goal

pub returns-then-at-path : goal.returns-then-at-path
returns-then-at-path c =
    rw (mkdir-absent _ _ _ _ _ c.reach-reached.ensures c.if-at-path.true) c.create.ensures

pub returns-then-may_write : goal.returns-then-may_write
returns-then-may_write c =
    okay_so c.args.domain _ c.args.t.now (sound_canonical _ c.requires.standing.sound) _ c.args.reply.now _ _
    c.success.ensures
    (mkdir-there _ _ _ _ _ c.reach-reached.ensures c.if-at-path.false _ (sym c.may_write.ensures ∙ c.if-may_write.true))

pub returns : goal.returns
returns c =
    refused_so c.args.domain _ c.args.t.now (sound_canonical _ c.requires.standing.sound) _ c.args.reply.now _
    (mkdir-there _ _ _ _ _ c.reach-reached.ensures c.if-at-path.false _ (sym c.may_write.ensures ∙ c.if-may_write.false))
