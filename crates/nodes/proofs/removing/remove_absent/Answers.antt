-- More than one name left is an absent path; where one is, the right to read decides.
use mathlib.Core.Path.{sym, ◌∙◌}
use Rattle.slots.proofs.Canonical.{sound_canonical}
use Rattle.nodes.proofs.Outcomes.{refused_so, okay_so}
use Rattle.nodes.proofs.ChangingLaws.{rm_far, rm_near}
use Rattle.nodes.proofs.removing.remove_absent.Goals as goal

pub returns-then-names_left-gt1 : goal.returns-then-names_left-gt1
returns-then-names_left-gt1 c =
    refused_so c.args.domain _ c.args.t.now (sound_canonical _ c.requires.0.standing.sound) _ c.args.reply.now _
    (rm_far _ _ _ _ _ c.requires.1 c.requires.2 _ c.names_left.ensures c.if-names_left-gt1.true _
    (c.absent.ensures _))

pub returns-then-may_read : goal.returns-then-may_read
returns-then-may_read c =
    okay_so c.args.domain _ c.args.t.now (sound_canonical _ c.requires.0.standing.sound) _ c.args.reply.now _ _
    c.success.ensures
    (rm_near _ _ _ _ _ c.requires.1 c.requires.2 _ c.names_left.ensures c.if-names_left-gt1.false _
    (sym c.may_read.ensures ∙ c.if-may_read.true))

pub returns : goal.returns
returns c =
    refused_so c.args.domain _ c.args.t.now (sound_canonical _ c.requires.0.standing.sound) _ c.args.reply.now _
    (rm_near _ _ _ _ _ c.requires.1 c.requires.2 _ c.names_left.ensures c.if-names_left-gt1.false _
    (sym c.may_read.ensures ∙ c.if-may_read.false))
