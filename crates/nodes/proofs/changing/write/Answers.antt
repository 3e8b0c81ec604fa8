-- Where the path is there its value is put, if the domain may and the value is not too long; else what is left of it is made.
use mathlib.Core.Path.{refl, sym, ◌∙◌}
use Rattle.slots.proofs.Canonical.{sound_canonical}
use Rattle.nodes.proofs.Outcomes.{refused_so, changed_so}
use Rattle.nodes.proofs.ChangingLaws.{write-absent, write_denied, write-long, write_done}
use Rattle.nodes.proofs.changing.write.Goals as goal

pub returns-then-at-path : goal.returns-then-at-path
returns-then-at-path c =
    rw (write-absent _ _ _ _ _ c.reach-reached.ensures c.if-at-path.true _) c.create.ensures

pub returns-then-not-may_write : goal.returns-then-not-may_write
returns-then-not-may_write c =
    refused_so c.args.domain _ c.args.t.now (sound_canonical _ c.requires.standing.sound) _ c.args.reply.now _
    (write_denied _ _ _ _ _ c.reach-reached.ensures c.if-at-path.false _ (sym c.may_write.ensures ∙ c.if-not-may_write.true))

pub returns-then-value-gt-LONGEST_VALUE : goal.returns-then-value-gt-LONGEST_VALUE
returns-then-value-gt-LONGEST_VALUE c =
    refused_so c.args.domain _ c.args.t.now (sound_canonical _ c.requires.standing.sound) _ c.args.reply.now _
    (write-long _ _ _ _ _ c.reach-reached.ensures c.if-at-path.false _ (sym c.may_write.ensures ∙ c.if-not-may_write.false)
    c.if-value-gt-LONGEST_VALUE.true)

pub put_value-requires : goal.put_value-requires
put_value-requires c =
    let there = c.reach-reached.ensures in
    (there.below, sound_canonical _ c.requires.standing.sound, there.used, c.if-value-gt-LONGEST_VALUE.false)

pub returns : goal.returns
returns c =
    changed_so c.args.domain _ _ _ c.args.reply.now _ _ _ _ _ _ _ c.success.ensures refl
    (write_done _ _ _ _ _ c.reach-reached.ensures c.if-at-path.false _ (sym c.may_write.ensures ∙ c.if-not-may_write.false)
    c.if-value-gt-LONGEST_VALUE.false)
    c.put_value.ensures
