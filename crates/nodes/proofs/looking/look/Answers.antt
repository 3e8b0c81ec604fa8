-- An absent path, one that may be read and one that may not, each by its law.
use mathlib.Core.Path.{sym, ◌∙◌}
use Rattle.rules.specs.Path.{names_in}
use Rattle.rules.specs.Layout.{table_of}
use Rattle.replies.specs.Meant.{errno_meant}
use Rattle.nodes.proofs.Outcomes.{whole, short, asked, looked-there, looked_hidden, looked-short}
use Rattle.nodes.proofs.looking.look.Goals as goal

pub reach-reached-requires : goal.reach-reached-requires
reach-reached-requires c = (c.requires.sound, c.requires.full)

pub absent-requires : goal.absent-requires
absent-requires c = asked _ _ _ _ c.reach-reached.ensures c.requires.sound

pub returns-then-reached-path : goal.returns-then-reached-path
returns-then-reached-path c =
    let ns = names_in c.args.path.now in
    λ give.
    looked-short _ ns (table_of c.args.t.now) _ _ give _ _ (short _ _ _ _ c.reach-reached.ensures c.if-reached-path.true)
    (errno_meant c.absent.result) (c.absent.ensures ns)

pub may_read-requires : goal.may_read-requires
may_read-requires c = asked _ _ _ _ c.reach-reached.ensures c.requires.sound

pub returns-then-may_read : goal.returns-then-may_read
returns-then-may_read c =
    let at = c.reach-reached.ensures in (
      asked _ _ _ _ at c.requires.sound,
      λ give. looked-there _ _ _ _ _ give (whole _ _ _ _ at c.if-reached-path.false) (sym c.may_read.ensures ∙ c.if-may_read.true),
    )

pub returns : goal.returns
returns c =
    λ give.
    looked_hidden _ _ _ _ _ give (whole _ _ _ _ c.reach-reached.ensures c.if-reached-path.false) (sym c.may_read.ensures ∙ c.if-may_read.false)
