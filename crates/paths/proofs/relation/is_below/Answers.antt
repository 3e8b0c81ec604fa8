-- All but the root lie below the root; below any other lies what goes on with a slash behind its text.
use mathlib.Core.Path.{sym, ◌∙◌}
use borrow.Author.Tests.{le-ltb}
use Rattle.paths.proofs.RelationLaws.{below-short, below_root, below_other}
use Rattle.paths.proofs.relation.is_below.Goals as goal

pub returns-then-s-gt1 : goal.returns-then-s-gt1
returns-then-s-gt1 c =
    c.begins.ensures ∙ below_root _ _ (sym c.same.ensures ∙ c.if-same.true) c.if-s-gt1.true

pub returns-else-s-gt1 : goal.returns-else-s-gt1
returns-else-s-gt1 c = le-ltb _ _ c.if-s-gt1.false ∙ below-short _ _ (sym c.same.ensures ∙ c.if-same.true) c.if-s-gt1.false

pub returns : goal.returns
returns c = c.reaches.ensures ∙ below_other _ _ (sym c.same.ensures ∙ c.if-same.false)
