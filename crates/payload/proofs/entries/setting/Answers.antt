-- No entry at all is malformed; with one or more the path is asked.
use mathlib.Core.Path.{sym, ◌∙◌}
use borrow.Author.Tests.{eq-eqb, ne_eqb}
use Rattle.payload.specs.Answers.{setting_of}
use Rattle.payload.proofs.entries.setting.Goals as goal

pub returns-then-entries-eq0 : goal.returns-then-entries-eq0
unfolding setting_of
returns-then-entries-eq0 c s = sym (rw (eq-eqb _ _ c.if-entries-eq0.true))

pub returns : goal.returns
unfolding setting_of
returns c s = c.asking.ensures s ∙ sym (rw (ne_eqb _ _ c.if-entries-eq0.false))
