-- The first three bits by the two things that they say.
use mathlib.Core.Path.{◌∙◌}
use Rattle.watches.proofs.Written.{marks_are, given-taken}
use Rattle.watches.proofs.changes.marks.Goals as goal

pub returns : goal.returns
returns c = rw (c.from.ensures, c.from-2.ensures, c.is_some.ensures ∙ given-taken c.args.depth) (marks_are _ _)
