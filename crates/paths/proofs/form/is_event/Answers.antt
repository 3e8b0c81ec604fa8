-- There are two event names.
use mathlib.Core.Path.{sym, ◌∙◌}
use Rattle.rules.specs.Octets.{text}
use Rattle.rules.specs.Path.{introduce_name, release_name}
use Rattle.paths.proofs.VerdictLaws.{event-first, event-second}
use Rattle.paths.proofs.form.is_event.Goals as goal

pub returns-then-same : goal.returns-then-same
unfolding introduce_name text
returns-then-same c = c.if-same.true ∙ event-first _ (sym c.same.ensures ∙ c.if-same.true)

pub returns-else-same : goal.returns-else-same
unfolding introduce_name release_name text
returns-else-same c = c.same-else-same.ensures ∙ event-second _ (sym c.same.ensures ∙ c.if-same.false)
