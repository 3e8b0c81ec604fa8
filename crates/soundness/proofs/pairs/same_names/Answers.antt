-- The bytes of the names are compared.
use mathlib.Core.Path.{ap₂, ◌∙◌}
use Rattle.rules.specs.Octets.{same}
use Rattle.soundness.proofs.pairs.same_names.Goals as goal

pub returns : goal.returns
returns c = c.same.ensures ∙ ap₂ same c.name-a.ensures c.name-b.ensures
