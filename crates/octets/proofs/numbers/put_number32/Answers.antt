use mathlib.Core.Path.{ap, ◌∙◌}
use Rattle.rules.specs.Octets.{Octets, paste, four_bytes}
use Rattle.octets.proofs.numbers.put_number32.Goals as goal

pub returns : goal.returns
unfolding four_bytes
returns c = c.copy.ensures ∙ ap (λ (ys : Octets). paste c.args.at ys c.args.into.now) c.to_le_bytes.ensures
