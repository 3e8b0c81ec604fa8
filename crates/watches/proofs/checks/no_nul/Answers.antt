-- There is no nul where no byte is one.
use mathlib.Core.Path.{ap, ◌∙◌}
use mathlib.Core.Bool.{not}
use Rattle.watches.proofs.Good.{nul_absent}
use Rattle.watches.proofs.checks.no_nul.Goals as goal

pub returns : goal.returns
returns c = ap not c.contains.ensures.value ∙ nul_absent c.args.t.now
