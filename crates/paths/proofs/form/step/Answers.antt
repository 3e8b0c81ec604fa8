-- Each entry is the machine's step of its row and column.
use Rattle.paths.proofs.ConstantTables.{steps, steps-right}
use Rattle.paths.proofs.form.step.Goals as goal

pub returns : goal.returns
unfolding steps
returns c = steps-right c.args.state c.args.class c.requires.0 c.requires.1
