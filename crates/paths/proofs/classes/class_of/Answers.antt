-- Each of the 256 entries is the class of its byte.
use borrow.Author.Rules.{rules}
use Rattle.paths.proofs.ConstantTables.{classes, classes_right}
use Rattle.paths.proofs.classes.class_of.Goals as goal

pub returns : goal.returns
unfolding classes
returns c = classes_right c.args.b (search rules)
