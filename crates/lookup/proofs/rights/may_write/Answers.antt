-- Of the accesses those to write and to both are the ones from 2 on.
use mathlib.Core.Path.{ap}
use lib.Dec.{leb}
use Rattle.rules.specs.Rights.{Access, may_write}
use Rattle.lookup.proofs.rights.may_write.Goals as goal

pub returns : goal.returns
unfolding may_write
returns c = ap (λ (x : Access). leb 2 x.access) c.access_of.ensures
