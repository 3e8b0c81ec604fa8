-- Of the accesses those to read and to both are the odd ones.
use mathlib.Core.Path.{ap}
use Prim.Native.Nat.{◌%◌}
use lib.Dec.{eqb}
use Rattle.rules.specs.Rights.{Access, may_read}
use Rattle.lookup.proofs.rights.may_read.Goals as goal

pub returns : goal.returns
unfolding may_read
returns c = ap (λ (x : Access). eqb (x.access % 2) 1) c.access_of.ensures
