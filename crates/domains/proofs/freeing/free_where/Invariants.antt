-- The places before the one in turn were asked, and freed where the answer was true.
use mathlib.Core.Path.{◌≡◌}
use Rattle.domains.specs.Freed.{Freed}
use Rattle.domains.proofs.freeing.free_where.Given as goal

abbrev pub invariant-loop-k : goal.invariant-loop-k
invariant-loop-k g l = Freed l.size (λ t k b. (x : _) × (x.now ≡ t) × goal.F-post g l.test x k b) l.k l.initial.s l.s
