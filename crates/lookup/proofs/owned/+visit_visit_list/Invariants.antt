-- A visit goes one level down, and a list's walk one place on.
use Prim.Native.Nat.{◌+◌, ◌*◌, ◌-◌}
use Rattle.lookup.proofs.owned.+visit_visit_list.Given as goal

abbrev pub decreases-visit : goal.decreases-visit
decreases-visit l = l.depth * 256

abbrev pub decreases-visit_list : goal.decreases-visit_list
decreases-visit_list l = l.depth * 256 + (l.count - l.k) + 1
