-- After k turns the number has the first k bits of the mask.
use Rattle.events.proofs.MaskLaws.{Built}
use Rattle.events.proofs.masks.mask_where.Given as goal

abbrev pub invariant-loop-k : goal.invariant-loop-k
invariant-loop-k g l = Built (goal.F-post g l.test) l.k l.mask
