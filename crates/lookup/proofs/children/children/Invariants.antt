-- A slot goes where its name belongs in the order, and slots are met from the last down, so the list is that of the children met so far.
use Rattle.lookup.proofs.ChildrenLaws.{Gathered}
use Rattle.lookup.proofs.children.children.Given as goal

abbrev pub invariant-loop-i : goal.invariant-loop-i
invariant-loop-i l = Gathered l.t l.p l.i l.n l.list
