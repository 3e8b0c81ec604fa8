-- Those from place k on move up by one, and the slot goes in before them.
use mathlib.Core.Path.{ap, ◌∙◌}
use mathlib.Core.List.{List}
use Prim.Native.Nat.{ℕ}
use lib.ListN.{set}
use Rattle.lookup.proofs.ChildrenLaws.{put_before}
use Rattle.lookup.proofs.children.put_in.Goals as goal

pub returns : goal.returns
returns c =
    let args = c.args in
    ap (λ (l : List ℕ). set l args.k args.j) c.copy_within.ensures.after ∙ put_before args.list.now args.n args.k c.requires.0 c.requires.1 args.j
