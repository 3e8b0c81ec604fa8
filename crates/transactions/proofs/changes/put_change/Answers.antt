-- A change is its fields and its path's field.
use mathlib.Core.Path.{ap, ◌∙◌}
use Prim.Native.Nat.{◌+◌, ◌*◌, ◌/◌, ◌%◌}
use lib.ListN.{length, set}
use Rattle.rules.specs.Octets.{Octets}
use Rattle.transactions.proofs.ChangeAdded.{put_two}
use Rattle.transactions.proofs.changes.put_change.Goals as goal

pub returns : goal.returns
returns c =
    let args = c.args in
    let pre = c.requires in
    let at = args.at in
    let path = args.path.now in
    let mark = c.removal_mark.result in
    ap (λ (l : Octets). set (set l at (mark + 2 * args.parents + length path / 256 % 2)) (at + 1) (length path % 256)) c.put_text.ensures
    ∙ put_two args.s.now at args.removed args.parents path pre.0 pre.3 pre.1 pre.2 mark c.removal_mark.ensures
