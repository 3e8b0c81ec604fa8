-- A transaction that was just opened is its fields and zeros.
use mathlib.Core.Path.{ap, ◌∙◌}
use Prim.Native.Nat.{◌+◌, ◌*◌, ◌/◌, ◌%◌}
use lib.ListN.{set}
use Rattle.rules.specs.Size.{transaction_size}
use Rattle.rules.specs.Octets.{Octets}
use Rattle.transactions.proofs.Written.{put_open}
use Rattle.transactions.proofs.changes.open.Goals as goal

pub returns : goal.returns
returns c =
    let args = c.args in
    let at = args.k * transaction_size in
    let o = args.c in
    ap (λ (l : Octets). set (set (set l at 128) (at + 1) (o / 256 % 256)) (at + 2) (o % 256)) c.clear.ensures
    ∙ put_open args.s.now c.requires.2 args.k c.requires.0 o c.requires.1
