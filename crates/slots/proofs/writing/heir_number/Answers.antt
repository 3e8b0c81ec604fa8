-- An heir has its parent's entries, but for the owner's domain, which is `inherited`'s.
use mathlib.Core.Path.{◌≡◌}
use native.Mathlib.Omega.{arith}
use Rattle.rules.proofs.Fitting.{decoded_fits, node_at-fits}
use Rattle.rules.specs.Layout.{table_of}
use Rattle.rules.specs.Node.{node_at}
use Rattle.slots.proofs.Numbers.{heir-number, heir_other}
use Rattle.slots.proofs.writing.heir_number.Goals as goal

pub returns-then-k-eq0 : goal.returns-then-k-eq0
returns-then-k-eq0 c =
    let args = c.args in
    let n = node_at (table_of args.t.now) args.parent in
    let f = node_at-fits (table_of args.t.now) args.parent (decoded_fits args.t.now).all in
    let e : args.k ≡ 0 = c.if-k-eq0.true in
    (rw e (heir-number n.owner n.others args.domain f.owner.domain (rw e at c.entry_number-number.ensures.0) c.inherited.ensures.0), omega arith)

pub returns : goal.returns
returns c =
    let args = c.args in
    let n = node_at (table_of args.t.now) args.parent in
    (heir_other n.owner n.others args.domain args.k c.if-k-eq0.false c.entry_number-number.ensures.0, omega arith)
