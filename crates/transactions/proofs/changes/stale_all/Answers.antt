-- The places before the one in turn are done, the others as they were.
use Rattle.rules.specs.Layout.{transactions_of}
use Rattle.transactions.proofs.Written.{swept-stale, swept_stales}
use Rattle.transactions.proofs.changes.stale_all.Goals as goal

pub loop-k-preserved : goal.loop-k-preserved
loop-k-preserved c =
    let args = c.args in
    let inv = c.loop-k.invariant in
    swept-stale _ inv.0 _ c.loop-k-test.true (transactions_of args.s.now) inv.1 _ c.make_stale.ensures

pub returns : goal.returns
returns c =
    let args = c.args in
    let inv = c.loop-k.invariant in
    swept_stales _ args.s.now inv.0 _ c.loop-k-test.false inv.1
