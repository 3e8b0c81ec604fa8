-- The base and its slash are 15 bytes and the domain's digits, and the path has as many.
use native.Mathlib.Omega.{arith}
use Rattle.rules.proofs.Decimals.{length-decimal_le}
use Rattle.events.proofs.ReportLaws.{base-length, cut-whole, cut-base}
use Rattle.events.proofs.report.cut.Goals as goal

pub returns-then-not-relative : goal.returns-then-not-relative
returns-then-not-relative c = cut-whole _ _ _ c.if-not-relative.true

pub overflow_add-n : goal.overflow_add-n
overflow_add-n c = omega (arith, c.digits-n.ensures, length-decimal_le c.args.d)

pub slice_bounds-result-count : goal.slice_bounds-result-count
slice_bounds-result-count c =
    omega (arith, c.digits-n.ensures, base-length c.args.d, c.requires.long c.if-not-relative.false)

pub slice_bounds-result-start : goal.slice_bounds-result-start
slice_bounds-result-start c =
    omega (arith, c.digits-n.ensures, base-length c.args.d, c.requires.long c.if-not-relative.false)

pub returns : goal.returns
returns c =
    cut-base _ _ _ c.digits-n.result c.if-not-relative.false c.digits-n.ensures
