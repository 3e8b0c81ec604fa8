-- The two pieces lie within what is behind the text and leave no byte of it out, so all of it is zero if both are.
use mathlib.Core.Path.{sym, ap, ◌∙◌}
use Prim.Native.Nat.{◌/◌}
use native.Mathlib.Omega.{arith}
use lib.ListN.{drop}
use Rattle.rules.specs.Octets.{all_zero}
use Rattle.octets.proofs.Padding.{behind, late_fault, first_decides, piece}
use Rattle.octets.proofs.compare.rest_zero.Goals as goal

pub returns-then-half-n : goal.returns-then-half-n
returns-then-half-n c =
    let args = c.args in
    c.all_zero.ensures ∙ ap all_zero (behind args.s.now args.at args.size args.n c.requires.0)

pub returns-then-not-all_zero : goal.returns-then-not-all_zero
returns-then-not-all_zero c =
    let args = c.args in
    let late = c.all_zero-2.ensures ∙ ap all_zero (behind args.s.now args.at args.size (args.size / 2) (omega arith)) in
    sym (late_fault (drop args.at args.s.now) args.n (args.size / 2) args.size c.if-half-n.false (omega arith)
    (sym late ∙ c.if-not-all_zero.true))

pub returns : goal.returns
returns c =
    let args = c.args in
    let late = c.all_zero-2.ensures ∙ ap all_zero (behind args.s.now args.at args.size (args.size / 2) (omega arith)) in
    c.all_zero-3.ensures
    ∙ ap all_zero (piece args.s.now args.at args.n (args.size / 2))
    ∙ first_decides (drop args.at args.s.now) args.n (args.size / 2) args.size c.if-half-n.false (omega arith)
    (sym late ∙ c.if-not-all_zero.false)
