-- A slot lies below another where it is met on the way up, which is as long as a path at most.
use mathlib.Core.Path.{◌≡◌, ap, sym, ◌∙◌}
use Prim.Native.Nat.{ℕ, ◌-◌, ◌+◌}
use native.Mathlib.Omega.{arith}
use Rattle.rules.specs.Layout.{table_of}
use Rattle.rules.specs.Node.{within}
use Rattle.rules.specs.Size.{deepest}
use Rattle.making.proofs.WithinLaws.{within_here, within-root, within_up, within_end}
use Rattle.making.proofs.removing.is_within.Goals as goal

pub returns-then-i-at : goal.returns-then-i-at
returns-then-i-at c = let turn = c.loop in within_here _ _ (deepest - turn.counter) turn.at c.if-i-at.true ∙ sym turn.invariant.1

pub returns-then-at-eq0 : goal.returns-then-at-eq0
returns-then-at-eq0 c =
    let turn = c.loop in
    within-root _ _ (deepest - turn.counter) turn.at c.if-i-at.false c.if-at-eq0.true ∙ sym turn.invariant.1

pub loop-preserved : goal.loop-preserved
loop-preserved c =
    let turn = c.loop in
    let args = c.args in
    let up = within_up (table_of args.t.now) args.i (deepest - turn.counter) turn.at (omega arith) c.if-i-at.false c.if-at-eq0.false c.above-at.ensures.1 in
    let less : deepest - turn.counter - 1 ≡ deepest - (turn.counter + 1) = omega arith in
    (c.above-at.ensures.0, turn.invariant.1 ∙ up ∙ ap (λ (k : ℕ). within k (table_of args.t.now) args.i c.above-at.result) less)

pub returns : goal.returns
returns c = let turn = c.loop in within_end _ _ (deepest - turn.counter) turn.at (omega arith) ∙ sym turn.invariant.1
