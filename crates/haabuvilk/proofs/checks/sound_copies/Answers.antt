-- The copies before i are sound, so those from i on decide.
use mathlib.Core.Path.{sym, ◌∙◌}
use Rattle.domains.proofs.Tests.{and_first, and_rest}
use Rattle.haabuvilk.proofs.CheckLaws.{copies_next, copies_over}
use Rattle.haabuvilk.proofs.checks.sound_copies.Goals as goal

pub sound_copy-requires : goal.sound_copy-requires
sound_copy-requires c =
    (c.loop-i-test.true, c.requires.0, c.requires.1)

pub returns-then-not-sound_copy : goal.returns-then-not-sound_copy
returns-then-not-sound_copy c =
    let args = c.args in
    sym (c.loop-i.invariant ∙ (copies_next args.copies.now args.transactions.now c.loop-i.i c.loop-i-test.true
    ∙ and_first _ _ (sym c.sound_copy.ensures ∙ c.if-not-sound_copy.true)))

pub loop-i-preserved : goal.loop-i-preserved
loop-i-preserved c =
    let args = c.args in
    c.loop-i.invariant ∙ (copies_next args.copies.now args.transactions.now c.loop-i.i c.loop-i-test.true
    ∙ and_rest _ _ (sym c.sound_copy.ensures ∙ c.if-not-sound_copy.false))

pub returns : goal.returns
returns c =
    let args = c.args in
    sym (c.loop-i.invariant ∙ copies_over args.copies.now args.transactions.now c.loop-i.i c.loop-i-test.false)
