-- Small letters with zeros behind them are a name with zeros behind it; of any other text the bytes and what is behind them decide.
use mathlib.Core.Path.{ap, sym, ◌∙◌}
use Rattle.soundness.specs.Parts.{small_letters}
use Rattle.soundness.proofs.KeptNames.{lasts_whole, no_name, second_fault, small_name, first_fault, short-name}
use Rattle.soundness.proofs.slot.short_name.Goals as goal

pub returns-then-n-eq0 : goal.returns-then-n-eq0
returns-then-n-eq0 c = no_name _ _ _ c.if-n-eq0.true

pub returns-then-not-all_zero : goal.returns-then-not-all_zero
returns-then-not-all_zero c =
    second_fault _ _ _ c.requires.0 (sym c.all_zero.ensures ∙ c.if-not-all_zero.true)

pub returns-then-small_letters : goal.returns-then-small_letters
returns-then-small_letters c =
    let args = c.args in
    small_name args.t.now args.at args.n c.requires.0 (sym c.all_zero.ensures ∙ c.if-not-all_zero.false)
    c.if-n-eq0.false c.requires.1 (ap (small_letters _) (sym (lasts_whole args.n)) ∙ (sym c.small_letters.ensures ∙ c.if-small_letters.true))

pub returns-then-not-all_zero-2 : goal.returns-then-not-all_zero-2
returns-then-not-all_zero-2 c =
    let args = c.args in
    first_fault args.t.now args.at args.n c.requires.0 (sym c.all_zero.ensures ∙ c.if-not-all_zero.false)
    (sym c.all_zero-2.ensures ∙ c.if-not-all_zero-2.true)

pub returns : goal.returns
returns c =
    let args = c.args in
    short-name args.t.now args.at args.n c.requires.0 (sym c.all_zero.ensures ∙ c.if-not-all_zero.false)
    (sym c.all_zero-2.ensures ∙ c.if-not-all_zero-2.false) c.is_name.ensures
