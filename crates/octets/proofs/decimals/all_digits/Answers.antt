-- The bytes before the turn's are digits, so those from there on decide.
use mathlib.Core.Path.{sym, ◌∙◌}
use Rattle.rules.specs.Octets.{is_digit}
use Rattle.octets.proofs.Digits.{no_digit, one_digit, digits_end}
use Rattle.octets.proofs.decimals.all_digits.Goals as goal

pub returns-then-not-is_ascii_digit : goal.returns-then-not-is_ascii_digit
unfolding is_digit
returns-then-not-is_ascii_digit c =
    sym (c.loop-c.invariant ∙ no_digit _ _ c.loop-c-test.true (sym c.is_ascii_digit.ensures.value ∙ c.if-not-is_ascii_digit.true))

pub loop-c-preserved : goal.loop-c-preserved
unfolding is_digit
loop-c-preserved c =
    c.loop-c.invariant ∙ one_digit _ _ c.loop-c-test.true (sym c.is_ascii_digit.ensures.value ∙ c.if-not-is_ascii_digit.false)

pub returns : goal.returns
returns c = sym (c.loop-c.invariant ∙ digits_end _ _ c.loop-c-test.false)
