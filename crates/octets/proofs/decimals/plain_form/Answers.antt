-- A text that begins with 0 is plain if it is that digit alone; any other if it is digits.
use mathlib.Core.Path.{sym, ◌∙◌}
use native.Mathlib.Omega.{arith}
use Rattle.rules.proofs.Decimals.{plain_empty, plain-zero, plain_other}
use Rattle.octets.proofs.decimals.plain_form.Goals as goal

pub returns-then-len-eq0 : goal.returns-then-len-eq0
returns-then-len-eq0 c = sym (plain_empty _ c.if-len-eq0.true)

pub returns-then-s-eq48 : goal.returns-then-s-eq48
returns-then-s-eq48 c = sym (plain-zero c.args.s.now (omega arith) c.if-s-eq48.true)

pub returns : goal.returns
returns c = c.all_digits.ensures ∙ sym (plain_other c.args.s.now (omega arith) c.if-s-eq48.false)
