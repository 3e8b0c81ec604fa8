-- The four accesses have a letter each.
use mathlib.Core.Path.{ap, sym}
use borrow.Author.Tests.{ne_eqb}
use Rattle.rules.specs.Payload.{access_letter}
use Rattle.payload.proofs.numbers.letter.Goals as goal

pub returns-in-110 : goal.returns-in-110
unfolding access_letter
returns-in-110 c = sym (ap access_letter c.in-110.is)

pub returns-in-114 : goal.returns-in-114
unfolding access_letter
returns-in-114 c = sym (ap access_letter c.in-114.is)

pub returns-in-119 : goal.returns-in-119
unfolding access_letter
returns-in-119 c = sym (ap access_letter c.in-119.is)

pub returns-in-98 : goal.returns-in-98
unfolding access_letter
returns-in-98 c = sym (ap access_letter c.in-98.is)

pub returns-in_default : goal.returns-in_default
unfolding access_letter
returns-in_default c =
    let r = c.in_default.in_default-own.rest in
    sym (rw (ne_eqb _ _ r.0.0.0.1, ne_eqb _ _ r.0.0.1, ne_eqb _ _ r.0.1, ne_eqb _ _ r.1))
