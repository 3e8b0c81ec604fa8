-- The tests are those of the fields, in their order.
use mathlib.Core.Path.{sym, ◌∙◌}
use borrow.Author.Tests.{eq-eqb, ne_eqb, le-leb, lt-leb}
use Rattle.watches.specs.Checks.{fields_same}
use Rattle.watches.proofs.checks.fields_same.Goals as goal

pub returns-then-s-at-ne0 : goal.returns-then-s-at-ne0
unfolding fields_same
returns-then-s-at-ne0 c = sym (rw (ne_eqb _ _ c.if-s-at-ne0.true))

pub returns-then-s-at-ne0-2 : goal.returns-then-s-at-ne0-2
unfolding fields_same
returns-then-s-at-ne0-2 c = sym (rw (eq-eqb _ _ c.if-s-at-ne0.false, ne_eqb _ _ c.if-s-at-ne0-2.true))

pub returns-then-token_length-gt-LONGEST_TOKEN : goal.returns-then-token_length-gt-LONGEST_TOKEN
unfolding fields_same
returns-then-token_length-gt-LONGEST_TOKEN c =
    sym (rw (eq-eqb _ _ c.if-s-at-ne0.false, eq-eqb _ _ c.if-s-at-ne0-2.false, ← c.token_length.ensures, lt-leb _ _ c.if-token_length-gt-LONGEST_TOKEN.true))

pub returns : goal.returns
unfolding fields_same
returns c =
    let few = le-leb _ _ c.if-token_length-gt-LONGEST_TOKEN.false in
    c.depth_same.ensures
    ∙ sym (rw (eq-eqb _ _ c.if-s-at-ne0.false, eq-eqb _ _ c.if-s-at-ne0-2.false, ← c.token_length.ensures, few))
