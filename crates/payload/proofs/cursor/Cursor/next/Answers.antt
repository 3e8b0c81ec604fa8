-- There is no nul from the cursor to i, so the string ends at the first from i on, or there is none.
use mathlib.Core.Path.{refl, sym, ◌∙◌}
use borrow.Author.Tests.{lt-ltb, le-ltb}
use Rattle.payload.specs.Cursor.{taken_at}
use Rattle.payload.proofs.CursorLaws.{found_here, found_further, found_over}
use Rattle.payload.proofs.cursor.Cursor.next.Goals as goal

pub loop-i-init : goal.loop-i-init
unfolding taken_at
loop-i-init c = refl

pub returns-then-s-i-eq0 : goal.returns-then-s-i-eq0
returns-then-s-i-eq0 c = sym (c.loop-i.invariant ∙ found_here _ _ _ c.loop-i-test.true c.if-s-i-eq0.true)

pub loop-i-preserved : goal.loop-i-preserved
loop-i-preserved c = c.loop-i.invariant ∙ found_further _ _ _ c.loop-i-test.true c.if-s-i-eq0.false

pub returns-then-start-s : goal.returns-then-start-s
returns-then-start-s c = sym (c.loop-i.invariant ∙ (found_over _ _ _ c.loop-i-test.false ∙ rw (lt-ltb _ _ c.if-start-s.true)))

pub returns : goal.returns
returns c = sym (c.loop-i.invariant ∙ (found_over _ _ _ c.loop-i-test.false ∙ rw (le-ltb _ _ c.if-start-s.false)))
