-- Each byte is held against its own last; those gathered so far, and those to come, decide.
use mathlib.Core.Logic.{⊎_elim, inl, inr}
use Rattle.soundness.proofs.KeptNames.{letters_turn, letters_end}
use Rattle.soundness.proofs.slot.small_letters.Goals as goal

pub loop-b-preserved : goal.loop-b-preserved
loop-b-preserved c = letters_turn c.loop-b.all c.in-Some.ensures.steps.0 c.in-Some.ensures.steps.1 c.loop-b.invariant

pub returns : goal.returns
returns c =
    letters_end _ _ c.loop-b.all (⊎_elim (λ x. inl x.1.0) (λ x. inr x.1.0) c.in-None.ensures.steps) c.loop-b.invariant
