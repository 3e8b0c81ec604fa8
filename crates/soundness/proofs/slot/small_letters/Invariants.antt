-- Each byte is held against its own last; those gathered so far, and those to come, decide.
use mathlib.Core.Path.{◌≡◌}
use mathlib.Core.Bool.{◌&&◌}
use Rattle.soundness.specs.Parts.{small_letters}
use Rattle.soundness.proofs.slot.small_letters.Given as goal

abbrev pub invariant-loop-b : goal.invariant-loop-b
invariant-loop-b l = small_letters l.s l.last ≡ l.all && small_letters l.b-iterator.a.rest.now l.b-iterator.b.rest.now
