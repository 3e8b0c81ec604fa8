-- Each refusal has document 01's number.
use mathlib.Core.Path.{refl}
use Rattle.rules.specs.Call.{call_number}
use Rattle.haabuvilk.proofs.refusal.Refusal.number.Goals as goal

pub returns-in-WrongSize : goal.returns-in-WrongSize
unfolding call_number
returns-in-WrongSize c = rw c.in-WrongSize.is refl

pub returns-in-Unsound : goal.returns-in-Unsound
unfolding call_number
returns-in-Unsound c = rw c.in-Unsound.is refl

pub returns-in-Stranger : goal.returns-in-Stranger
unfolding call_number
returns-in-Stranger c = rw c.in-Stranger.is refl

pub returns-in-Broken : goal.returns-in-Broken
unfolding call_number
returns-in-Broken c = rw c.in-Broken.is refl

pub returns-in-Overlong : goal.returns-in-Overlong
unfolding call_number
returns-in-Overlong c = rw c.in-Overlong.is refl

pub returns-in-NoEvent : goal.returns-in-NoEvent
unfolding call_number
returns-in-NoEvent c = rw c.in-NoEvent.is refl
