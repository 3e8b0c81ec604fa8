-- What the checks ask of one copy, and what they tell in the rule book's terms.
use Rattle.std.specs.Prelude.{Result, Ok, Err, ⊤, Bool, true}
use Rattle.std.proofs.Math.Option.{Option, none, some}
use Rattle.rules.specs.Octets.{Octets}
use Rattle.rules.specs.Layout.{Transaction}
use Rattle.rules.specs.Sound.{sound_table}
use Rattle.rules.specs.Call.{Verdict, handled, wrong_size, unsound, stranger, broken, overlong, no_event}
use Rattle.haabuvilk.specs.declared.refusal.Refusal.{Refusal}
use Rattle.haabuvilk.specs.declared.refusal.Refusal.TheVariants.{WrongSize, Unsound, Stranger, Broken, Overlong, NoEvent}

-- "a closed transaction's copy may hold anything"
unfoldable pub sound_copy : Option Transaction → Octets → Bool
sound_copy none copy = true
sound_copy (some x) copy = sound_table copy

abbrev pub refusal_meant : Refusal → Verdict
refusal_meant WrongSize = wrong_size
refusal_meant Unsound = unsound
refusal_meant Stranger = stranger
refusal_meant Broken = broken
refusal_meant Overlong = overlong
refusal_meant NoEvent = no_event

-- whether a message is to be handled
abbrev pub Checked : Type 0
Checked = Result ⊤ Refusal

abbrev pub verdict_meant : Checked → Verdict
verdict_meant (Ok x) = handled
verdict_meant (Err e) = refusal_meant e
