-- The text that was put is the path of the slot, so the event that is recorded is the removal of its node.
use mathlib.Core.Path.{ap, ◌∙◌}
use Rattle.rules.specs.Size.{longest_path}
use Rattle.rules.specs.Path.{is_full}
use Rattle.events.proofs.RecordLaws.{recorded_as}
use Rattle.events.proofs.ChangeLaws.{removal-given}
use Rattle.events.proofs.SlotPaths.{slot-within, slot-full}
use Rattle.events.proofs.Fronts.{front_is, front_within, front_long, front_short}
use Rattle.events.proofs.changes.removal.Goals as goal

pub slice_bounds-text-end : goal.slice_bounds-text-end
slice_bounds-text-end c =
    front_within 0 _ _ _ _ c.path_of-end.ensures (slot-within _ _ c.requires.1)

pub slice_bounds-event-end : goal.slice_bounds-event-end
slice_bounds-event-end c =
    front_long 0 _ _ _ _ c.path_of-end.ensures (slot-within _ _ c.requires.1)

pub event-requires : goal.event-requires
event-requires c =
    let put = c.path_of-end.ensures in
    let within = slot-within _ _ c.requires.1 in
    let full = ap is_full (front_is 0 _ _ _ _ put within) ∙ slot-full _ _ c.requires.1 in
    (c.requires.0, full, front_short 0 _ _ _ _ put within longest_path within, c.requires.2)

pub returns : goal.returns
returns c =
    let text = front_is 0 _ _ _ _ c.path_of-end.ensures (slot-within _ _ c.requires.1) in
    recorded_as _ _ (removal-given _ _ _ _ _ c.requires.1 _ text) c.event.ensures
