-- The value, the path and the free slots are tested in turn.
use mathlib.Core.Path.{sym, ◌∙◌}
use Rattle.slots.proofs.Canonical.{sound_canonical}
use Rattle.nodes.proofs.RoomLaws.{value-long, path_unfit, slots_decide}
use Rattle.nodes.proofs.changing.has_room.Goals as goal

pub returns-then-value-gt-LONGEST_VALUE : goal.returns-then-value-gt-LONGEST_VALUE
returns-then-value-gt-LONGEST_VALUE c = λ d names l. value-long d _ _ _ _ c.if-value-gt-LONGEST_VALUE.true

pub returns-then-not-fits : goal.returns-then-not-fits
returns-then-not-fits c = λ d names l. path_unfit d _ _ _ _ c.if-value-gt-LONGEST_VALUE.false (sym c.fits.ensures ∙ c.if-not-fits.true)

pub free_count-requires : goal.free_count-requires
free_count-requires c =
    (sound_canonical _ c.requires.sound).whole

pub returns : goal.returns
returns c =
    λ d names l.
    slots_decide d _ _ _ _ c.if-value-gt-LONGEST_VALUE.false (sym c.fits.ensures ∙ c.if-not-fits.false) _ _
    l c.free_count.ensures
