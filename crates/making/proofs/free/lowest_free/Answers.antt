-- A node is in a slot where the first bit of the slot is set.
use mathlib.Core.Path.{refl, ◌∙◌}
use lib.Dec.{lit≤}
use Rattle.rules.specs.Size.{slot_size, slots}
use Rattle.rules.specs.Layout.{table_of}
use Rattle.rules.proofs.Slots.{length-table_of}
use Rattle.octets.proofs.Bytes.{bytes-known}
use Rattle.octets.proofs.PlaceLaws.{lowest_is}
use Rattle.slots.specs.Slot.{is_used}
use Rattle.slots.proofs.Reading.{used_byte}
use Rattle.making.proofs.free.lowest_free.Goals as goal

pub returns-clause-found : goal.returns-clause-found
returns-clause-found c =
    let t = c.args.t.now in
    let bytes = bytes-known t c.type_inv.t in
    c.lowest_free.ensures.found
    ∙ lowest_is is_used refl (λ x. refl) slot_size (lit≤ tt) t (table_of t) slots (length-table_of t) (λ i h. used_byte t bytes c.requires i h)
