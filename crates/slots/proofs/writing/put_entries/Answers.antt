-- The entries and the fields with their count are written, and the name and the value stay, so the slot means the node with other entries.
use native.Mathlib.Omega.{arith}
use Rattle.slots.proofs.Numbers.{owner-fits, others_fit, others_many}
use Rattle.slots.proofs.Put.{name_small, value_small, entries_put}
use Rattle.slots.proofs.writing.put_entries.Goals as goal

pub put_fields-requires : goal.put_fields-requires
put_fields-requires c =
    let args = c.args in
    let few = c.requires.3.few in
    (omega arith, omega arith, omega (arith, name_small args.t.now args.i), omega (arith, value_small args.t.now args.i), omega arith)

pub returns : goal.returns
returns c =
    let g = c.requires.3 in
    let many = others_many _ _ _ g in
    let one = g.least in
    let few = g.few in
    entries_put _ c.requires.1 c.args.i c.requires.0 c.requires.2 _ _ (owner-fits _ _ _ g) (others_fit _ _ _ g) (omega arith) _ _ _ _
    c.parent-above.ensures.1 c.name_length-name.ensures
    c.value_length-value.ensures (omega arith) c.put_given.ensures c.put_fields.ensures
