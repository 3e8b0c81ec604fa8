-- The value and the fields with its length are written, and the name and the entries stay, so the slot means the node with another value.
use native.Mathlib.Omega.{arith}
use Rattle.slots.proofs.Put.{name_small, count_small, value_put}
use Rattle.slots.proofs.writing.put_value.Goals as goal

pub put_fields-requires : goal.put_fields-requires
put_fields-requires c =
    let args = c.args in
    (omega arith, omega arith, omega (arith, name_small args.t.now args.i), omega arith, omega (arith, count_small args.t.now args.i))

pub returns : goal.returns
returns c =
    value_put _ c.requires.1 c.args.i c.requires.0 c.requires.2 _ c.requires.3 _ _ _ c.parent-above.ensures.1
    c.name_length-name.ensures c.entry_count-entries.ensures c.put_text.ensures
    c.put_fields.ensures
