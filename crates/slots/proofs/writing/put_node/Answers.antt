-- Entries, name, value and fields are all the bytes of the slot, and they are those of the new node.
use native.Mathlib.Omega.{arith}
use Rattle.slots.proofs.Put.{count_small, new_put}
use Rattle.slots.proofs.writing.put_node.Goals as goal

pub put_fields-requires : goal.put_fields-requires
put_fields-requires c =
    let room = c.requires.4 in
    (omega arith, omega arith, omega arith, omega arith, omega (arith, count_small c.args.t.now c.args.parent))

pub returns : goal.returns
returns c =
    let args = c.args in
    let room = c.requires.4 in
    new_put _ c.requires.2 args.i c.requires.0 args.parent _ _ args.domain _ c.requires.1 c.requires.3 room.name room.value
    room.domain c.entry_count-entries.ensures c.put_heirs.ensures c.put_text.ensures
    c.put_text-2.ensures c.put_fields.ensures
