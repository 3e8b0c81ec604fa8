-- After k turns the first k names with their nuls stand one behind the other, and the rest of the list has the room that is left.
use mathlib.Core.Path.{◌≡◌, sym, ap, ◌∙◌}
use mathlib.Core.List.{List, ◌++◌, flat_map}
use Prim.Native.Nat.{ℕ, ◌+◌, ◌≤◌}
use native.Mathlib.Omega.{arith}
use native.Mathlib.Nat.{add-zero}
use lib.ListN.{length, get_or, take, set, length-append}
use lib.Seq.{take_all}
use Rattle.rules.specs.Octets.{Octets, nul, paste}
use Rattle.rules.specs.Node.{node_at}
use Rattle.rules.specs.Answer.{name_list}
use Rattle.rules.specs.Layout.{table_of}
use Rattle.rules.proofs.Paste.{paste_nil, length-paste}
use Rattle.octets.specs.Numbers.{Put}
use Rattle.lookup.proofs.ChildrenLaws.{asked_at, has-name}
use Rattle.lookup.proofs.ListingLaws.{names_next, room_for, same-room, nul-behind}
use Rattle.lookup.proofs.listing.put_names.Goals as goal
use Rattle.lookup.proofs.listing.put_names.Goals.{In-loop-i, After-loop-i}

pub loop-i-init : goal.loop-i-init
unfolding name_list flat_map
loop-i-init c = (sym (paste_nil c.args.at c.args.into.now), sym (add-zero c.args.at))

pub name-text-requires : goal.name-text-requires
name-text-requires c = has-name _ _ (asked_at c.args.t.now (take c.args.n c.args.list.now) c.loop-i.i-index c.requires.1 c.loop-i-test.true)

-- the names before the one in turn, and that one
written : (c : In-loop-i) → Octets
written c = name_list (table_of c.args.t.now) (take c.loop-i.i-index (take c.args.n c.args.list.now))

next : (c : In-loop-i) → Octets
next c = (node_at (table_of c.args.t.now) (get_or (take c.args.n c.args.list.now) c.loop-i.i-index 0)).name

room : (c : In-loop-i) → c.args.at + (length (written c) + (length (next c) + 1)) ≤ length c.args.into.now
unfolding written next
room c =
    room_for (table_of c.args.t.now) (take c.args.n c.args.list.now) c.loop-i.i-index c.loop-i-test.true c.args.at (length c.args.into.now) c.requires.2

same : (c : In-loop-i) → length c.loop-i.into ≡ length c.args.into.now
unfolding written
same c = same-room c.args.at (written c) c.args.into.now c.loop-i.into c.loop-i.to c.loop-i.invariant.0 c.loop-i.invariant.1 (next c) (room c)

enough : (c : In-loop-i) → c.loop-i.to + length (next c) + 1 ≤ length c.loop-i.into
unfolding written
enough c = omega (arith, room c, same c)

pub copy-requires : goal.copy-requires
unfolding next
copy-requires c = omega (arith, enough (goal.at.copy-requires c).In-loop-i, ap length c.name-text.ensures)

pub overflow_add-to : goal.overflow_add-to
unfolding next
overflow_add-to c = omega (arith, enough (goal.at.overflow_add-to c).In-loop-i, ap length c.name-text.ensures)

pub bounds-into-to : goal.bounds-into-to
unfolding next
bounds-into-to c = omega (arith, enough (goal.at.bounds-into-to c).In-loop-i, ap length c.name-text.ensures)

pub overflow_add-to-in-loop-i : goal.overflow_add-to-in-loop-i
unfolding next
overflow_add-to-in-loop-i c = omega (arith, enough (goal.at.overflow_add-to-in-loop-i c).In-loop-i, ap length c.name-text.ensures)

pub loop-i-preserved : goal.loop-i-preserved
unfolding written next
loop-i-preserved c =
    let turn = (goal.at.loop-i-preserved c).In-loop-i in
    let loop = c.loop-i in
    let before = c.args.into.now in
    let copied : c.copy.new.into ≡ paste loop.to (next turn) loop.into = c.copy.ensures
    ∙ ap (λ (l : Octets). paste loop.to l loop.into) c.name-text.ensures in
    let e = names_next (table_of c.args.t.now) (take c.args.n c.args.list.now) loop.i-index c.loop-i-test.true in (
      ap (λ (i : ℕ). set c.copy.new.into (loop.to + i) 0) (ap length c.name-text.ensures)
          ∙ nul-behind c.args.at (written turn) before loop.into loop.to loop.invariant.0 loop.invariant.1 (next turn) (room turn) c.copy.new.into copied
          ∙ ap (λ (l : Octets). paste c.args.at l before) (sym e),
      omega (arith, ap length e, length-append (written turn) (next turn ++ nul), length-append (next turn) nul, ap length c.name-text.ensures),
    )

all : (c : After-loop-i) → Put c.args.at (name_list (table_of c.args.t.now) (take c.args.n c.args.list.now)) c.args.into.now c.loop-i.into c.loop-i.to
all c =
    let args = c.args in
    let ns = name_list (table_of args.t.now) in
    let e = take_all c.loop-i.i-index (take args.n args.list.now) c.loop-i-test.false in
    record {
      bytes = c.loop-i.invariant.0 ∙ ap (λ (is : List ℕ). paste args.at (ns is) args.into.now) e;
      behind = c.loop-i.invariant.1 ∙ ap (λ (is : List ℕ). args.at + length (ns is)) e;
    }

pub shape_of-into : goal.shape_of-into
shape_of-into c = ap length (all (goal.at.shape_of-into c).After-loop-i).bytes ∙ length-paste c.args.at _ c.args.into.now c.requires.2

pub returns : goal.returns
returns c = all (goal.at.returns c).After-loop-i
