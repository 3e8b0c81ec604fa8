-- The names passed lead from the root to the slot, so the names left lead on from there.
use mathlib.Core.Path.{◌≡◌, sym, ap, ◌∙◌}
use Prim.Native.Nat.{◌-◌}
use native.Mathlib.Omega.{arith}
use borrow.Author.Rules.{rules}
use mathlib.Core.Option.{some, none}
use mathlib.Core.List.{[]}
use lib.ListN.{take, drop}
use Rattle.rules.specs.Path.{Names, names_in}
use Rattle.rules.specs.Node.{child, Reached, reach, reach_from}
use Rattle.rules.specs.Layout.{table_of}
use Rattle.rules.proofs.PathLaws.{full}
use Rattle.paths.specs.Names.{name_end}
use Rattle.paths.proofs.PieceLaws.{end_low, end-high}
use Rattle.slots.proofs.Canonical.{root-used}
use Rattle.slots.proofs.LeftLaws.{left_over}
use Rattle.octets.specs.Options.{meant}
use Rattle.lookup.proofs.ReachLaws.{reach-end, left-whole, turned, stopped}
use Rattle.lookup.proofs.reach.reach.Goals as goal

pub loop-at-init : goal.loop-at-init
unfolding reach
loop-at-init c =
    let args = c.args in
    let p = args.path.now in
    let e = left-whole p c.requires.1 in (
      search rules,
      root-used args.t.now c.requires.0,
      rw (← e) (full p c.requires.1).names,
      ap (λ (ns : Names). reach_from ns (table_of args.t.now) 0) e,
    )

pub name_end-end-requires : goal.name_end-end-requires
name_end-end-requires c = omega arith

pub slice_bounds-child-count : goal.slice_bounds-child-count
slice_bounds-child-count c =
    let p = c.args.path.now in
    rw c.name_end-end.ensures (end_low p c.loop-at.at (omega arith))

pub slice_bounds-child-start : goal.slice_bounds-child-start
slice_bounds-child-start c = omega (arith, slice_bounds-child-count c)

pub slice_bounds-child-end : goal.slice_bounds-child-end
slice_bounds-child-end c =
    let p = c.args.path.now in
    omega (arith, end-high p c.loop-at.at (omega arith), c.name_end-end.ensures)

pub child-requires : goal.child-requires
child-requires c = c.requires.0

pub overflow_add-at : goal.overflow_add-at
overflow_add-at c =
    let p = c.args.path.now in
    omega (arith, end-high p c.loop-at.at (omega arith), c.name_end-end.ensures)

pub loop-at-smaller : goal.loop-at-smaller
loop-at-smaller c =
    let p = c.args.path.now in
    omega (arith, end_low p c.loop-at.at (omega arith), c.name_end-end.ensures)

pub loop-at-preserved : goal.loop-at-preserved
loop-at-preserved c =
    let args = c.args in
    let loop = c.loop-at in
    let p = args.path.now in
    let i = c.in-Some.i in
    let e : name_end p loop.at ≡ c.name_end-end.result = sym c.name_end-end.ensures in
    let f : child (table_of args.t.now) loop.slot (take (c.name_end-end.result - loop.at)
    (drop loop.at p)) ≡ some i = sym c.child.ensures ∙ ap meant c.in-Some.is in
    turned args.t.now p loop.slot loop.at (omega arith) loop.invariant.2 loop.invariant.3 c.name_end-end.result e i f

pub returns-in_default : goal.returns-in_default
returns-in_default c =
    let args = c.args in
    let loop = c.loop-at in
    let p = args.path.now in
    let e : name_end p loop.at ≡ c.name_end-end.result = sym c.name_end-end.ensures in
    let f : child (table_of args.t.now) loop.slot (take (c.name_end-end.result - loop.at) (drop loop.at p))
    ≡ none = sym c.child.ensures ∙ ap meant c.in_default.is in
    let r = stopped args.t.now p loop.slot loop.at (omega arith) loop.invariant.2 loop.invariant.3 c.name_end-end.result e f in
    record {
      below = loop.invariant.0;
      used = loop.invariant.1;
      there = ap (λ (x : Reached). x.slot) (sym r);
      left = ap (λ (x : Reached). x.left) (sym r);
    }

pub returns : goal.returns
returns c =
    let args = c.args in
    let loop = c.loop-at in
    let p = args.path.now in
    let l = left_over p loop.at (omega arith) in
    let r : reach (table_of args.t.now) (names_in p) ≡ record { slot = loop.slot; left = [] } = loop.invariant.3
    ∙ ap (λ (ns : Names). reach_from ns (table_of args.t.now) loop.slot) l ∙ reach-end (table_of args.t.now) loop.slot in
    record {
      below = loop.invariant.0;
      used = loop.invariant.1;
      there = ap (λ (x : Reached). x.slot) (sym r);
      left = l
          ∙ ap (λ (x : Reached). x.left) (sym r);
    }
