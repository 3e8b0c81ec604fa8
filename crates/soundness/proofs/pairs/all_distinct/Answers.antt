-- Of two siblings with one name the later finds the earlier's key among those met, so no pair that is passed over has one name.
use Rattle.slots.specs.Slot.{slot_at}
use Rattle.soundness.proofs.KeyLaws.{key_used}
use mathlib.Core.Path.{sym, ◌∙◌}
use native.Mathlib.Omega.{arith}
use Rattle.soundness.proofs.PairLaws.{row_whole, taken_next, met_key, keyed_next, apart_next, row_differ, row_names}
use Rattle.soundness.proofs.PairLaws.{row_new, all_apart, pair_found}
use Rattle.soundness.proofs.pairs.all_distinct.Goals as goal
use Rattle.soundness.proofs.pairs.all_distinct.Goals.{then-keys-j+else-same_names, else-keys-j, then-may_clash+else-loop-j-test, else-may_clash}

pub same_names-requires : goal.same_names-requires
same_names-requires c =
    let t = c.args.t.now in
    let z = met_key _ _ _ c.key_of-key.result (sym c.may_clash.ensures ∙ c.if-may_clash.true) in (
      omega arith,
      c.pairs-test.true,
      c.requires,
      key_used (slot_at t c.loop-j.j) c.key_of-key.result
          (sym c.if-keys-j.true ∙ c.pairs.invariant.1.each c.loop-j.j c.loop-j-test.true) z,
      key_used (slot_at t c.pairs.i) c.key_of-key.result c.key_of-key.ensures z,
    )

pub loop-j-preserved : goal.loop-j-preserved
loop-j-preserved c =
    let loop = c.loop-j in
    let t = c.args.t.now in (
      loop.invariant.0,
      elim c.if-keys-j.branch [
        | then-keys-j+else-same_names w ↦ row_names t c.pairs.i loop.j (sym w.same_names.ensures ∙ w.if-same_names.false) loop.invariant.1
        | else-keys-j w ↦ row_differ t c.pairs.keys c.pairs.i loop.j c.key_of-key.result c.pairs.invariant.1
            c.key_of-key.ensures c.loop-j-test.true w.if-keys-j.false loop.invariant.1
      ],
    )

pub pairs-preserved : goal.pairs-preserved
pairs-preserved c =
    let t = c.args.t.now in (
      elim c.if-may_clash.branch [
        | then-may_clash+else-loop-j-test w ↦ w.apart-is ∙ w.loop-j.invariant.0
        | else-may_clash w ↦ w.apart-is ∙ c.pairs.invariant.0
      ],
      keyed_next t c.pairs.keys c.pairs.i c.key_of-key.result c.pairs-test.true c.key_of-key.ensures
          c.pairs.invariant.1,
      apart_next t c.pairs.i c.pairs.invariant.2 (elim c.if-may_clash.branch [
        | then-may_clash+else-loop-j-test w ↦ row_whole t c.pairs.i w.loop-j.j w.loop-j.auto.j-end w.loop-j-test.false w.loop-j.invariant.1
        | else-may_clash w ↦ row_new t c.pairs.taken c.pairs.keys c.pairs.i c.key_of-key.result c.place_of-place.result
            c.pairs-test.true c.pairs.invariant.1 c.pairs.invariant.3 c.key_of-key.ensures c.place_of-place.ensures.0
            (sym c.may_clash.ensures ∙ w.if-may_clash.false)
      ]),
      taken_next t c.pairs.taken c.pairs.i c.key_of-key.result c.place_of-place.result c.key_of-key.ensures
          c.place_of-place.ensures.0 c.place_of-place.ensures.1 c.pairs.invariant.3,
    )

pub returns-after-pairs : goal.returns-after-pairs
returns-after-pairs c = c.pairs.invariant.0 ∙ all_apart _ c.pairs.i c.pairs-test.false c.pairs.invariant.2

pub returns-then-same_names : goal.returns-then-same_names
returns-then-same_names c =
    pair_found c.args.t.now c.pairs.keys c.pairs.i c.loop-j.j c.key_of-key.result c.pairs.invariant.1
    c.key_of-key.ensures (met_key _ _ _ c.key_of-key.result (sym c.may_clash.ensures ∙ c.if-may_clash.true))
    c.loop-j-test.true c.if-keys-j.true (sym c.same_names.ensures ∙ c.if-same_names.true)
