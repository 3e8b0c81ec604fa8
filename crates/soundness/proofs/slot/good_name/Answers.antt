-- The root has no name and zeros in its place; any other slot has a name, with zeros behind it.
use native.Mathlib.Omega.{arith}
use Rattle.soundness.proofs.SlotLaws.{sizes_of}
use Rattle.soundness.proofs.KeptNames.{other_kept, root-named, root_kept}
use Rattle.soundness.proofs.slot.good_name.Goals as goal

pub kept_name-requires : goal.kept_name-requires
kept_name-requires c =
    let p = c.requires in
    (omega (arith, (sizes_of _ _ p.1).name, c.name_length-n.ensures), omega (arith, p.0.below, p.0.whole))

pub returns-then-i-ne0 : goal.returns-then-i-ne0
returns-then-i-ne0 c =
    let p = c.requires in
    other_kept _ _ p.0.below p.0.used (sizes_of _ _ p.1).name c.name_length-n.ensures c.if-i-ne0.true
    c.kept_name.ensures

pub returns-then-n-ne0 : goal.returns-then-n-ne0
returns-then-n-ne0 c =
    let p = c.requires in
    root-named _ _ p.0.below p.0.used (sizes_of _ _ p.1).name c.name_length-n.ensures c.if-i-ne0.false c.if-n-ne0.true
    p.0.whole

pub returns : goal.returns
returns c =
    let p = c.requires in
    root_kept _ _ p.0.below p.0.used (sizes_of _ _ p.1).name c.name_length-n.ensures
    c.if-i-ne0.false c.if-n-ne0.false c.all_zero.ensures
