-- A used slot is good by its parts; a free one is zeros, and the root's is used.
use mathlib.Core.Path.{sym, ◌∙◌}
use Rattle.octets.proofs.Bytes.{bytes-known}
use Rattle.soundness.proofs.SlotLaws.{unused_root, unused_other}
use Rattle.soundness.proofs.slot.good_slot.Goals as goal

pub returns-then-i-eq0 : goal.returns-then-i-eq0
returns-then-i-eq0 c =
    let args = c.args in
    unused_root args.t.now (bytes-known args.t.now c.type_inv.t) c.requires.1 args.i c.requires.0
    (sym c.used.ensures ∙ c.if-used.false) c.if-i-eq0.true

pub returns : goal.returns
returns c =
    let args = c.args in
    unused_other args.t.now (bytes-known args.t.now c.type_inv.t) c.requires.1 args.i c.requires.0
    (sym c.used.ensures ∙ c.if-used.false) c.if-i-eq0.false c.all_zero.ensures
