-- Good slots have names within the size, which the walks and the pairs need; the tests together are the rule book's.
use mathlib.Core.Path.{sym, ◌∙◌}
use Rattle.octets.proofs.Bytes.{bytes-known}
use Rattle.soundness.proofs.Tests.{stop, pass}
use Rattle.soundness.proofs.TableLaws.{sound-parts, good-short, root-used, wrong-length}
use Rattle.soundness.proofs.table.sound.Goals as goal

pub returns-then-t-ne-TABLE_SIZE : goal.returns-then-t-ne-TABLE_SIZE
returns-then-t-ne-TABLE_SIZE c = wrong-length _ c.if-t-ne-TABLE_SIZE.true

pub returns-then-not-all_good : goal.returns-then-not-all_good
returns-then-not-all_good c = stop _ (sym c.all_good.ensures ∙ c.if-not-all_good.true) ∙ sym (sound-parts _ c.if-t-ne-TABLE_SIZE.false)

pub all_chained-requires : goal.all_chained-requires
all_chained-requires c = good-short _ c.if-t-ne-TABLE_SIZE.false
    (bytes-known c.args.t.now c.type_inv.t)
    (sym c.all_good.ensures ∙ c.if-not-all_good.false)

pub returns-then-not-all_chained : goal.returns-then-not-all_chained
returns-then-not-all_chained c = pass (sym c.all_good.ensures ∙ c.if-not-all_good.false)
    (stop _ (sym c.all_chained.ensures ∙ c.if-not-all_chained.true)) ∙ sym (sound-parts _ c.if-t-ne-TABLE_SIZE.false)

pub good_root-requires : goal.good_root-requires
good_root-requires c =
    root-used _ c.if-t-ne-TABLE_SIZE.false (bytes-known c.args.t.now c.type_inv.t)
    (sym c.all_good.ensures ∙ c.if-not-all_good.false)

pub returns-then-not-good_root : goal.returns-then-not-good_root
returns-then-not-good_root c =
    pass (sym c.all_good.ensures ∙ c.if-not-all_good.false)
    (pass (sym c.all_chained.ensures ∙ c.if-not-all_chained.false)
    (stop _ (sym c.good_root.ensures ∙ c.if-not-good_root.true)))
    ∙ sym (sound-parts _ c.if-t-ne-TABLE_SIZE.false)

pub all_distinct-requires : goal.all_distinct-requires
all_distinct-requires c =
    good-short _ c.if-t-ne-TABLE_SIZE.false (bytes-known c.args.t.now c.type_inv.t)
    (sym c.all_good.ensures ∙ c.if-not-all_good.false)

pub returns : goal.returns
returns c =
    pass (sym c.all_good.ensures
    ∙ c.if-not-all_good.false) (pass (sym c.all_chained.ensures ∙ c.if-not-all_chained.false)
    (pass (sym c.good_root.ensures ∙ c.if-not-good_root.false) c.all_distinct.ensures))
    ∙ sym (sound-parts _ c.if-t-ne-TABLE_SIZE.false)
