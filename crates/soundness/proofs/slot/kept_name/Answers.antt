-- The name and what stands behind it are the whole field; one in its first half is `short_name`'s.
use mathlib.Core.Path.{sym, ◌∙◌}
use Rattle.soundness.proofs.KeptNames.{long_fault, long-name}
use Rattle.soundness.proofs.slot.kept_name.Goals as goal

pub returns-then-not-all_zero : goal.returns-then-not-all_zero
returns-then-not-all_zero c =
    long_fault _ _ _ c.requires.0 (sym c.all_zero.ensures ∙ c.if-not-all_zero.true)

pub returns : goal.returns
returns c =
    let args = c.args in
    long-name args.t.now args.at args.n c.requires.0 (sym c.all_zero.ensures ∙ c.if-not-all_zero.false) c.is_name.ensures
