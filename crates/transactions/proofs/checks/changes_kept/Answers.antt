-- The changes are their bytes one after the other, so these are those of what they mean where each change's are.
use mathlib.Core.Path.{refl, sym, ap, ◌∙◌}
use Prim.Native.Nat.{◌+◌, ◌*◌}
use native.Mathlib.Omega.{arith}
use lib.ListN.{take, drop}
use Rattle.std.proofs.Common.{rules, tests}
use Rattle.std.proofs.lemmas.Iterator.{YieldsList-from_range}
use Rattle.std.proofs.lemmas.Iterator.Search.{all_from_yields_List}
use Rattle.rules.specs.Size.{change_size}
use Rattle.rules.specs.Layout.{change_bytes, change_in}
use Rattle.domains.proofs.Rows.{part_length, rows_all}
use Rattle.transactions.specs.Checks.{change_kept, changes_kept}
use Rattle.transactions.proofs.ChangesKept.{change-long, change_row}
use Rattle.transactions.proofs.checks.changes_kept.Goals as goal

pub returns : goal.returns
unfolding changes_kept change_kept
returns c =
    let s = c.args.s.now in
    let at = c.args.at in
    let n = c.args.n in
    all_from_yields_List (λ j. change_kept (take change_size (drop (at + j * change_size) s))) _ _ c.all.result c.all.ensures.ran
    (YieldsList-from_range 0 n n refl (omega arith)) (λ x b q k. search (rules, tests))
    ∙ rows_all change_bytes change_in change_size change-long n _ (part_length s at (n * change_size) c.requires.1) _
    (λ j h. ap change_kept (sym (change_row s at n j h)))
