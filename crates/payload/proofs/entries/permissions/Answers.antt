-- The entries of the strings passed, and those of the strings to come, are the entries of all.
use mathlib.Core.Path.{sym, ◌∙◌}
use native.Mathlib.Omega.{arith}
use Rattle.payload.proofs.CursorLaws.{Told, string-told}
use Rattle.payload.proofs.EntryLaws.{with_count, entries_end, entries_left, entries_not, entries_more}
use Rattle.payload.proofs.entries.permissions.Goals as goal
use Rattle.payload.proofs.entries.permissions.Goals.{In-String}

pub returns-in-End : goal.returns-in-End
returns-in-End c =
    sym (c.loop-start.invariant.2 ∙ entries_end _ _ _ (sym c.next.ensures ∙ c.in-End.is))

pub returns-in-Left : goal.returns-in-Left
returns-in-Left c =
    sym (c.loop-start.invariant.2 ∙ entries_left _ _ _ (sym c.next.ensures ∙ c.in-Left.is))

told : (c : In-String) →
    Told c.args.s.now c.loop-start.cursor.at c.in-String.start
    c.in-String.end c.in-String.next
told c = string-told _ _ _ _ _ (sym c.next.ensures ∙ c.in-String.is)

pub slice_bounds-permission-count : goal.slice_bounds-permission-count
slice_bounds-permission-count c = let t = told (goal.at.slice_bounds-permission-count c).In-String in omega arith

pub slice_bounds-permission-start : goal.slice_bounds-permission-start
slice_bounds-permission-start c = let t = told (goal.at.slice_bounds-permission-start c).In-String in omega arith

pub slice_bounds-permission-end : goal.slice_bounds-permission-end
slice_bounds-permission-end c = let t = told (goal.at.slice_bounds-permission-end c).In-String in omega arith

pub returns-in_err-e-in-String : goal.returns-in_err-e-in-String
returns-in_err-e-in-String c =
    c.from_residual.ensures
    ∙ sym (c.loop-start.invariant.2
    ∙ entries_not _ _ _ _ _ _ (sym c.next.ensures ∙ c.in-String.is) c.in_err-e-in-String.ensures)

pub loop-start-smaller : goal.loop-start-smaller
loop-start-smaller c = let t = told (goal.at.loop-start-smaller c).In-String in omega arith

pub loop-start-preserved : goal.loop-start-preserved
loop-start-preserved c =
    let t = told (goal.at.loop-start-preserved c).In-String in
    let i = c.loop-start.invariant in
    let n = with_count _ _ _ c.with-entries.ensures in (
      omega arith,
      omega arith,
      i.2
          ∙ (entries_more _ _ _ _ _ _ (sym c.next.ensures ∙ c.in-String.is) _ c.in_ok-e-in-String.ensures
          ∙ rw c.with-entries.ensures),
    )
