-- The first four are kept; every other is only counted.
use mathlib.Core.Path.{sym}
use Rattle.payload.proofs.EntryLaws.{with_kept, with_more}
use Rattle.payload.proofs.answer.Entries.with.Goals as goal
use Rattle.payload.proofs.answer.Entries.with.Goals.{then-self-lt-MOST_ENTRIES, else-self-lt-MOST_ENTRIES}

pub returns : goal.returns
returns c =
    elim c.if-self-lt-MOST_ENTRIES.branch [
      | then-self-lt-MOST_ENTRIES w ↦ rw w.next-is (sym (with_kept _ _ w.if-self-lt-MOST_ENTRIES.true))
      | else-self-lt-MOST_ENTRIES w ↦ rw w.next-is (sym (with_more _ _ w.if-self-lt-MOST_ENTRIES.false))
    ]
