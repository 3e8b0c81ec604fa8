-- The answer's table takes the copy's place and its change is entered; with eight changes it is that of a full transaction.
use Rattle.std.specs.Prelude.{Ok, Err}
use mathlib.Core.Path.{ap, subst, ◌∙◌}
use Rattle.std.proofs.lemmas.Result.{err_from_is_err_and}
use Prim.Native.Nat.{ℕ, ◌≤◌, ◌<◌}
use Rattle.rules.specs.Size.{most_changes}
use Rattle.rules.specs.Path.{names_in}
use Rattle.rules.specs.Answer.{answer}
use Rattle.handlers.proofs.AskingLaws.{copy-part, full-handled, changing, nothing_handled, change-handled}
use Rattle.payload.specs.Meaning.{ask_meant}
use Rattle.handlers.proofs.Answers.{ready, refused-still, nothing-still, wrote_makes, removed_makes, given_told, refused_told}
use Rattle.handlers.proofs.asking.in_transaction.Goals as goal

pub in_full_transaction-requires : goal.in_full_transaction-requires
in_full_transaction-requires c =
    let args = c.args in
    let pre = c.requires in
    (rw (copy-part args.copies.now args.k) pre.0.sound, pre.1, pre.0.long)

pub returns-then-changes-ge-MOST_CHANGES : goal.returns-then-changes-ge-MOST_CHANGES
returns-then-changes-ge-MOST_CHANGES c =
    let args = c.args in
    let pre = c.requires in
    let many = subst (λ (n : ℕ). most_changes ≤ n) c.changes.ensures.0 c.if-changes-ge-MOST_CHANGES.true in
    let told = c.in_full_transaction.ensures in
    λ w l events. full-handled _ _ _ _ pre.0 w l.copies l.transactions
    (answer args.domain (ask_meant args.s.now args.ask) (names_in args.path.now)) many events _ _ told.0 told.1

pub answer-requires : goal.answer-requires
answer-requires c =
    let args = c.args in
    let pre = c.requires in
    ready pre.1 _ (rw (copy-part args.copies.now args.k) pre.0.sound) _ pre.0.long

pub enter_change-requires : goal.enter_change-requires
enter_change-requires c =
    let few = subst (λ (n : ℕ). n < most_changes) c.changes.ensures.0 c.if-changes-ge-MOST_CHANGES.false in
    changing c.requires.1 _ _ _ _ c.requires.0 _ _ _ _ (copy-part c.args.copies.now c.args.k) c.answer.ensures few
    _ _ (wrote_makes _ _ _ c.in_ok-given.was _ c.in-Wrote.is)

pub enter_change-requires-in-Removed : goal.enter_change-requires-in-Removed
enter_change-requires-in-Removed c =
    let few = subst (λ (n : ℕ). n < most_changes) c.changes.ensures.0 c.if-changes-ge-MOST_CHANGES.false in
    changing c.requires.1 _ _ _ _ c.requires.0 _ _ _ _ (copy-part c.args.copies.now c.args.k) c.answer.ensures few
    _ _ (removed_makes _ _ _ c.in_ok-given.was c.in-Removed.is)

pub returns-in_err-given : goal.returns-in_err-given
returns-in_err-given c =
    let args = c.args in
    let pre = c.requires in
    let failed = err_from_is_err_and c.from_residual.result c.from_residual.ensures.1 in
    λ w l events. nothing_handled pre.1 _ _ _ _ pre.0 _ _ _ _ (copy-part args.copies.now args.k) c.answer.ensures
    w l.copies l.transactions events _ (refused-still _ _ _ c.in_err-given.was)
    (refused_told _ _ _ c.in_err-given.was (failed.1 ∙ ap Err failed.2))

pub returns-in-Nothing : goal.returns-in-Nothing
returns-in-Nothing c =
    let args = c.args in
    let pre = c.requires in
    λ w l events. nothing_handled pre.1 _ _ _ _ pre.0 _ _ _ _ (copy-part args.copies.now args.k) c.answer.ensures
    w l.copies l.transactions events _ (nothing-still _ _ _ c.in_ok-given.was c.in-Nothing.is)
    (given_told _ _ _ _ c.in_ok-given.was (ap Ok c.with_events.ensures))

pub returns-in-Wrote : goal.returns-in-Wrote
returns-in-Wrote c =
    let entered = c.enter_change.ensures in
    let few = subst (λ (n : ℕ). n < most_changes) c.changes.ensures.0 c.if-changes-ge-MOST_CHANGES.false in
    λ w l events. change-handled c.requires.1 _ _ _ _ c.requires.0 _ _ _ _ (copy-part c.args.copies.now c.args.k)
    c.answer.ensures w l.copies l.transactions events _ _ _
    (wrote_makes _ _ _ c.in_ok-given.was _ c.in-Wrote.is) few _ entered.0 (given_told _ _ _ _ c.in_ok-given.was (ap Ok entered.1))

pub returns-in-Removed : goal.returns-in-Removed
returns-in-Removed c =
    let entered = c.enter_change-in-Removed.ensures in
    let few = subst (λ (n : ℕ). n < most_changes) c.changes.ensures.0 c.if-changes-ge-MOST_CHANGES.false in
    λ w l events. change-handled c.requires.1 _ _ _ _ c.requires.0 _ _ _ _ (copy-part c.args.copies.now c.args.k)
    c.answer.ensures w l.copies l.transactions events _ _ _
    (removed_makes _ _ _ c.in_ok-given.was c.in-Removed.is) few _ entered.0 (given_told _ _ _ _ c.in_ok-given.was (ap Ok entered.1))
