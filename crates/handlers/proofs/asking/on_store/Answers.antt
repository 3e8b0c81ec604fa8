-- The answer's table is left; who hears its change was asked before the answer and is asked after it, and the parents that it created were not there.
use mathlib.Core.Path.{ap, ◌∙◌}
use Rattle.std.proofs.lemmas.Result.{err_from_is_err_and}
use Rattle.std.specs.Prelude.{Ok, Err}
use Rattle.handlers.proofs.PlainLaws.{telling, nothing_done, change-done}
use Rattle.handlers.proofs.Answers.{ready, refused-still, nothing-still, wrote_makes, removed_makes, given_told, refused_told}
use Rattle.handlers.proofs.asking.on_store.Goals as goal

pub answer-requires : goal.answer-requires
answer-requires c =
    let pre = c.requires in
    ready pre.1 _ pre.0.sound _ pre.0.long

pub after_change-n-requires : goal.after_change-n-requires
after_change-n-requires c =
    let pre = c.requires in
    telling pre.1 _ _ _ _ _ pre.0 _ _ _ c.answer.ensures _ _ (wrote_makes _ _ _ c.in_ok-given.was _ c.in-Wrote.is)

pub after_change-n-requires-in-Removed : goal.after_change-n-requires-in-Removed
after_change-n-requires-in-Removed c =
    let pre = c.requires in
    telling pre.1 _ _ _ _ _ pre.0 _ _ _ c.answer.ensures _ _ (removed_makes _ _ _ c.in_ok-given.was c.in-Removed.is)

pub returns-in_err-given : goal.returns-in_err-given
returns-in_err-given c =
    let pre = c.requires in
    let failed = err_from_is_err_and c.from_residual.result c.from_residual.ensures.1 in
    λ w l events. nothing_done pre.1 _ _ _ _ _ pre.0 _ _ _ c.answer.ensures w l.nodes l.watches l.transactions _
    (refused-still _ _ _ c.in_err-given.was) (refused_told _ _ _ c.in_err-given.was (failed.1 ∙ ap Err failed.2))

pub returns-in-Nothing : goal.returns-in-Nothing
returns-in-Nothing c =
    let pre = c.requires in
    λ w l events. nothing_done pre.1 _ _ _ _ _ pre.0 _ _ _ c.answer.ensures w l.nodes l.watches l.transactions _
    (nothing-still _ _ _ c.in_ok-given.was c.in-Nothing.is) (given_told _ _ _ _ c.in_ok-given.was (ap Ok c.with_events.ensures))

pub returns-in-Wrote : goal.returns-in-Wrote
returns-in-Wrote c =
    let pre = c.requires in
    λ w l events. change-done pre.1 _ _ _ _ _ pre.0 _ _ _ c.answer.ensures w l.nodes l.watches l.transactions _
    _ c.in_ok-given.was _ c.hearing-heard.ensures _ _
    (wrote_makes _ _ _ c.in_ok-given.was _ c.in-Wrote.is) _ _ _
    c.after_change-n.ensures (ap Ok c.with_events-in-Wrote.ensures)

pub returns-in-Removed : goal.returns-in-Removed
returns-in-Removed c =
    let pre = c.requires in
    λ w l events. change-done pre.1 _ _ _ _ _ pre.0 _ _ _ c.answer.ensures w l.nodes l.watches l.transactions _
    _ c.in_ok-given.was _ c.hearing-heard.ensures _ _
    (removed_makes _ _ _ c.in_ok-given.was c.in-Removed.is) _ _ _
    c.after_change-n-in-Removed.ensures (ap Ok c.with_events-in-Removed.ensures)
