-- The request is answered on a table of its own, so the copy stays; a change there would be the ninth.
use Rattle.std.specs.Prelude.{Ok, Err}
use mathlib.Core.Path.{refl, ap, ◌∙◌}
use Rattle.std.proofs.lemmas.Result.{err_from_is_err_and}
use native.Mathlib.Omega.{arith}
use Rattle.rules.proofs.Paste.{paste-whole}
use Rattle.slots.proofs.Canonical.{sound_canonical}
use Rattle.handlers.proofs.AskingLaws.{eight_still, eight_refused}
use Rattle.payload.specs.Meaning.{ask_meant}
use Rattle.handlers.proofs.Answers.{ready, refused-still, nothing-still, wrote_makes, removed_makes, given_told, refused_told}
use Rattle.handlers.proofs.asking.in_full_transaction.Goals as goal

pub copy-requires : goal.copy-requires
copy-requires c =
    let pre = c.requires in
    omega (arith, (sound_canonical _ pre.0).whole)

pub answer-requires : goal.answer-requires
answer-requires c =
    let pre = c.requires in
    let same = c.copy.ensures ∙ paste-whole _ _ (sound_canonical _ pre.0).whole in
    ready pre.1 _ (rw same pre.0) _ pre.2

pub returns-in_err-given : goal.returns-in_err-given
returns-in_err-given c =
    let args = c.args in
    let pre = c.requires in
    let same = c.copy.ensures ∙ paste-whole _ _ (sound_canonical args.copied.now pre.0).whole in
    let failed = err_from_is_err_and c.from_residual.result c.from_residual.ensures.1 in
    eight_still args.domain (ask_meant args.s.now args.ask) args.path.now args.copied.now _ _ _ _ same _
    c.answer.ensures _ (refused-still _ _ _ c.in_err-given.was) (refused_told _ _ _ c.in_err-given.was (failed.1 ∙ ap Err failed.2))

pub returns-in-Nothing : goal.returns-in-Nothing
returns-in-Nothing c =
    let args = c.args in
    let pre = c.requires in
    let same = c.copy.ensures ∙ paste-whole _ _ (sound_canonical args.copied.now pre.0).whole in
    eight_still args.domain (ask_meant args.s.now args.ask) args.path.now args.copied.now _ _ _ _ same _
    c.answer.ensures _ (nothing-still _ _ _ c.in_ok-given.was c.in-Nothing.is)
    (given_told _ _ _ _ c.in_ok-given.was (ap Ok c.with_events.ensures))

pub returns-in-Wrote : goal.returns-in-Wrote
returns-in-Wrote c =
    let args = c.args in
    let pre = c.requires in
    let same = c.copy.ensures ∙ paste-whole _ _ (sound_canonical args.copied.now pre.0).whole in
    eight_refused args.domain (ask_meant args.s.now args.ask) args.path.now args.copied.now _ _ _ _ same _
    c.answer.ensures _ pre.2 _ _
    (wrote_makes _ _ _ c.in_ok-given.was _ c.in-Wrote.is) refl

pub returns-in-Removed : goal.returns-in-Removed
returns-in-Removed c =
    let args = c.args in
    let pre = c.requires in
    let same = c.copy.ensures ∙ paste-whole _ _ (sound_canonical args.copied.now pre.0).whole in
    eight_refused args.domain (ask_meant args.s.now args.ask) args.path.now args.copied.now _ _ _ _ same _
    c.answer.ensures _ pre.2 _ _
    (removed_makes _ _ _ c.in_ok-given.was c.in-Removed.is) refl
