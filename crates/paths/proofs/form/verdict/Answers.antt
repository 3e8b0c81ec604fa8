-- A state tells what kind of text was read; its length, or the event's name, decides.
use mathlib.Core.Path.{sym, ◌∙◌}
use mathlib.Core.Logic.{inl, inr}
use native.Mathlib.Omega.{arith}
use Rattle.paths.proofs.VerdictLaws.{verdict_rest, absolute-within, absolute-beyond, relative-within, relative-beyond, marked-event, marked_other}
use Rattle.paths.proofs.form.verdict.Goals as goal

pub returns-in-1 : goal.returns-in-1
returns-in-1 c =
    absolute-within c.args.state c.args.s.now (omega arith) (omega arith) c.if-s-le-LONGEST_ABSOLUTE.true

pub returns-in-4 : goal.returns-in-4
returns-in-4 c = relative-within _ c.args.s.now c.in-4.is c.if-s-le-LONGEST_RELATIVE.true

pub returns-in-6 : goal.returns-in-6
returns-in-6 c = marked-event _ _ c.in-6.is (sym c.is_event.ensures ∙ c.if-is_event.true)

pub returns-in_default : goal.returns-in_default
returns-in_default c = relative-beyond _ c.args.s.now c.in-4.is c.if-s-le-LONGEST_RELATIVE.false

pub returns-in_default-2 : goal.returns-in_default-2
returns-in_default-2 c = marked_other _ _ c.in-6.is (sym c.is_event.ensures ∙ c.if-is_event.false)

pub returns-in_default-3 : goal.returns-in_default-3
returns-in_default-3 c = verdict_rest c.args.state _ (inl (omega arith)) (omega arith) (omega arith)

pub returns-in_default-4 : goal.returns-in_default-4
returns-in_default-4 c =
    absolute-beyond c.args.state c.args.s.now (omega arith) (omega arith) c.if-s-le-LONGEST_ABSOLUTE.false

pub returns-in_default-5 : goal.returns-in_default-5
returns-in_default-5 c = verdict_rest c.args.state _ (inr (omega arith)) (omega arith) (omega arith)
