-- The verdict turns away before anything but the results is written.
use mathlib.Core.Path.{sym, ◌∙◌}
use Rattle.haabuvilk.proofs.RequestLaws.{turned_by_verdict, to_handle}
use Rattle.haabuvilk.proofs.request.haabuvilk_request.Goals as goal

pub returns-then-ne : goal.returns-then-ne
returns-then-ne c =
    turned_by_verdict _ _ _ _ _ _ c.verdict-verdict.result _ c.verdict-verdict.ensures (sym c.ne.ensures ∙ c.if-ne.true) c.number_of.ensures

pub handle_message-requires-clause-verdict : goal.handle_message-requires-clause-verdict
handle_message-requires-clause-verdict c =
    to_handle _ _ _ _ _ c.verdict-verdict.result _ c.verdict-verdict.ensures (sym c.ne.ensures ∙ c.if-ne.false)
