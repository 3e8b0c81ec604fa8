-- A domain that is not introduced leaves every table; one that is leaves them as its clearing out does.
use mathlib.Core.Path.{ap}
use Rattle.std.specs.Prelude.{Ok}
use mathlib.Core.Path.{refl, sym, ◌∙◌}
use Rattle.handlers.proofs.Alone.{nodes-alone, watches-alone, transactions-alone, domains-alone}
use Rattle.handlers.proofs.Ways.{refused_so, same_tables_lem}
use Rattle.handlers.proofs.ReleaseLaws.{release-unknown, released-handled}
use Rattle.handlers.proofs.introducing.release.Goals as goal

pub returns-then-not-introduced : goal.returns-then-not-introduced
returns-then-not-introduced c =
    let pre = c.requires.0 in
    λ w l events. refused_so w _ _ _ _ _
    (release-unknown w _ _ l.domains (sym c.introduced.ensures ∙ c.if-not-introduced.true))
    (same_tables_lem (nodes-alone w _ pre.sound l.nodes) refl (watches-alone w _ pre.watching l.watches)
    (transactions-alone w _ pre.kept l.transactions) (domains-alone w _ pre.known l.domains))

pub returns : goal.returns
returns c =
    let known = sym c.introduced.ensures
    ∙ c.if-not-introduced.false in
    λ w l events. released-handled _ _ _ _ _ _ _ _ _ _ _ _ c.clear_out-n.ensures w l.nodes l.watches l.transactions l.domains
    c.requires.1 c.requires.2 known _ _ _ _ c.okay.ensures (ap Ok c.with_events.ensures)
