-- Both tables are left without the connection's entries.
use Rattle.std.specs.Prelude.{Ok}
use mathlib.Core.Path.{refl, sym, ap, ◌∙◌}
use lib.Dec.{eqb}
use Rattle.rules.specs.Layout.{Transactions}
use Rattle.rules.specs.Event.{Watches}
use Rattle.rules.specs.World.{without_watches, without_transactions}
use Rattle.rules.specs.Layout.{watches_bytes, transactions_bytes}
use Rattle.handlers.proofs.WatchingLaws.{reset-done}
use Rattle.handlers.proofs.Ways.{done_so, same_tables_lem}
use Rattle.handlers.proofs.watching.reset.Goals as goal

pub returns : goal.returns
returns c =
    let owner = c.args.c in
    λ w l events. done_so w _ _ _ events _ _ _ _ _ (reset-done w _) (ap Ok c.with_events.ensures) c.okay.ensures
    (same_tables_lem refl refl
    (c.remove_of.ensures
    ∙ ap (λ (ws : Watches). watches_bytes (without_watches (eqb owner) ws)) (sym l.watches))
    (c.remove_of-2.ensures
    ∙ ap (λ (xs : Transactions). transactions_bytes (without_transactions (eqb owner) xs)) (sym l.transactions)) refl)
