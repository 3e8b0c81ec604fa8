-- Refusals: what an errno leaves of the tables.
use Rattle.std.specs.Prelude.{◌≡◌, ◌-◌}
use Rattle.std.proofs.Math.Option.{some}
use Rattle.rules.specs.Answer.{Errno, EAGAIN, refused}
use Rattle.rules.specs.World.{World, Outcome, left, closing}
use Rattle.rules.specs.Call.{tx_of}
use Rattle.laws.specs.History.{Call, served}

-- A call that is answered an errno other than EAGAIN changes no table: it leaves the world as it was, with no event.
abbrev pub RefusalChangesNothing : Type 0
RefusalChangesNothing =
    (w : World) (c : Call) (o : Outcome) (e : Errno) → served w c ≡ some o → o.reply ≡ refused e → (e ≡ EAGAIN → ⊥) → o ≡ left w (refused e)

-- EAGAIN closes the transaction that the END named, and changes nothing else.
abbrev pub EagainClosesAlone : Type 0
EagainClosesAlone =
    (w : World) (c : Call) (o : Outcome) → served w c ≡ some o → o.reply ≡ refused EAGAIN
    → o ≡ closing w (tx_of c.message - 1) (refused EAGAIN)
