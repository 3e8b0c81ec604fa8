-- Gone is gone: what a RELEASE leaves of its domain.
use Rattle.std.specs.Prelude.{◌≡◌, true, false, ℕ, get_or, eqb}
use mathlib.Core.List.{List, ◌∷◌, Memᴰ}
use Rattle.std.proofs.Math.Option.{none, some}
use Rattle.rules.specs.Octets.{decimal}
use Rattle.rules.specs.Entries.{has}
use Rattle.rules.specs.Path.{Domain, domain_of, release_name}
use Rattle.rules.specs.Node.{Node}
use Rattle.rules.specs.Payload.{event, release, request}
use Rattle.rules.specs.Answer.{OK}
use Rattle.rules.specs.Event.{Watch, Record}
use Rattle.rules.specs.Layout.{Transaction}
use Rattle.rules.specs.Sound.{introduced}
use Rattle.rules.specs.World.{World, Outcome, fresh_world}
use Rattle.laws.specs.History.{Call, History, request_of, served, run}

-- nothing of domain d is left: no watch, no open transaction, no node that it owns; and it is not introduced
pub record Gone (d : Domain) (w : World) : Type 0 where
  pub watches : has (λ (v : Watch). eqb d (domain_of v.owner)) w.watches ≡ false
  pub transactions : has (λ (x : Transaction). eqb d (domain_of x.holder)) w.transactions ≡ false
  pub nodes : has (λ (n : Node). eqb d n.owner.domain) w.nodes ≡ false
  pub domains : introduced d w.domains ≡ false

-- a record of these is the release of domain d, for the watch in place i
pub record Hears (d : Domain) (i : ℕ) (rs : List Record) : Type 0 where
  pub told : Record
  pub among : Memᴰ told rs
  pub path : told.path ≡ 47 ∷ decimal d
  pub marked : get_or told.mask i false ≡ true

-- After any history a RELEASE that is answered OK leaves nothing of its domain in the store,
-- and every watch on `@releaseDomain` hears of it.
abbrev pub GoneIsGone : Type 0
GoneIsGone =
    (cs : History) (c : Call) (d : Domain) (o : Outcome) → let w = run fresh_world cs in request_of c ≡ request (release d) → served w c ≡ some o → o.reply ≡ OK
    → Gone d o.world × ((i : ℕ) (v : Watch) → get_or w.watches i none ≡ some v → v.place ≡ event release_name → Hears d i o.records)
