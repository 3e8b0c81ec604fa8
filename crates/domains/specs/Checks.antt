-- What the soundness of the domains asks of one place, with the places after it.
use Rattle.std.specs.Prelude.{Bool, true, not, ◌&&◌, leb}
use Rattle.std.proofs.Math.Option.{Option, none, some}
use Rattle.rules.specs.Size.{last_domain}
use Rattle.rules.specs.Path.{Domain}
use Rattle.rules.specs.Layout.{Domains}
use Rattle.rules.specs.Sound.{introduced}

-- an id in range, which no later place has
unfoldable pub good_domain : Option Domain → Domains → Bool
good_domain none ds = true
good_domain (some d) ds = leb 1 d && (leb d last_domain && not (introduced d ds))
