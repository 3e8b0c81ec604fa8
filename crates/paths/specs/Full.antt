-- The full path of a relative one.
use Rattle.std.specs.Prelude.{[], ◌∷◌, ◌++◌}
use Rattle.rules.specs.Octets.{Octets}
use Rattle.rules.specs.Path.{Domain, base, slashed}

-- what stands before a relative path: `/local/domain/N/`
unfoldable pub base_text : Domain → Octets
base_text d = slashed (base d) ++ (47 ∷ [])
