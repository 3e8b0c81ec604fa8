-- What is left of a path's text.
use Rattle.std.specs.Prelude.{cond, [], ℕ, length, drop, leb}
use Rattle.rules.specs.Octets.{Octets}
use Rattle.rules.specs.Path.{Names, split}

-- the names of a full path's text from the name on that begins at a place; none at or past its end
unfoldable pub left_at : Octets → ℕ → Names
left_at p at = cond (leb (length p) at) [] (split (drop at p))
