-- What a cursor finds.
use Rattle.std.specs.Prelude.{cond, ℕ, ◌+◌, ltb, length, drop}
use Rattle.std.proofs.Math.Option.{Option, none, some}
use Rattle.rules.specs.Octets.{Octets}
use Rattle.rules.specs.Payload as rules
use Rattle.payload.specs.declared.cursor.Taken.{Taken}
use Rattle.payload.specs.declared.cursor.Taken.TheVariants.{String, Left, End}

-- what is found from `start` on, where the payload's first string from i on is known
unfoldable pub found : Octets → ℕ → ℕ → Option rules.Taken → Taken
found s start i none = cond (ltb start (length s)) Left End
found s start i (some t) = String start (i + length t.first) (record { at = i + length t.first + 1 })

unfoldable pub taken_at : Octets → ℕ → Taken
taken_at s at = found s at at (rules.first_string (drop at s))
