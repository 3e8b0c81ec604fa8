-- The code's options in the rule book's terms.
use Rattle.std.specs.Prelude.{Option, Some, None}
use Rattle.std.proofs.Math.Option as rules

abbrev pub meant : {A : Type 0} → Option A → rules.Option A
meant (Some x) = rules.some x
meant None = rules.none
