-- A type is one of the kinds, or is not handled.
use Rattle.payload.proofs.ParseLaws.{unknown_parsed}
use Rattle.payload.proofs.parse.parse.Goals as goal

pub returns-in-None : goal.returns-in-None
returns-in-None c = unknown_parsed _ _ _ c.in-None.ensures
