-- The four letters are the rule book's.
use mathlib.Core.Path.{refl}
use Rattle.rules.specs.Octets.{text}
use Rattle.rules.specs.Answer.{access_text}
use Rattle.lookup.proofs.listing.letter.Goals as goal

pub returns : goal.returns
unfolding access_text text
returns c = refl
