-- The id is the number of the two bytes behind the first.
use Rattle.domains.proofs.Laws.{domain-read}
use Rattle.domains.proofs.places.domain.Goals as goal

pub returns : goal.returns
returns c =
    let args = c.args in
    let said = c.number.ensures.read in
    domain-read args.s.now said.bytes c.requires.1 args.k c.requires.0 _ said c.requires.2
