-- The three bytes of a place are those of its domain.
use Rattle.domains.proofs.Laws.{put_domain}
use Rattle.domains.proofs.changes.add.Goals as goal

pub returns : goal.returns
returns c = put_domain c.args.s.now c.requires.2 c.args.k c.requires.0 c.args.d c.requires.1
