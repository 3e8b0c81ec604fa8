-- The four numbers stand one behind the other.
use Rattle.events.proofs.PutLaws.{header_put}
use Rattle.events.proofs.message.put_header.Goals as goal

pub returns : goal.returns
returns c =
    header_put _ _ _ _ _ _ c.put_number32.ensures c.put_number32-2.ensures c.put_number32-3.ensures
    c.put_number32-4.ensures
