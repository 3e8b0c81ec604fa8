use Rattle.replies.proofs.FrameLaws.{errno-fits}
use Rattle.replies.proofs.frame.put_errno.Goals as goal

pub put_payload-requires : goal.put_payload-requires
put_payload-requires c = (c.requires, rw c.text.ensures (errno-fits c.args.e))
