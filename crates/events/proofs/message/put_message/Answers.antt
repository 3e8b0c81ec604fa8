-- A header, the path with its nul and the token with its nul, one behind the other, are the message.
use Rattle.events.proofs.PutLaws.{message_put}
use Rattle.events.proofs.message.put_message.Goals as goal

pub returns : goal.returns
returns c =
    message_put c.args.path.now c.args.token.now _ _ _ _ _ _ c.put_header.ensures
    c.put_string-at.ensures c.put_string-end.ensures
