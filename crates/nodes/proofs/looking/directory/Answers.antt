-- The names of the children of the slot that is seen are put behind the header, if they are not too long.
use Rattle.std.proofs.lemmas.Result.{err_from_is_err_and}
use Rattle.nodes.proofs.LookingLaws.{directory_gives, not_seen, seen-refused, seen, listed_big, listed_small}
use Rattle.nodes.proofs.looking.directory.Goals as goal

pub returns-then-long-gt-LONGEST_PAYLOAD : goal.returns-then-long-gt-LONGEST_PAYLOAD
returns-then-long-gt-LONGEST_PAYLOAD c =
    let d = c.args.domain in
    let t = c.args.t.now in
    let p = c.args.path.now in
    seen-refused d t p c.requires.standing _ _ (directory_gives d t p) _ c.look.ensures c.args.reply.now _ c.in_ok-slot.was _
    (listed_big _ _ _ c.children-n.ensures.all _ c.names_length-long.ensures
    c.if-long-gt-LONGEST_PAYLOAD.true)

pub returns-in_err-slot : goal.returns-in_err-slot
returns-in_err-slot c =
    let d = c.args.domain in
    let t = c.args.t.now in
    let p = c.args.path.now in
    let failed = err_from_is_err_and c.from_residual.result c.from_residual.ensures.1 in
    rw (failed.1, failed.2) (not_seen d t p c.requires.standing _ _ (directory_gives d t p) _ c.look.ensures _ _ c.in_err-slot.was)

pub returns : goal.returns
returns c =
    let long = c.names_length-long.ensures in
    let d = c.args.domain in
    let t = c.args.t.now in
    let p = c.args.path.now in
    seen d t p c.requires.standing _ _ (directory_gives d t p) _ c.look.ensures c.args.reply.now _ c.in_ok-slot.was _
    (listed_small _ _ _ c.children-n.ensures.all _ long c.if-long-gt-LONGEST_PAYLOAD.false) _ long _
    c.put_names.ensures.bytes _ c.shown.ensures
