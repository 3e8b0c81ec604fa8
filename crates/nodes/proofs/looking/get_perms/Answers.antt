-- The entries of the slot that is seen are put behind the header.
use mathlib.Core.Path.{refl}
use native.Mathlib.Omega.{arith}
use Rattle.rules.specs.Layout.{table_of}
use Rattle.rules.specs.Node.{node_at}
use mathlib.Core.List.{◌∷◌, flat_map}
use Rattle.rules.specs.Answer.{entry_text, permissions}
use Rattle.std.proofs.lemmas.Result.{err_from_is_err_and}
use Rattle.nodes.proofs.LookingLaws.{get_perms_gives, asked-seen, not_seen, seen}
use Rattle.nodes.proofs.looking.get_perms.Goals as goal

pub put_entries-to-requires : goal.put_entries-to-requires
put_entries-to-requires c =
    (asked-seen _ c.args.t.now _ _ c.look.ensures _ c.in_ok-slot.was, omega (arith, c.requires.long))

pub returns-in_err-slot : goal.returns-in_err-slot
returns-in_err-slot c =
    let d = c.args.domain in
    let t = c.args.t.now in
    let p = c.args.path.now in
    let failed = err_from_is_err_and c.from_residual.result c.from_residual.ensures.1 in
    rw (failed.1, failed.2) (not_seen d t p c.requires.standing _ _ (get_perms_gives d t p) _ c.look.ensures _ _ c.in_err-slot.was)

pub returns : goal.returns
unfolding permissions
returns c =
    let d = c.args.domain in
    let t = c.args.t.now in
    let p = c.args.path.now in
    let w = c.put_entries-to.ensures in
    let n = node_at (table_of t) c.in_ok-slot.slot in
    seen d t p c.requires.standing _ _ (get_perms_gives d t p) _ c.look.ensures c.args.reply.now _ c.in_ok-slot.was
    (flat_map entry_text (n.owner ∷ n.others)) refl _ (omega (arith, w.behind)) _ w.bytes _ c.shown.ensures
