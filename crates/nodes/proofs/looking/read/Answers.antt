-- The value of the slot that is seen is copied behind the header.
use mathlib.Core.Path.{refl, ap, ◌∙◌}
use native.Mathlib.Omega.{arith}
use Rattle.slots.proofs.Canonical.{sound_canonical}
use Rattle.rules.specs.Layout.{table_of}
use Rattle.rules.specs.Node.{node_at}
use lib.ListN.{length}
use Rattle.rules.specs.Size.{header_size}
use Rattle.rules.specs.Octets.{Octets, paste}
use Rattle.rules.proofs.Fitting.{node_at-fits, decoded_fits}
use Rattle.slots.proofs.Canonical.{value-short}
use Rattle.std.proofs.lemmas.Result.{err_from_is_err_and}
use Rattle.nodes.proofs.LookingLaws.{read_gives, asked-seen, not_seen, seen}
use Rattle.nodes.proofs.looking.read.Goals as goal

pub value-v-requires : goal.value-v-requires
value-v-requires c =
    let t = c.args.t.now in
    let k = asked-seen _ t _ _ c.look.ensures _ c.in_ok-slot.was in
    (k.below, (sound_canonical _ k.sound).whole, k.used, value-short t k.sound _ k.below k.used)

pub copy-requires : goal.copy-requires
copy-requires c =
    let t = c.args.t.now in
    omega (arith, ap length c.value-v.ensures, (node_at-fits (table_of t) c.in_ok-slot.slot (decoded_fits t).all).value, c.requires.long)

pub returns-in_err-slot : goal.returns-in_err-slot
returns-in_err-slot c =
    let d = c.args.domain in
    let t = c.args.t.now in
    let p = c.args.path.now in
    let failed = err_from_is_err_and c.from_residual.result c.from_residual.ensures.1 in
    rw (failed.1, failed.2) (not_seen d t p c.requires.standing _ _ (read_gives d t p) _ c.look.ensures _ _ c.in_err-slot.was)

pub returns : goal.returns
returns c =
    let d = c.args.domain in
    let t = c.args.t.now in
    let p = c.args.path.now in
    let v = c.value-v.ensures in
    seen d t p c.requires.standing _ _ (read_gives d t p) _ c.look.ensures c.args.reply.now _ c.in_ok-slot.was
    (node_at (table_of t) c.in_ok-slot.slot).value refl _ (ap length v) _
    (c.copy.ensures ∙ ap (λ (ys : Octets). paste header_size ys c.args.reply.now) v) _ c.shown.ensures
