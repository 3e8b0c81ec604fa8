-- A used place has nothing but its id, and a free one is zero.
use mathlib.Core.Path.{◌∙◌}
use Rattle.octets.proofs.Bytes.{bytes-known}
use Rattle.domains.proofs.Laws.{used-same, free_same}
use Rattle.domains.proofs.checks.place_kept.Goals as goal

pub returns-then-s-at-ge128 : goal.returns-then-s-at-ge128
returns-then-s-at-ge128 c =
    let s = c.args.s.now in
    used-same s (bytes-known s c.type_inv.s) c.requires.1 _ c.requires.0 c.if-s-at-ge128.true

pub returns : goal.returns
returns c =
    let s = c.args.s.now in
    let bytes = bytes-known s c.type_inv.s in
    c.all_zero.ensures ∙ free_same s bytes c.requires.1 _ c.requires.0 c.if-s-at-ge128.false
