-- A bit says whether a depth was given, and the second byte is the depth.
use mathlib.Core.Path.{sym, ◌∙◌}
use borrow.Author.Tests.{eq-eqb, ne_eqb}
use Rattle.octets.proofs.Bytes.{bytes-known}
use Rattle.watches.proofs.Laws.{depth-read}
use Rattle.watches.proofs.places.depth.Goals as goal

pub returns-then-s-k-eq1 : goal.returns-then-s-k-eq1
returns-then-s-k-eq1 c =
    let pre = c.requires in
    let s = c.args.s.now in
    let bytes = bytes-known s c.type_inv.s in
    sym (depth-read s _ pre.below bytes pre.kept.whole pre.used ∙ rw (eq-eqb _ _ c.if-s-k-eq1.true))

pub returns : goal.returns
returns c =
    let pre = c.requires in
    let s = c.args.s.now in
    let bytes = bytes-known s c.type_inv.s in
    sym (depth-read s _ pre.below bytes pre.kept.whole pre.used ∙ rw (ne_eqb _ _ c.if-s-k-eq1.false))
