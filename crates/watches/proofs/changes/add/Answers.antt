-- A place is its fields, the path's field and the token's.
use mathlib.Core.Path.{ap, ◌∙◌}
use Prim.Native.Nat.{◌+◌, ◌*◌}
use Rattle.rules.specs.Size.{watch_fields_size, watch_size}
use Rattle.rules.specs.Octets.{paste}
use Rattle.watches.proofs.Written.{given-levels, put_watch}
use Rattle.watches.proofs.changes.add.Goals as goal

pub returns : goal.returns
returns c =
    let args = c.args in
    let pre = c.requires in
    let levels = c.unwrap_or.ensures ∙ given-levels args.depth in
    let at = args.k * watch_size in
    c.put_fields.ensures
    ∙ ap (paste at _) (c.put_text-2.ensures ∙ ap (paste (at + watch_fields_size) _) c.put_text.ensures)
    ∙ put_watch args.s.now pre.1 args.k pre.0 args.c args.path.now args.relative args.depth args.token.now pre.2
    (rw (← levels) c.unwrap_or.type_inv) _ _ c.marks.ensures levels
