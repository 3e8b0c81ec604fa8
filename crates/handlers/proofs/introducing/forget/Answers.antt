-- Each table is left without the domain's entries, and the transactions stale where a node was removed.
use mathlib.Core.Path.{refl}
use Rattle.handlers.proofs.ReleaseLaws.{ended-kept, forgotten-stale, forgotten_still}
use Rattle.handlers.proofs.introducing.forget.Goals as goal

pub stale_all-requires : goal.stale_all-requires
stale_all-requires c =
    let pre = c.requires in
    (ended-kept _ pre.1 _ _ c.remove_of-2.ensures).0

pub returns-then-removed : goal.returns-then-removed
returns-then-removed c =
    let pre = c.requires in
    forgotten-stale _ _ _ pre.1 _ _ _ _ _ c.remove_of.ensures
    c.remove_of-2.ensures c.remove.ensures _
    c.if-removed.true c.stale_all.ensures

pub returns-else-removed : goal.returns-else-removed
returns-else-removed c =
    let pre = c.requires in
    forgotten_still _ _ _ pre.1 _ _ _ _ _ c.remove_of.ensures
    c.remove_of-2.ensures c.remove.ensures _
    c.if-removed.false refl
