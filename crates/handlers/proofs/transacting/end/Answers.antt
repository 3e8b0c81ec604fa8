-- A transaction that is not held is unknown; one that is held is closed, and its commit is that of its place unless it is stale.
use Rattle.std.specs.Prelude.{Ok, Err}
use Rattle.replies.specs.declared.kinds.Errno.TheVariants.{Again}
use mathlib.Core.Option.{none}
use Rattle.rules.specs.World.{ending}
use Rattle.handlers.proofs.Ways.{handled_as, refused_so, done_so, same_tables_lem}
use Rattle.handlers.proofs.EndLaws.{it_holds, none_held, end-unknown, end_dropped, end-stale, end_commits}
use Prim.Native.Nat.{◌-◌}
use lib.ListN.{set}
use borrow.Author.Tests.{not-false}
use mathlib.Core.Path.{refl, sym, ap, ◌∙◌}
use Rattle.rules.specs.Layout.{Transactions, transactions_bytes}
use Rattle.handlers.proofs.Alone.{nodes-alone, transactions-alone}
use Rattle.handlers.proofs.transacting.end.Goals as goal

pub returns-then-not-is_held : goal.returns-then-not-is_held
returns-then-not-is_held c =
    let args = c.args in
    let pre = c.requires in
    let asked = c.is_held in
    λ w l events. refused_so w _ _ _ _ _
    (end-unknown w _ _ _ (none_held args.transactions.now args.c args.tx asked.result asked.ensures c.if-not-is_held.true-raw w
    l.transactions)) (same_tables_lem (nodes-alone w _ pre.sound l.nodes) refl refl (transactions-alone w _ pre.kept l.transactions) refl)

pub overflow_sub-k : goal.overflow_sub-k
overflow_sub-k c =
    let args = c.args in
    (it_holds args.transactions.now args.c args.tx c.is_held.result c.is_held.ensures c.if-not-is_held.false-raw).low

pub close-requires : goal.close-requires
close-requires c =
    let args = c.args in
    let h = it_holds args.transactions.now args.c args.tx c.is_held.result c.is_held.ensures c.if-not-is_held.false-raw in
    (h.place.below, c.requires.kept)

pub returns-then-not-commits : goal.returns-then-not-commits
returns-then-not-commits c =
    let args = c.args in
    let h = it_holds args.transactions.now args.c args.tx c.is_held.result c.is_held.ensures c.if-not-is_held.false-raw in
    let ends = c.if-not-commits.true in
    λ w l events. done_so w _ _ _ _ _ _ _ _ _
    (ap (ending w args.c args.tx) ends ∙ end_dropped w _ _ _ (h.found w l.transactions))
    (ap Ok c.with_events.ensures) c.okay.ensures
    (same_tables_lem (nodes-alone w _ c.requires.sound l.nodes) refl refl
    (c.close.ensures
    ∙ ap (λ (y : Transactions). transactions_bytes (set y (args.tx - 1) none)) (sym l.transactions)) refl)

pub stale-requires : goal.stale-requires
stale-requires c =
    let args = c.args in
    let h = it_holds args.transactions.now args.c args.tx c.is_held.result c.is_held.ensures c.if-not-is_held.false-raw in
    h.place

pub close-requires-then-stale : goal.close-requires-then-stale
close-requires-then-stale c =
    let args = c.args in
    let h = it_holds args.transactions.now args.c args.tx c.is_held.result c.is_held.ensures c.if-not-is_held.false-raw in
    (h.place.below, c.requires.kept)

pub returns-then-stale : goal.returns-then-stale
returns-then-stale c =
    let args = c.args in
    let h = it_holds args.transactions.now args.c args.tx c.is_held.result c.is_held.ensures c.if-not-is_held.false-raw in
    let commits = c.if-not-commits.false in
    let stale = sym c.stale.ensures ∙ c.if-stale.true in
    λ w l events. done_so w _ _ _ _ _ _ _ (Err Again) _
    (ap (ending w args.c args.tx) commits ∙ end-stale w _ _ _ (h.found w l.transactions) stale)
    refl (refl, refl)
    (same_tables_lem (nodes-alone w _ c.requires.sound l.nodes) refl refl
    (c.close-then-stale.ensures ∙ ap (λ (y : Transactions). transactions_bytes (set y (args.tx - 1) none)) (sym l.transactions)) refl)

pub commit-requires : goal.commit-requires
commit-requires c =
    let args = c.args in
    let h = it_holds args.transactions.now args.c args.tx c.is_held.result c.is_held.ensures c.if-not-is_held.false-raw in
    (c.requires, h.place)

pub returns : goal.returns
returns c =
    let args = c.args in
    let h = it_holds args.transactions.now args.c args.tx c.is_held.result c.is_held.ensures c.if-not-is_held.false-raw in
    let commits = not-false _
    c.if-not-commits.false-raw in
    let fresh = sym c.stale.ensures
    ∙ c.if-stale.false in
    λ w l events. handled_as (ap (ending w args.c args.tx) commits ∙ end_commits w _ _ _ (h.found w l.transactions) fresh)
    (c.commit.ensures w l events)
