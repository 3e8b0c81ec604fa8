-- With no transaction on the store; else in the transaction, if the sender holds it.
use mathlib.Core.Path.{refl}
use Rattle.handlers.proofs.Alone.{nodes-alone, copies-alone, transactions-alone}
use Rattle.handlers.proofs.EndLaws.{it_holds, none_held}
use Rattle.handlers.proofs.Ways.{refused_so, same_tables_lem}
use Rattle.requests.proofs.HandleLaws.{handled_so}
use Rattle.requests.proofs.NodeLaws.{asked-plain, asked_nowhere, asked-inside}
use Rattle.requests.proofs.node.asked.Goals as goal

pub returns-then-tx-eq0 : goal.returns-then-tx-eq0
returns-then-tx-eq0 c =
    λ w l e.
    handled_so (asked-plain w _ c.requires.0 _ _ _ c.if-tx-eq0.true)
    (same_tables_lem refl (copies-alone w _ c.requires.1.whole l.copies) refl refl refl)
    (c.on_store.ensures w (record { nodes = l.nodes; copies = tt; watches = l.watches; transactions = l.transactions; domains = tt }) e)

pub returns-then-not-is_held : goal.returns-then-not-is_held
returns-then-not-is_held c =
    let p = c.requires.1 in
    let a = c.args in
    λ w l e.
    let none = none_held a.transactions.now a.sender.connection a.tx c.is_held.result c.is_held.ensures c.if-not-is_held.true-raw w
    l.transactions in
    refused_so w _ _ _ _ _ (asked_nowhere w _ c.requires.0 _ _ _ c.if-tx-eq0.false none)
    (same_tables_lem (nodes-alone w _ p.sound l.nodes) (copies-alone w _ p.whole l.copies) refl
    (transactions-alone w _ p.kept l.transactions) refl)

pub in_transaction-requires : goal.in_transaction-requires
in_transaction-requires c =
    let p = c.requires.1 in
    let a = c.args in
    let h = it_holds a.transactions.now a.sender.connection a.tx c.is_held.result c.is_held.ensures
    c.if-not-is_held.false-raw in
    (record { whole = p.whole; place = h.place; sound = p.copy _ h.place; long = p.long }, c.requires.2)

pub returns : goal.returns
returns c =
    let p = c.requires.1 in
    let a = c.args in
    let h = it_holds a.transactions.now a.sender.connection a.tx c.is_held.result c.is_held.ensures c.if-not-is_held.false-raw in
    λ w l e.
    handled_so (asked-inside w _ c.requires.0 _ _ _ c.if-tx-eq0.false _ (h.found w l.transactions))
    (same_tables_lem (nodes-alone w _ p.sound l.nodes) refl refl refl refl)
    (c.in_transaction.ensures w (record { nodes = tt; copies = l.copies; watches = tt; transactions = l.transactions; domains = tt }) a.events.now)
