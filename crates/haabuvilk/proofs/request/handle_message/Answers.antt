-- What is handled leaves its outcome, and its reply in a frame.
use mathlib.Core.List.{[]}
use native.Mathlib.Omega.{arith}
use Rattle.rules.specs.Call.{world_of}
use Rattle.replies.specs.Does.{tables}
use Rattle.haabuvilk.proofs.RequestLaws.{ready, handled-number, shown, answered, reply_held, records_fit}
use borrow.Author.Rules.{rules}
use Rattle.haabuvilk.proofs.request.handle_message.Goals as goal

pub number32-kind-requires : goal.number32-kind-requires
number32-kind-requires c = let r = ready _ _ _ _ _ (handled-number _ _ _ _ _ c.requires.verdict) in omega arith

pub number32-tx-requires : goal.number32-tx-requires
number32-tx-requires c = let r = ready _ _ _ _ _ (handled-number _ _ _ _ _ c.requires.verdict) in omega arith

pub slice_bounds-handle-count : goal.slice_bounds-handle-count
slice_bounds-handle-count c = (ready _ _ _ _ _ (handled-number _ _ _ _ _ c.requires.verdict)).header

pub slice_bounds-handle-start : goal.slice_bounds-handle-start
slice_bounds-handle-start c = (ready _ _ _ _ _ (handled-number _ _ _ _ _ c.requires.verdict)).header

pub handle-outcome-requires : goal.handle-outcome-requires
handle-outcome-requires c =
    let who = c.of.ensures in
    (ready _ _ _ _ _ (handled-number _ _ _ _ _ c.requires.verdict)).served _ who.0 who.1

pub framed-requires : goal.framed-requires
framed-requires c =
    let r = ready _ _ _ _ _ (handled-number _ _ _ _ _ c.requires.verdict) in
    let t = tables c.args.nodes.now c.args.copies.now c.args.watches.now c.args.transactions.now c.args.domains.now in
    let h = rw c.in-Ok.is at (c.handle-outcome.ensures (world_of t) (shown t _ _) []) in
    (r.header, search rules, reply_held h r.reply (search rules))

pub framed-requires-in-Err : goal.framed-requires-in-Err
framed-requires-in-Err c =
    let r = ready _ _ _ _ _ (handled-number _ _ _ _ _ c.requires.verdict) in
    (r.header, search rules, tt)

pub overflow_cast-event_count : goal.overflow_cast-event_count
overflow_cast-event_count c =
    let t = tables c.args.nodes.now c.args.copies.now c.args.watches.now c.args.transactions.now c.args.domains.now in
    let h = rw c.in-Ok.is at (c.handle-outcome.ensures (world_of t) (shown t _ _) []) in
    omega (arith, records_fit h (ready _ _ _ _ _ (handled-number _ _ _ _ _ c.requires.verdict)).events (search rules))

pub returns-in-Ok : goal.returns-in-Ok
returns-in-Ok c =
    let t = tables c.args.nodes.now c.args.copies.now c.args.watches.now c.args.transactions.now c.args.domains.now in
    answered _ _ _ _ _ _ _ _ (handled-number _ _ _ _ _ c.requires.verdict) c.number32-kind.ensures c.number32-tx.ensures
    c.of.ensures.0 (rw c.in-Ok.is at (c.handle-outcome.ensures (world_of t) (shown t _ _) [])) c.framed.ensures

pub returns-in-Err : goal.returns-in-Err
returns-in-Err c =
    let t = tables c.args.nodes.now c.args.copies.now c.args.watches.now c.args.transactions.now c.args.domains.now in
    rw (c.requires.zero.0, c.requires.zero.1, c.requires.zero.2)
    (answered _ _ _ _ _ _ _ _ (handled-number _ _ _ _ _ c.requires.verdict) c.number32-kind.ensures c.number32-tx.ensures
    c.of.ensures.0 (rw c.in-Err.is at (c.handle-outcome.ensures (world_of t) (shown t _ _) [])) c.framed-in-Err.ensures)
