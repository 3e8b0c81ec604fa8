-- The tests are those of an open transaction, in its order.
use mathlib.Core.Path.{sym, ap, ◌∙◌}
use Rattle.rules.specs.Domain.{Connection, domain_of}
use Rattle.rules.specs.Layout.{domains_of}
use Rattle.rules.specs.Sound.{known}
use Rattle.transactions.proofs.Good.{open_free, open_unknown, open_known}
use Rattle.transactions.proofs.checks.place_good.Goals as goal

pub returns-then-not-is_open : goal.returns-then-not-is_open
returns-then-not-is_open c = sym (open_free _ _ (sym c.is_open.ensures ∙ c.if-not-is_open.true))

pub returns-else-known_sender : goal.returns-else-known_sender
returns-else-known_sender c =
    let ds = domains_of c.args.domains.now in
    let is_open_lem = sym c.is_open.ensures ∙ c.if-not-is_open.false in
    let whose = ap (λ (o : Connection). known (domain_of o) ds) (sym c.holder.ensures) in
    c.if-known_sender.false ∙ sym (open_unknown _ _ is_open_lem (whose ∙ sym c.known_sender.ensures ∙ c.if-known_sender.false))

pub returns-then-known_sender : goal.returns-then-known_sender
returns-then-known_sender c =
    let ds = domains_of c.args.domains.now in
    let is_open_lem = sym c.is_open.ensures ∙ c.if-not-is_open.false in
    let whose = ap (λ (o : Connection). known (domain_of o) ds) (sym c.holder.ensures) in
    c.changes_good.ensures ∙ sym (open_known _ _ is_open_lem (whose ∙ sym c.known_sender.ensures ∙ c.if-known_sender.true))
