-- The four tests are those of the sizes.
use mathlib.Core.Path.{sym}
use borrow.Author.Tests.{eq-eqb, ne_eqb}
use Rattle.rules.specs.Message.{sized_message}
use Rattle.haabuvilk.proofs.sizes.sized_message.Goals as goal

pub returns-then-watches-ne-WATCHES_SIZE : goal.returns-then-watches-ne-WATCHES_SIZE
unfolding sized_message
returns-then-watches-ne-WATCHES_SIZE c = sym (rw (ne_eqb _ _ c.if-watches-ne-WATCHES_SIZE.true))

pub returns-then-domains-ne-DOMAINS_SIZE : goal.returns-then-domains-ne-DOMAINS_SIZE
unfolding sized_message
returns-then-domains-ne-DOMAINS_SIZE c = sym (rw (eq-eqb _ _ c.if-watches-ne-WATCHES_SIZE.false, ne_eqb _ _ c.if-domains-ne-DOMAINS_SIZE.true))

pub returns-then-events-ne-EVENTS_SIZE : goal.returns-then-events-ne-EVENTS_SIZE
unfolding sized_message
returns-then-events-ne-EVENTS_SIZE c = sym
    (rw (eq-eqb _ _ c.if-watches-ne-WATCHES_SIZE.false, eq-eqb _ _ c.if-domains-ne-DOMAINS_SIZE.false, ne_eqb _ _ c.if-events-ne-EVENTS_SIZE.true))

pub returns : goal.returns
unfolding sized_message
returns c = sym (rw (eq-eqb _ _ c.if-watches-ne-WATCHES_SIZE.false, eq-eqb _ _ c.if-domains-ne-DOMAINS_SIZE.false, eq-eqb _ _ c.if-events-ne-EVENTS_SIZE.false))
