-- The tests are those of sound domains, in their order.
use mathlib.Core.Path.{sym, ◌∙◌}
use borrow.Author.Tests.{eq-eqb, ne_eqb}
use Rattle.rules.specs.Sound.{sound_domains}
use Rattle.domains.proofs.checks.sound_domains.Goals as goal

pub returns-then-s-ne-DOMAINS_SIZE : goal.returns-then-s-ne-DOMAINS_SIZE
unfolding sound_domains
returns-then-s-ne-DOMAINS_SIZE c = sym (rw (ne_eqb _ _ c.if-s-ne-DOMAINS_SIZE.true))

pub returns-then-kept : goal.returns-then-kept
unfolding sound_domains
returns-then-kept c =
    c.good.ensures ∙ sym (rw (eq-eqb _ _ c.if-s-ne-DOMAINS_SIZE.false, sym c.kept.ensures ∙ c.if-kept.true))

pub returns-else-kept : goal.returns-else-kept
unfolding sound_domains
returns-else-kept c =
    c.if-kept.false ∙ sym (rw (eq-eqb _ _ c.if-s-ne-DOMAINS_SIZE.false, sym c.kept.ensures ∙ c.if-kept.false))
