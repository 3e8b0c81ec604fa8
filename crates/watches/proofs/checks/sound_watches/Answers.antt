-- The tests are those of sound watches, in their order.
use mathlib.Core.Path.{sym, ◌∙◌}
use borrow.Author.Tests.{eq-eqb, ne_eqb}
use Rattle.rules.specs.Sound.{sound_watches}
use Rattle.watches.proofs.Written.{kept_of}
use Rattle.watches.proofs.checks.sound_watches.Goals as goal

pub returns-then-s-ne-WATCHES_SIZE : goal.returns-then-s-ne-WATCHES_SIZE
unfolding sound_watches
returns-then-s-ne-WATCHES_SIZE c = sym (rw (ne_eqb _ _ c.if-s-ne-WATCHES_SIZE.true))

pub returns-else-kept : goal.returns-else-kept
unfolding sound_watches
returns-else-kept c =
    c.if-kept.false ∙ sym (rw (eq-eqb _ _ c.if-s-ne-WATCHES_SIZE.false, sym c.kept.ensures ∙ c.if-kept.false))

pub good-requires : goal.good-requires
good-requires c =
    (kept_of _ c.if-s-ne-WATCHES_SIZE.false (sym c.kept.ensures ∙ c.if-kept.true), c.requires)

pub returns-then-kept : goal.returns-then-kept
unfolding sound_watches
returns-then-kept c =
    c.good.ensures ∙ sym (rw (eq-eqb _ _ c.if-s-ne-WATCHES_SIZE.false, sym c.kept.ensures ∙ c.if-kept.true))
