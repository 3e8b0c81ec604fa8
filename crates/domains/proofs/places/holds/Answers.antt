-- A free place has no domain; a taken one has its own.
use mathlib.Core.Path.{sym, ap, ◌∙◌}
use lib.Dec.{eqb}
use Rattle.domains.proofs.Search.{passes_free, passes-taken}
use Rattle.domains.proofs.places.holds.Goals as goal

pub returns-then-used : goal.returns-then-used
returns-then-used c =
    let test = eqb c.args.d in
    ap test c.domain.ensures ∙ sym (passes-taken test 0 _ (sym c.used.ensures ∙ c.if-used.true))

pub returns-else-used : goal.returns-else-used
returns-else-used c =
    c.if-used.false ∙ sym (passes_free _ _ (sym c.used.ensures ∙ c.if-used.false))
