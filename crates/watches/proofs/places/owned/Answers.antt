-- A free place has no watch; a taken one has its owner's.
use mathlib.Core.Path.{sym, ap, ◌∙◌}
use lib.Dec.{eqb}
use Rattle.watches.specs.Watch.{owned_by, nobody}
use Rattle.domains.proofs.Search.{passes_free, passes-taken}
use Rattle.watches.proofs.places.owned.Goals as goal

pub returns-then-used : goal.returns-then-used
unfolding owned_by
returns-then-used c =
    let args = c.args in
    let taken = sym c.used.ensures ∙ c.if-used.true in
    ap (eqb args.c) c.owner.ensures ∙ sym (passes-taken (owned_by args.c) nobody _ taken)

pub returns-else-used : goal.returns-else-used
returns-else-used c = c.if-used.false ∙ sym (passes_free _ _ (sym c.used.ensures ∙ c.if-used.false))
