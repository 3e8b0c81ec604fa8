-- What is asked of the table is asked of each place, with those after it.
use mathlib.Core.Path.{refl, ◌∙◌}
use Rattle.std.proofs.Common.{rules, tests}
use Rattle.std.proofs.lemmas.Iterator.{YieldsList-from_range}
use Rattle.std.proofs.lemmas.Iterator.Search.{all_from_yields_List}
use Rattle.rules.specs.Size.{most_domains}
use Rattle.rules.specs.Layout.{domains_of}
use Rattle.domains.proofs.Turns.{asked_at, asked_all}
use Rattle.domains.proofs.Laws.{length-domains_of, good_check}
use Rattle.domains.proofs.checks.good.Goals as goal

pub returns : goal.returns
returns c =
    let ds = domains_of c.args.s.now in
    all_from_yields_List (asked_at good_check ds) _ _ c.all.result c.all.ensures.ran
    (YieldsList-from_range 0 most_domains most_domains refl refl) (λ x b q k. search (rules, tests))
    ∙ asked_all good_check ds most_domains (length-domains_of _)
