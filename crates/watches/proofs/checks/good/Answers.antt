-- What is asked of the table is asked of each place, with those after it.
use mathlib.Core.Path.{refl, ◌∙◌}
use Rattle.std.proofs.Common.{rules, tests}
use Rattle.std.proofs.lemmas.Iterator.{YieldsList-from_range}
use Rattle.std.proofs.lemmas.Iterator.Search.{all_from_yields_List}
use Rattle.rules.specs.Size.{most_watches}
use Rattle.rules.specs.Layout.{domains_of, watches_of}
use Rattle.domains.proofs.Turns.{asked_at, asked_all}
use Rattle.watches.proofs.Bytes.{length-watches_of}
use Rattle.watches.proofs.Good.{good_check}
use Rattle.watches.proofs.checks.good.Goals as goal

pub returns : goal.returns
returns c =
    let check = good_check (domains_of c.args.domains.now) in
    let ws = watches_of c.args.s.now in
    all_from_yields_List (asked_at check ws) _ _ c.all.result c.all.ensures.ran
    (YieldsList-from_range 0 most_watches most_watches refl refl) (λ x b q k. search (rules, tests))
    ∙ asked_all check ws most_watches (length-watches_of _)
