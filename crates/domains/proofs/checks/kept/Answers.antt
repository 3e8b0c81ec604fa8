-- The table is the bytes of its places, so they are those of what they mean where each place's are.
use mathlib.Core.Path.{refl, ◌∙◌}
use Rattle.std.proofs.Common.{rules, tests}
use Rattle.std.proofs.lemmas.Iterator.{YieldsList-from_range}
use Rattle.std.proofs.lemmas.Iterator.Search.{all_from_yields_List}
use Rattle.rules.specs.Size.{most_domains, domain_size}
use Rattle.rules.specs.Layout.{domain_bytes, domain_in, domains_bytes, domains_of}
use Rattle.domains.specs.Kept.{kept_at}
use Rattle.domains.proofs.Rows.{kept_row, rows_all}
use Rattle.domains.proofs.Laws.{wide}
use Rattle.domains.proofs.checks.kept.Goals as goal

pub returns : goal.returns
unfolding domains_bytes domains_of kept_at
returns c =
    let s = c.args.s.now in
    all_from_yields_List (kept_row domain_bytes domain_in domain_size wide s) _ _ c.all.result c.all.ensures.ran
    (YieldsList-from_range 0 most_domains most_domains refl refl) (λ x b q k. search (rules, tests))
    ∙ rows_all domain_bytes domain_in domain_size wide most_domains s c.requires _ (λ i h. refl)
