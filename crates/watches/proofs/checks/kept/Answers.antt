-- The table is the bytes of its places, so they are those of what they mean where each place's are.
use mathlib.Core.Path.{refl, ◌∙◌}
use Rattle.std.proofs.Common.{rules, tests}
use Rattle.std.proofs.lemmas.Iterator.{YieldsList-from_range}
use Rattle.std.proofs.lemmas.Iterator.Search.{all_from_yields_List}
use Rattle.rules.specs.Size.{most_watches, watch_size}
use Rattle.rules.specs.Layout.{watch_bytes, watch_in, watches_bytes, watches_of}
use Rattle.domains.specs.Kept.{kept_at}
use Rattle.domains.proofs.Rows.{kept_row, rows_all}
use Rattle.watches.proofs.Bytes.{watch-wide}
use Rattle.watches.proofs.checks.kept.Goals as goal

pub returns : goal.returns
unfolding watches_bytes watches_of kept_at
returns c =
    let s = c.args.s.now in
    all_from_yields_List (kept_row watch_bytes watch_in watch_size watch-wide s) _ _ c.all.result c.all.ensures.ran
    (YieldsList-from_range 0 most_watches most_watches refl refl) (λ x b q k. search (rules, tests))
    ∙ rows_all watch_bytes watch_in watch_size watch-wide most_watches s c.requires _ (λ i h. refl)
