-- Each bit is whether its place is the one.
use mathlib.Core.Path.{◌≡◌, ◌∙◌}
use lib.Dec.{eqb}
use Rattle.std.proofs.Common.{rules, tests}
use Rattle.events.proofs.MaskLaws.{only_long, only_at}
use Rattle.events.proofs.masks.one_watch.Goals as goal

pub returns : goal.returns
returns c =
    c.mask_where.ensures _
    (record {
      long = only_long _ _;
      each = λ i b h p. let said : b ≡ eqb c.args.k i = search (rules, tests) in said ∙ only_at _ _ i h;
    })
