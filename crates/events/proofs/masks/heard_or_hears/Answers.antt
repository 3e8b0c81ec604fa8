-- Each bit is what the number's bit and the store say.
use mathlib.Core.Path.{◌≡◌, ◌∙◌}
use mathlib.Core.Bool.{◌||◌}
use mathlib.Core.Option.{none}
use lib.ListN.{get_or}
use Rattle.std.proofs.Common.{rules, tests}
use Rattle.rules.specs.Event.{hears}
use Rattle.rules.specs.Layout.{table_of, watches_of}
use Rattle.domains.specs.Entry.{passes}
use Rattle.events.specs.Records.{number_bit}
use Rattle.events.specs.Stores.{happened}
use Rattle.events.proofs.MaskLaws.{mask-long}
use Rattle.events.proofs.EitherLaws.{either-bit}
use Rattle.events.proofs.masks.heard_or_hears.Goals as goal

pub returns : goal.returns
returns c =
    let args = c.args in
    let s = args.watches.now in
    let t = table_of args.t.now in
    let test = hears t t (happened args.removed args.path.now) in
    λ f m.
    c.mask_where.ensures _
    (record {
      long = mask-long _ _;
      each = λ k b h p.
          let said : b ≡ (number_bit args.heard k || passes test (get_or (watches_of s) k none)) = search (rules, tests) in
          said ∙ either-bit f test s args.heard m k h;
    })
