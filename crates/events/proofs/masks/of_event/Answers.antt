-- Each bit is what the place's test says.
use mathlib.Core.Path.{◌≡◌, ◌∙◌}
use mathlib.Core.Option.{none}
use lib.ListN.{get_or}
use Rattle.std.proofs.Common.{rules, tests}
use Rattle.rules.specs.Event.{is_event}
use Rattle.rules.specs.Layout.{watches_of}
use Rattle.domains.specs.Entry.{passes}
use Rattle.events.specs.Stores.{event_name}
use Rattle.events.proofs.MaskLaws.{mask-long, mask_at}
use Rattle.events.proofs.masks.of_event.Goals as goal

pub returns : goal.returns
returns c =
    let ws = watches_of c.args.watches.now in
    let test = is_event (event_name c.args.released) in
    c.mask_where.ensures _
    (record {
      long = mask-long _ _;
      each = λ k b h p. let said : b ≡ passes test (get_or ws k none) = search (rules, tests) in said ∙ mask_at test ws k;
    })
