-- The slots that are not used are counted.
use mathlib.Core.Path.{refl, ◌∙◌}
use mathlib.Core.Bool.{not}
use mathlib.Core.Option.{none}
use lib.ListN.{get_or}
use borrow.Author.Rules.{rules}
use borrow.Author.Tests.{tests}
use Rattle.std.proofs.lemmas.Iterator.{YieldsList-from_range}
use Rattle.std.proofs.lemmas.Iterator.Consumers.{count_from_yields_List, YieldsList-from_filter}
use Rattle.rules.specs.Size.{slots}
use Rattle.rules.specs.Layout.{table_of}
use Rattle.rules.proofs.Slots.{length-table_of}
use Rattle.slots.specs.Slot.{is_used}
use Rattle.making.proofs.FreeSlots.{free_counted}
use Rattle.making.proofs.free.free_count.Goals as goal

pub returns : goal.returns
returns c =
    let t = c.args.t.now in
    count_from_yields_List c.filter.result c.count.result c.count.ensures.ran
    (YieldsList-from_filter _ (λ j. not (is_used (get_or (table_of t) j none))) (YieldsList-from_range 0 slots slots c.filter.ensures.source refl)
    c.filter.ensures.closure (λ x b q k. search (rules, tests)))
    ∙ free_counted (table_of t) (length-table_of t)
