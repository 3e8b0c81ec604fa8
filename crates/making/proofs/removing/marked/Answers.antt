-- Each mark is what a call at its place gave.
use borrow.Author.Rules.{rules}
use borrow.Author.Tests.{tests}
use mathlib.Core.Bool.{false}
use Rattle.rules.specs.Layout.{table_of}
use Rattle.rules.specs.Node.{within}
use Rattle.rules.specs.Size.{slots, deepest}
use Rattle.slots.proofs.Made.{made_by}
use mathlib.Core.Path.{◌≡◌}
use Rattle.making.proofs.removing.marked.Goals as goal

pub returns : goal.returns
returns c =
    let made = c.from_fn.ensures.items in
    let args = c.args in
    record {
      long = made.long;
      right = made_by (λ j marked. marked ≡ within deepest (table_of args.t.now) args.i j) (λ i y q k. search (rules, tests)) c.from_fn.result false slots made;
    }
