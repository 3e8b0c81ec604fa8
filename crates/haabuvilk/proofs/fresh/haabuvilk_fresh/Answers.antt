-- Tables of the right sizes become the root alone and zeros, which are the fresh store; a wrong size alters nothing.
use mathlib.Core.Path.{◌≡◌, sym, ◌∙◌}
use mathlib.Core.Bool.{true}
use Rattle.rules.specs.Call.{Tables, sized_tables}
use Rattle.replies.specs.Does.{tables}
use Rattle.haabuvilk.proofs.FreshLaws.{tables-sized, fresh_refused, fresh_done}
use Rattle.haabuvilk.proofs.fresh.haabuvilk_fresh.Goals as goal
use Rattle.haabuvilk.proofs.fresh.haabuvilk_fresh.Goals.{Else-not-sized_tables}

pub returns-then-not-sized_tables : goal.returns-then-not-sized_tables
returns-then-not-sized_tables c = rw c.number.ensures (fresh_refused _ (sym c.sized_tables.ensures ∙ c.if-not-sized_tables.true))

abbrev its-tables : Else-not-sized_tables → Tables
its-tables c =
    let args = c.args in
    tables args.nodes.now args.copies.now args.watches.now args.transactions.now args.domains.now

sized : (c : Else-not-sized_tables) → sized_tables (its-tables c) ≡ true
sized c = sym c.sized_tables.ensures ∙ c.if-not-sized_tables.false

pub root_only-requires : goal.root_only-requires
root_only-requires c =
    let places = goal.at.root_only-requires c in
    (tables-sized (its-tables places.Else-not-sized_tables) (sized places.Else-not-sized_tables)).nodes

pub returns : goal.returns
returns c =
    let places = goal.at.returns c in
    fresh_done (its-tables places.Else-not-sized_tables) (sized places.Else-not-sized_tables) c.root_only.ensures c.empty.ensures c.empty-2.ensures
    c.empty-3.ensures c.empty-4.ensures
