-- A name ends where the text from its beginning on has its first slash.
use Rattle.std.proofs.Common.{rules, tests, ◌≡◌, ◌∙◌, length, drop, length-drop, arith}
use Rattle.std.specs.Prelude.{position, ◌-◌}
use lib.Dec.{eqb}
use lib.Seq.{take_all}
use Rattle.std.proofs.lemmas.Iterator.{YieldsList-from_slice}
use Rattle.std.proofs.lemmas.Iterator.Search.{position_from_yields_List}
use Rattle.paths.proofs.PieceLaws.{end_found, end_missing}
use Rattle.paths.proofs.names.name_end.Goals as goal
use Rattle.paths.proofs.names.name_end.Goals.{After-position}

found : (c : After-position) → c.position.result ≡ position (λ b. eqb b 47) (drop c.args.at c.args.s.now)
found c =
    let rest = c.iter.ensures.rest
    ∙ take_all (length c.args.s.now - c.args.at) (drop c.args.at c.args.s.now) (omega (arith, length-drop c.args.at c.args.s.now)) in
    position_from_yields_List (λ b. eqb b 47) _ _ c.position.result c.position.ensures.ran (YieldsList-from_slice _ rest) (λ x b q k. search (rules, tests))

pub returns-in-Some : goal.returns-in-Some
returns-in-Some c = end_found _ _ _ (found (goal.at.returns-in-Some c).After-position) _ c.in-Some.is

pub returns-in-None : goal.returns-in-None
returns-in-None c = end_missing _ _ _ (found (goal.at.returns-in-None c).After-position) c.requires c.in-None.is
