-- A depth that is given is compared, and one that is not lets all through.
use Rattle.std.specs.Prelude.{◌≡◌, MatchOption, IsTrue}
use Rattle.std.proofs.Common.{rules, tests}
use lib.Dec.{leb}
use Rattle.events.proofs.HearingLaws.{depth-levels}
use Rattle.events.proofs.hearing.deep_enough.Goals as goal

pub returns : goal.returns
returns c =
    let own : MatchOption c.args.depth (IsTrue c.is_none_or.result) (λ k. c.is_none_or.result ≡ leb c.args.levels k) = search (rules, tests) in
    depth-levels _ _ _ own
