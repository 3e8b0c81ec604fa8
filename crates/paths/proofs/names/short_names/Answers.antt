-- The names of a full path are the pieces behind its first slash.
use Rattle.std.proofs.Common.{rules, tests, arith, ◌∙◌, ap, sym, length, drop, length-drop}
use Rattle.std.specs.Prelude.{◌-◌}
use lib.Dec.{eqb, leb}
use lib.Seq.{take_all}
use Rattle.std.proofs.lemmas.Iterator.Search.{all_from_yields_List}
use Rattle.std.proofs.lemmas.Iterator.Splits.{YieldsList-from_slice_split}
use Rattle.rules.specs.Size.{longest_name}
use Rattle.rules.specs.Path.{short_names}
use Rattle.rules.proofs.PathLaws.{full_slash}
use Rattle.paths.proofs.PieceLaws.{pieces_split, all_short, short-full}
use Rattle.paths.proofs.names.short_names.Goals as goal

pub slice_bounds-split-count : goal.slice_bounds-split-count
slice_bounds-split-count c = omega (arith, ap length (full_slash _ c.requires))

pub slice_bounds-split-start : goal.slice_bounds-split-start
slice_bounds-split-start c = omega (arith, ap length (full_slash _ c.requires))

pub returns : goal.returns
returns c =
    let s = c.args.s.now in
    let rest = c.split.ensures.rest ∙ take_all (length s - 1) (drop 1 s) (omega (arith, length-drop 1 s)) in
    let all = all_from_yields_List (λ n. leb (length n) longest_name) _ _ c.all.result c.all.ensures.ran
    (YieldsList-from_slice_split _ (λ b. eqb b 47) (drop 1 s) rest c.split.ensures.done c.split.ensures.closure (λ x b q k. search (rules, tests)))
    (λ x b q k. search (rules, tests)) in
    all ∙ all_short _ ∙ ap short_names (pieces_split (drop 1 s)) ∙ sym (short-full s c.requires)
