-- All paths are below the root; of any other a path is itself, below it by the names behind its text and a slash, or neither.
use mathlib.Core.Path.{sym, ◌∙◌}
use native.Mathlib.Omega.{arith}
use Rattle.paths.proofs.RelationLaws.{levels-root, levels-same, longer, rest-full, levels-reach, levels_not}
use Rattle.paths.proofs.relation.beyond.Goals as goal

pub returns-then-same : goal.returns-then-same
returns-then-same c =
    levels-root _ _ c.requires.0 c.requires.1 _ (sym c.same.ensures ∙ c.if-same.true) c.depth.ensures

pub returns-then-same-2 : goal.returns-then-same-2
returns-then-same-2 c =
    levels-same _ _ c.requires.0 c.requires.1 (sym c.same-2.ensures ∙ c.if-same-2.true)

pub slice_bounds-depth-count : goal.slice_bounds-depth-count
slice_bounds-depth-count c =
    omega (
      arith,
      longer _ _ c.requires.0 c.requires.1 (sym c.same.ensures ∙ c.if-same.false) (sym c.reaches.ensures ∙ c.if-reaches.true),
    )

pub slice_bounds-depth-start : goal.slice_bounds-depth-start
slice_bounds-depth-start c =
    omega (
      arith,
      longer _ _ c.requires.0 c.requires.1 (sym c.same.ensures ∙ c.if-same.false) (sym c.reaches.ensures ∙ c.if-reaches.true),
    )

pub depth-requires-then-reaches : goal.depth-requires-then-reaches
depth-requires-then-reaches c =
    rest-full _ _ c.requires.0 c.requires.1 (sym c.same.ensures ∙ c.if-same.false)
    (sym c.reaches.ensures ∙ c.if-reaches.true)

pub returns-then-reaches : goal.returns-then-reaches
returns-then-reaches c =
    levels-reach _ _ c.requires.0 c.requires.1 (sym c.same.ensures ∙ c.if-same.false)
    (sym c.reaches.ensures ∙ c.if-reaches.true) _ c.depth-then-reaches.ensures

pub returns : goal.returns
returns c =
    levels_not _ _ c.requires.0 c.requires.1 (sym c.same.ensures ∙ c.if-same.false)
    (sym c.same-2.ensures ∙ c.if-same-2.false) (sym c.reaches.ensures ∙ c.if-reaches.false)
