-- The two tests are those of the sizes: depth and names.
use mathlib.Core.Path.{◌∙◌}
use Rattle.paths.proofs.PieceLaws.{fits-deep, fits-short}
use Rattle.paths.proofs.names.fits.Goals as goal

pub returns-then-depth-le-DEEPEST : goal.returns-then-depth-le-DEEPEST
returns-then-depth-le-DEEPEST c = c.short_names.ensures ∙ fits-short _ _ c.depth.ensures c.if-depth-le-DEEPEST.true

pub returns-else-depth-le-DEEPEST : goal.returns-else-depth-le-DEEPEST
returns-else-depth-le-DEEPEST c = fits-deep _ _ c.depth.ensures c.if-depth-le-DEEPEST.false
