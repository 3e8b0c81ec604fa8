-- A path lies below a base where the base's text and a slash begin it.
use mathlib.Core.Path.{sym, ap, ◌∙◌}
use lib.Seq.{length-take-le}
use Rattle.rules.specs.Octets.{Octets, begins}
use Rattle.watches.proofs.Good.{put_within, put_base, base-below}
use Rattle.watches.proofs.checks.below_base.Goals as goal

pub slice_bounds-above-end : goal.slice_bounds-above-end
slice_bounds-above-end c =
    put_within c.args.d _ _ _ c.full-n.ensures

pub slice_bounds-begins-end : goal.slice_bounds-begins-end
slice_bounds-begins-end c =
    sym (length-take-le _ _ (put_within c.args.d _ _ _ c.full-n.ensures))

pub returns : goal.returns
returns c =
    let d = c.args.d in
    let x = c.args.x.now in
    c.begins.ensures ∙ ap (λ (l : Octets). begins l x) (put_base d _ _ _ c.full-n.ensures) ∙ base-below d x c.requires
