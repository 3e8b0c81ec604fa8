-- No later entry before k names the domain, so those from k on decide.
use mathlib.Core.Path.{refl, sym, ◌∙◌}
use native.Mathlib.Omega.{arith}
use Rattle.rules.specs.Node.{node_at}
use Rattle.rules.specs.Layout.{table_of}
use Rattle.slots.proofs.Canonical.{sound_canonical}
use Rattle.lookup.proofs.RightsLaws.{named_none, count_is, few, named_by, not_named_by}
use Rattle.lookup.proofs.rights.named.Goals as goal

pub entry_count-count-requires : goal.entry_count-count-requires
entry_count-count-requires c = (c.requires.below, (sound_canonical _ c.requires.sound).whole)

pub loop-k-init : goal.loop-k-init
loop-k-init c =
    let n = count_is c.args.t.now c.args.i c.requires in
    (omega arith, c.entry_count-count.ensures ∙ n, refl)

pub entry_at-e-requires : goal.entry_at-e-requires
entry_at-e-requires c =
    (c.requires.below, (sound_canonical _ c.requires.sound).whole, omega (arith, few c.args.t.now c.args.i c.requires))

pub returns-then-e-domain : goal.returns-then-e-domain
returns-then-e-domain c =
    let args = c.args in
    let loop = c.loop-k in
    let e = c.entry_at-e in
    sym (loop.invariant.2 ∙ named_by args.t.now args.i c.requires args.domain args.first loop.k loop.invariant.0 (omega arith)
    e.result.access e.result.domain e.ensures.0 e.ensures.1 c.if-e-domain.true)

pub loop-k-preserved : goal.loop-k-preserved
loop-k-preserved c =
    let args = c.args in
    let loop = c.loop-k in
    let e = c.entry_at-e in (
      omega arith,
      loop.invariant.1,
      loop.invariant.2 ∙ not_named_by args.t.now args.i c.requires args.domain args.first loop.k loop.invariant.0 (omega arith)
          e.result.domain e.ensures.1 c.if-e-domain.false,
    )

pub returns : goal.returns
returns c =
    let args = c.args in
    let loop = c.loop-k in
    sym (loop.invariant.2 ∙ named_none args.domain args.first (node_at (table_of args.t.now) args.i).others loop.k
    loop.invariant.0 (omega arith))
