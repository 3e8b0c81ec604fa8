-- After k turns the texts of the first k entries stand one behind the other; there are four at most and each is short, so there is room.
use mathlib.Core.Path.{◌∙◌}
use native.Mathlib.Omega.{arith}
use Rattle.slots.proofs.Canonical.{sound_canonical}
use Rattle.lookup.proofs.RightsLaws.{count_is, few}
use Rattle.lookup.proofs.ListingLaws.{none_written, entry-fits, written-room, one_more}
use Rattle.lookup.proofs.listing.put_entries.Goals as goal

pub entry_count-count-requires : goal.entry_count-count-requires
entry_count-count-requires c = (c.requires.0.below, (sound_canonical _ c.requires.0.sound).whole)

pub loop-k-init : goal.loop-k-init
loop-k-init c =
    let args = c.args in (
      c.entry_count-count.ensures ∙ count_is args.t.now args.i c.requires.0,
      none_written args.t.now args.i c.requires.0 args.at args.into.now c.requires.1,
    )

pub entry_at-e-requires : goal.entry_at-e-requires
entry_at-e-requires c =
    (c.requires.0.below, (sound_canonical _ c.requires.0.sound).whole, omega (arith, few c.args.t.now c.args.i c.requires.0))

pub put_entry-to-requires : goal.put_entry-to-requires
put_entry-to-requires c =
    let args = c.args in
    let loop = c.loop-k in
    let e = c.entry_at-e.ensures in
    let f = entry-fits args.t.now args.i c.requires.0 args.at args.into.now c.requires.1 loop.k loop.into loop.to
    loop.invariant.1 (omega arith) in
    let r = written-room args.t.now args.i c.requires.0 args.at args.into.now c.requires.1 loop.k loop.into loop.to
    loop.invariant.1 (omega arith) in
    let n = few args.t.now args.i c.requires.0 in
    (omega arith, omega arith, omega (arith, loop.invariant.1.short))

pub loop-k-preserved : goal.loop-k-preserved
loop-k-preserved c =
    let args = c.args in
    let loop = c.loop-k in
    let e = c.entry_at-e in (
      loop.invariant.0,
      one_more args.t.now args.i c.requires.0 args.at args.into.now c.requires.1 loop.k
          loop.into loop.to loop.invariant.1 (omega arith) e.result.access e.result.domain e.ensures.0 e.ensures.1
          c.put_entry-to.new.into c.put_entry-to.result c.put_entry-to.ensures,
    )
