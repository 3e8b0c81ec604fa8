-- The text is a slash and the domain's decimal, and the mask that of the watches on the event's name.
use mathlib.Core.Path.{sym}
use native.Mathlib.Omega.{arith}
use Rattle.rules.specs.Event.{heard_of}
use Rattle.rules.proofs.Decimals.{length-decimal_le}
use Rattle.events.proofs.Fronts.{front_is, front_within, front_long}
use Rattle.events.proofs.domain_events.of_domain.Goals as goal

pub slice_bounds-text-end : goal.slice_bounds-text-end
slice_bounds-text-end c =
    front_within 1 _ _ _ _ c.put_decimal-end.ensures (omega (arith, length-decimal_le c.args.d))

pub slice_bounds-keep-end : goal.slice_bounds-keep-end
slice_bounds-keep-end c =
    front_long 1 _ _ _ _ c.put_decimal-end.ensures (omega (arith, length-decimal_le c.args.d))

pub returns : goal.returns
unfolding heard_of
returns c =
    let text = front_is 1 _ _ _ _ c.put_decimal-end.ensures (omega (arith, length-decimal_le c.args.d)) in
    rw (sym text) (c.keep.ensures _ c.of_event.ensures)
