-- A place whose first byte is below 128 is free, and those before it are not.
use mathlib.Core.Path.{◌≡◌, ◌∙◌}
use native.Mathlib.Omega.{arith}
use Rattle.octets.proofs.PlaceLaws.{place-begins, searched_none, searched_more, found_free, none_free}
use Rattle.octets.proofs.places.lowest_free.Goals as goal

pub loop-i-init : goal.loop-i-init
loop-i-init c = searched_none _ _ _

pub overflow_mul-i : goal.overflow_mul-i
overflow_mul-i c =
    let pre = c.requires in
    omega (arith, place-begins _ _ _ _ c.loop-i-test.true pre.0 pre.1)

pub bounds-s-i : goal.bounds-s-i
bounds-s-i c =
    let pre = c.requires in
    place-begins _ _ _ _ c.loop-i-test.true pre.0 pre.1

pub returns-then-s-i-lt128 : goal.returns-then-s-i-lt128
returns-then-s-i-lt128 c =
    record {
      found = found_free _ _ _ _ c.requires.0 c.loop-i.invariant c.loop-i-test.true c.if-s-i-lt128.true;
      below = c.loop-i-test.true;
    }

pub loop-i-preserved : goal.loop-i-preserved
loop-i-preserved c =
    searched_more _ _ _ _ c.requires.0 c.loop-i.invariant c.loop-i-test.true c.if-s-i-lt128.false

pub returns : goal.returns
returns c =
    let all : c.args.count ≡ c.loop-i.i = omega arith in
    record {
      found = all ∙ none_free _ _ _ c.loop-i.i c.requires.0 c.loop-i.invariant c.loop-i-test.false;
      below = tt;
    }
