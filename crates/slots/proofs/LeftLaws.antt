-- What is left of a path's text from a place on.
use mathlib.Core.Path.{◌≡◌}
use mathlib.Core.List.{[]}
use Prim.Native.Nat.{ℕ, ◌≤◌, ◌<◌}
use lib.ListN.{length, drop}
use borrow.Author.Tests.{le-leb, lt-leb}
use Rattle.rules.specs.Octets.{Octets}
use Rattle.rules.specs.Path.{split}
use Rattle.slots.specs.Left.{left_at}

pub left_over : (p : Octets) (at : ℕ) → length p ≤ at → left_at p at ≡ []
unfolding left_at
left_over p at h = rw (le-leb (length p) at h)

pub left_below : (p : Octets) (at : ℕ) → at < length p → left_at p at ≡ split (drop at p)
unfolding left_at
left_below p at h = rw (lt-leb (length p) at h)
