-- A payload behind the reply's header.
use mathlib.Core.Path.{◌≡◌, ap}
use Prim.Native.Nat.{◌+◌, ◌≤◌}
use native.Mathlib.Omega.{arith}
use lib.ListN.{length, length-append}
use lib.Seq.{length-take-le}
use Rattle.rules.specs.Size.{header_size}
use Rattle.rules.specs.Octets.{Octets, paste}

-- a payload that stands in a reply of that length is no longer than what is behind its header
pub payload-fits : (s before after : Octets) → after ≡ paste header_size s before → length after ≡ length before → header_size ≤ length before →
    header_size + length s ≤ length before
unfolding paste
payload-fits s before after e l h =
    omega (arith, simp length-append at (ap length e), length-take-le header_size before h)
