-- A depth is 255 at most, so its byte is the depth.
use native.Mathlib.Omega.{arith}
use Prim.Native.Nat.{◌%◌}
use mathlib.Core.Option.{some}
use mathlib.Core.Path.{◌≡◌, sym, ap, subst, ◌∙◌}
use Rattle.octets.specs.Options.{meant}
use Rattle.domains.specs.Entry.{entry_or}
use Rattle.payload.specs.Meaning.{DepthSound}
use Rattle.requests.proofs.place.depth_of.Goals as goal

pub returns-in_err-k : goal.returns-in_err-k
unfolding entry_or
returns-in_err-k c = rw c.from_residual.ensures (sym (ap meant c.in_err-k.was), omega arith)

pub returns : goal.returns
unfolding entry_or
returns c =
    let b = subst DepthSound c.in_ok-k.was c.requires in
    let e : c.in_ok-k.k % 256 ≡ c.in_ok-k.k = omega (arith, b) in
    (ap some e ∙ sym (ap meant c.in_ok-k.was), omega arith)
