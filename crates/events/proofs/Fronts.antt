-- The front of a buffer, up to the place behind what was put in.
use mathlib.Core.Path.{◌≡◌, sym, ap, ◌∙◌}
use mathlib.Core.List.{◌++◌, append_assoc}
use Prim.Native.Nat.{ℕ, ◌+◌, ◌≤◌}
use native.Mathlib.Omega.{arith}
use lib.ListN.{length, take, drop, length-append}
use lib.Seq.{take_at, length-take-le}
use Rattle.rules.specs.Octets.{Octets, paste}
use Rattle.rules.proofs.Paste.{length-paste}
use Rattle.octets.specs.Numbers.{Put}

module _ (at : ℕ) (ys before after : Octets) (n : ℕ) (p : Put at ys before after n) (h : at + length ys ≤ length before) where
  pub front_is : take n after ≡ take at before ++ ys
  unfolding paste
  front_is =
      let front = take at before in
      let rest = drop (at + length ys) before in
      let e : length (front ++ ys) ≡ n = omega (arith, length-append front ys, length-take-le at before (omega arith), p.behind) in
      ap (take n) (p.bytes ∙ sym (append_assoc front ys rest)) ∙ take_at (front ++ ys) rest n e

  pub front_within : n ≤ length after
  front_within =
      let e : length after ≡ length before = ap length p.bytes ∙ length-paste at ys before h in
      omega (arith, p.behind)

  pub front_long : n ≡ length (take n after)
  front_long = sym (length-take-le n after front_within)

  pub front_short : (k : ℕ) → at + length ys ≤ k → length (take n after) ≤ k
  front_short k l = omega (arith, front_long, p.behind)
