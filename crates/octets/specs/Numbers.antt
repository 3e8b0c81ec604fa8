-- What the answers of this crate mean.
use Rattle.std.specs.Prelude.{Result, Ok, Err, Bool, cond, ◌&&◌, ◌≡◌, ℕ, ◌+◌, ◌^◌, leb, ltb, length, take, drop}
use Rattle.std.proofs.Math.Option.{Option, none, some}
use Rattle.rules.specs.Octets.{Octets, all_zero, paste, plain_form, value_from}
use Rattle.octets.specs.declared.DecimalError.{DecimalError}
use Rattle.octets.specs.declared.DecimalError.TheVariants.{Malformed, TooLarge}

-- n, if it is from low to high
abbrev pub within : ℕ → ℕ → ℕ → Option ℕ
within low high n = cond (leb low n && leb n high) (some n) none

-- a plain decimal below 2 ^ 64 has its value
unfoldable pub decimal_of : Octets → Result ℕ DecimalError
decimal_of s = cond (plain_form s) (cond (ltb (value_from 0 s) (2 ^ 64)) (Ok (value_from 0 s)) (Err TooLarge)) (Err Malformed)

-- ys stand in the buffer from `at` on, and `next` is the place behind them
pub record Put (at : ℕ) (ys before after : Octets) (next : ℕ) : Type 0 where
  pub bytes : after ≡ paste at ys before
  pub behind : next ≡ at + length ys

-- what stands behind n of the `size` bytes from `at` on is zero
abbrev pub rest_zero : Octets → ℕ → ℕ → ℕ → Bool
rest_zero s at n size = all_zero (drop n (take size (drop at s)))
