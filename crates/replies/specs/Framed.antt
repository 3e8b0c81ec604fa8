-- What a reply's bytes are.
use Rattle.std.specs.Prelude.{Ok, Err, ◌≡◌, ◌++◌, ℕ, ◌+◌, ◌≤◌, length, take, drop}
use Rattle.std.proofs.Math.Option.{some}
use Rattle.rules.specs.Size.{header_size, reply_size}
use Rattle.rules.specs.Octets.{Octets, nul, paste, four_bytes}
use Rattle.rules.specs.Answer as A
use Rattle.rules.specs.Answer.{done, refused, errno_text}
use Rattle.rules.specs.Call.{reply_to}
use Rattle.replies.specs.Meant.{Reply, refusal_meant}

-- a payload behind the header, and its length
pub record Written (s before after : Octets) (n : ℕ) : Type 0 where
  pub bytes : after ≡ paste header_size s before
  pub long : n ≡ length s

unfoldable pub header : ℕ → Octets → ℕ → Octets
header type m n = four_bytes type ++ (take 8 (drop 4 m) ++ four_bytes n)

-- a payload that the reply has room for
abbrev pub Held : Reply → Type 0
Held (Ok n) = header_size + n ≤ reply_size
Held (Err e) = Unit {0}

-- the payload stands behind the header; where the reply is an error, its name goes over what stands there
abbrev pub Told : A.Reply → Reply → Octets → Octets → Type 0
Told (done s) r before after = (r ≡ Ok (length s)) × (after ≡ paste header_size s before)
Told (refused e) r before after =
    (refusal_meant r ≡ some e) × (paste header_size (errno_text e ++ nul) after ≡ paste header_size (errno_text e ++ nul) before)

-- the whole reply to m, whichever reply it is that r tells
abbrev pub Framed : Octets → Reply → Octets → Octets → ℕ → Type 0
Framed m r told after l =
    (a : A.Reply) (before : Octets) → length before ≡ reply_size → Told a r before told → (after ≡ paste 0 (reply_to m a) before) × (l ≡ length (reply_to m a))
