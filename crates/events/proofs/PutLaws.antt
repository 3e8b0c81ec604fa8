-- An event message, put together from its parts.
use mathlib.Core.Path.{◌≡◌, refl, ap, ◌∙◌}
use mathlib.Core.List.{◌++◌, append_assoc}
use Prim.Native.Nat.{ℕ, ◌+◌, ◌≤◌, ◌<◌}
use native.Mathlib.Omega.{arith}
use lib.ListN.{length, set, length-append}
use Rattle.rules.specs.Size.{header_size}
use Rattle.rules.specs.Octets.{Octets, nul, paste, four_bytes}
use Rattle.rules.specs.Message.{event_message}
use Rattle.rules.proofs.Joined as Joined
use Rattle.rules.proofs.Joined.{paste-behind, set-paste}
use Rattle.rules.proofs.Paste.{length-paste}
use Rattle.octets.specs.Numbers.{Put}
use Rattle.events.specs.Messages.{header}

pub header_put : (n : ℕ) (l l₁ l₂ l₃ l₄ : Octets) → l₁ ≡ paste 0 (four_bytes 15) l → l₂ ≡ paste 4 (four_bytes 0) l₁
    → l₃ ≡ paste 8 (four_bytes 0) l₂ → l₄ ≡ paste 12 (four_bytes n) l₃ → l₄ ≡ paste 0 (header n) l
unfolding header four_bytes paste
header_put n l l₁ l₂ l₃ l₄ p q r s =
    let h : 4 ≤ length l₁ = rw p (omega arith) in
    let ids : l₃ ≡ paste 4 (four_bytes 0 ++ four_bytes 0) l₁ = r ∙ rw q (paste-behind 4 8 (four_bytes 0) (four_bytes 0) l₁ h refl) in
    Joined.header_put 15 (four_bytes 0 ++ four_bytes 0) n refl l l₁ l₃ l₄ p ids s

pub string_put : (at : ℕ) (s l l₁ : Octets) → at + length s < length l → l₁ ≡ paste at s l
    → Put at (s ++ nul) l (set l₁ (at + length s) 0) (at + length s + 1)
string_put at s l l₁ h p =
    let k : length l₁ ≡ length l = ap length p ∙ length-paste at s l (omega arith) in
    record {
      bytes = set-paste l₁ (at + length s) 0 (omega arith) ∙ rw p (paste-behind at (at + length s) s nul l (omega arith) refl);
      behind = rw length-append (omega arith);
    }

header-length : (n : ℕ) → length (header n) ≡ header_size
unfolding header four_bytes
header-length n = Joined.header-length 15 (four_bytes 0 ++ four_bytes 0) n refl

parts : (p t : Octets) (n : ℕ) → n ≡ length (p ++ (nul ++ (t ++ nul))) → header n ++ ((p ++ nul) ++ (t ++ nul)) ≡ event_message p t
unfolding header event_message four_bytes
parts p t n e = rw (append_assoc p nul (t ++ nul), e) refl

-- a header, a path with its nul and a token with its nul, one behind the other
module _ (p t l l₁ l₂ l₃ : Octets) (at end : ℕ) (h : l₁ ≡ paste 0 (header (length p + length t + 2)) l) (q : Put header_size (p ++ nul) l₁ l₂ at) where
  pub string-behind : at ≡ header_size + 1 + length p
  string-behind = omega (arith, q.behind, length-append p nul)

  module _ (r : Put at (t ++ nul) l₂ l₃ end) where
    pub message-behind : end ≡ header_size + 2 + length p + length t
    message-behind = omega (arith, r.behind, length-append t nul, string-behind)

    payload : length p + length t + 2 ≡ length (p ++ (nul ++ (t ++ nul)))
    payload = omega (arith, length-append p (nul ++ (t ++ nul)), length-append nul (t ++ nul), length-append t nul)

    pub message_put : Put 0 (event_message p t) l l₃ end
    message_put =
        let n = length p + length t + 2 in
        let z : 0 ≤ length l = omega arith in
        let first = header n ++ (p ++ nul) in
        let i : at ≡ 0 + length first = rw (length-append, header-length n, length-append) (omega (arith, string-behind)) in
        let a : l₂ ≡ paste 0 first l =
        q.bytes ∙ rw h (paste-behind 0 header_size (header n) (p ++ nul) l z (omega (arith, header-length n))) in
        let b : l₃ ≡ paste 0 (first ++ (t ++ nul)) l = r.bytes ∙ rw a (paste-behind 0 at first (t ++ nul) l z i) in
        let e : first ++ (t ++ nul) ≡ event_message p t = append_assoc (header n) (p ++ nul) (t ++ nul) ∙ parts p t n payload in
        record { bytes = b ∙ rw e refl; behind = rw (← e, length-append) (omega (arith, i, length-append t nul, message-behind)) }

pub message-told : {p q t u l m : Octets} {n : ℕ} → p ≡ q → t ≡ u → Put 0 (event_message p t) l m n → Put 0 (event_message q u) l m n
message-told i j h = rw (← i, ← j) h
