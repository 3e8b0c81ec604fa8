-- The text of a full path, put together from its parts.
use mathlib.Core.Path.{◌≡◌, refl, ap, ◌∙◌}
use mathlib.Core.List.{[], ◌∷◌, ◌++◌, append_assoc, append-nil}
use Prim.Native.Nat.{ℕ, ◌+◌, ◌≤◌, ◌<◌}
use native.Mathlib.Omega.{arith}
use lib.ListN.{length, set, length-append}
use Rattle.rules.specs.Octets.{Octets, text, decimal, paste}
use Rattle.rules.specs.Path.{Names, absolute, relative, given, base, slashed, path_text}
use Rattle.rules.proofs.RelativeLaws.{relative-text, relative-given}
use Rattle.rules.proofs.Joined.{paste-behind, set-paste}
use Rattle.octets.specs.Numbers.{Put}
use Rattle.paths.specs.Full.{base_text}

unfoldable pub front : Octets
front = text "/local/domain/"

base-parts : (d : ℕ) → base_text d ≡ (front ++ decimal d) ++ 47 ∷ []
unfolding base_text base slashed front text
base-parts d = ap (λ (t : Octets). (front ++ t) ++ 47 ∷ []) (append-nil (decimal d))

-- the buffer with the front, with the number behind it, and with the slash and the path
pub full_put : (d : ℕ) (s l l₁ l₂ l₃ : Octets) (at : ℕ) → length s + 35 ≤ length l → l₁ ≡ paste 0 front l → Put 14 (decimal d) l₁ l₂ at
    → at < length l₂ → l₃ ≡ paste (at + 1) s (set l₂ at 47) → Put 0 (base_text d ++ s) l l₃ (at + 1 + length s)
unfolding front text
full_put d s l l₁ l₂ l₃ at h p q k r =
    let e : at ≡ 0 + length (front ++ decimal d) = omega (arith, q.behind, length-append front (decimal d)) in
    let m : at + 1 ≡ 0 + length (base_text d) = rw (base-parts d, length-append) (omega arith) in
    let a : l₂ ≡ paste 0 (front ++ decimal d) l = q.bytes ∙ rw p (paste-behind 0 14 front (decimal d) l (omega arith) refl) in
    let b : set l₂ at 47 ≡ paste 0 (base_text d) l =
    set-paste l₂ at 47 k
    ∙ rw (a, base-parts d) (paste-behind 0 at (front ++ decimal d) (47 ∷ []) l (omega arith) e) in
    record { bytes = r ∙ rw b (paste-behind 0 (at + 1) (base_text d) s l (omega arith) m); behind = rw length-append (omega arith) }

-- ── what it means ──

base-before : (d : ℕ) (s : Octets) → base_text d ++ s ≡ slashed (base d) ++ 47 ∷ s
unfolding base_text
base-before d s = append_assoc (slashed (base d)) (47 ∷ []) s

module _ (d : ℕ) (s : Octets) (ns : Names) (h : given s ≡ relative ns) where
  pub full-text : base_text d ++ s ≡ path_text (base d ++ ns)
  full-text = base-before d s ∙ relative-text d s ns h

  pub full-given : given (base_text d ++ s) ≡ absolute (base d ++ ns)
  full-given = ap given (base-before d s) ∙ relative-given d s ns h
