-- What the requests about a domain tell.
use mathlib.Core.Path.{◌≡◌, refl, sym, ap, ◌∙◌}
use mathlib.Core.Bool.{true, false}
use mathlib.Core.List.{[], ◌∷◌, ◌++◌, append_assoc, append-nil}
use Prim.Native.Nat.{ℕ, ◌+◌, ◌-◌, ◌≤◌, ◌<◌}
use native.Mathlib.Omega.{arith}
use lib.ListN.{length, set, length-append}
use Rattle.rules.specs.Size.{header_size, reply_size}
use Rattle.rules.specs.Octets.{Octets, text, nul, decimal, paste}
use Rattle.rules.specs.Domain.{Domain}
use Rattle.rules.specs.Path.{base, path_text, slashed}
use Rattle.rules.specs.Answer.{done}
use Rattle.rules.specs.Layout.{Domains}
use Rattle.rules.specs.Sound.{known}
use Rattle.rules.specs.World.{World, introduced_text}
use Rattle.rules.proofs.Joined.{paste-behind, set-paste}
use Rattle.octets.specs.Numbers.{Put}
use Rattle.std.specs.Prelude.{Ok}
use Rattle.replies.specs.Framed.{Told}

-- `T` or `F`, as the domains say
module _ (w : World) (d : Domain) (ds : Domains) (before after : Octets) (e : w.domains ≡ ds) where
  pub told-introduced : known d ds ≡ true → after ≡ paste header_size (84 ∷ 0 ∷ []) before → Told (done (introduced_text w d ++ nul)) (Ok 2) before after
  unfolding introduced_text text
  told-introduced k p = rw (e, k) (refl, p)

  pub told-unknown : known d ds ≡ false → after ≡ paste header_size (70 ∷ 0 ∷ []) before → Told (done (introduced_text w d ++ nul)) (Ok 2) before after
  unfolding introduced_text text
  told-unknown k p = rw (e, k) (refl, p)

-- ── texts that end with a number and a nul ──

-- the nul behind a number that was put behind a text
pub number-ended : (n at end : ℕ) (front before l₁ l₂ : Octets) → at ≡ header_size + length front → length before ≡ reply_size → length front ≤ 100 →
    l₁ ≡ paste header_size front before → Put at (decimal n) l₁ l₂ end → end < length l₂ →
    (end + 1 - 16 ≡ length (front ++ (decimal n ++ nul))) × (set l₂ end 0 ≡ paste header_size (front ++ (decimal n ++ nul)) before)
number-ended n at end front before l₁ l₂ a b f e p h =
    let t : l₂ ≡ paste header_size (front ++ decimal n) before =
    p.bytes ∙ (ap (paste at (decimal n)) e ∙ paste-behind 16 at front (decimal n) before (rw b (omega arith)) a) in
    let k : length (front ++ decimal n) ≡ length front + length (decimal n) = length-append front (decimal n) in
    let z : end ≡ 16 + length (front ++ decimal n) = omega (arith, p.behind, k, a) in
    let j : front ++ (decimal n ++ nul) ≡ (front ++ decimal n) ++ nul = sym (append_assoc front (decimal n) nul) in (
      rw (j, length-append (front ++ decimal n) nul, z) (omega arith),
      set-paste l₂ end 0 h
          ∙ (ap (paste end (0 ∷ [])) t
          ∙ (paste-behind 16 end (front ++ decimal n) (0 ∷ []) before (rw b (omega arith)) z ∙ ap (λ (x : Octets). paste header_size x before) (sym j))),
    )

-- `/local/domain/`
unfoldable pub front : Octets
front = text "/local/domain/"

base-text : (d : Domain) → path_text (base d) ++ nul ≡ front ++ (decimal d ++ nul)
unfolding path_text base slashed front text
base-text d = ap (λ (t : Octets). front ++ (t ++ nul)) (append-nil (decimal d))

-- a domain's base, put behind the header
pub base-told : (d : Domain) (end : ℕ) (before l₁ l₂ : Octets) → length before ≡ reply_size → l₁ ≡ paste header_size front before
    → Put 30 (decimal d) l₁ l₂ end →
    end < length l₂ →
    Told (done (path_text (base d) ++ nul)) (Ok (end + 1 - 16)) before (set l₂ end 0)
unfolding front text
base-told d end before l₁ l₂ b e p h =
    let n = number-ended d 30 end front before l₁ l₂ refl b (omega arith) e p h in
    (ap Ok (n.0 ∙ ap length (sym (base-text d))), n.1 ∙ ap (λ (x : Octets). paste header_size x before) (sym (base-text d)))
