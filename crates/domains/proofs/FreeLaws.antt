-- Places freed one after the other: a turn of the loop, and what it leaves of a table.
use mathlib.Core.Path.{◌≡◌, refl, sym, ap, ◌∙◌}
use mathlib.Core.Bool.{Bool, true, false, cond}
use mathlib.Core.List.{List, [], ◌∷◌, ◌++◌, flat_map}
use mathlib.Core.Option.{Option, none}
use Prim.Native.Nat.{ℕ, ◌+◌, ◌*◌, ◌≤◌, ◌<◌}
use native.Mathlib.Nat.{add-zero}
use native.Mathlib.Omega.{arith}
use lib.ListN.{length, get_or, set, replicate, length-append}
use Rattle.rules.specs.Octets.{Octets, paste}
use Rattle.rules.specs.Entries.{without}
use Rattle.domains.specs.Entry.{passes, dropped_if}
use Rattle.domains.specs.Kept.{Kept}
use Rattle.domains.specs.Freed.{freed_from, Answered, Freed}
use Rattle.domains.proofs.Search.{swept_before}
use Rattle.domains.proofs.Rows.{table, Writable, wrote, wrote_kept, freed, left, dropped_kept, dropped_end}

module _ (size : ℕ) where
  -- a place freed, if the answer is true
  abbrev pub freed_at : Bool → ℕ → Octets → Octets
  freed_at b k s = cond b (paste (k * size) (replicate size 0) s) s

  freed_more : (k : ℕ) (answers : List Bool) (b : Bool) (s : Octets)
      → freed_from size k (answers ++ b ∷ []) s ≡ freed_at b (k + length answers) (freed_from size k answers s)
  freed_more k [] b s = rw add-zero refl
  freed_more k (x ∷ answers) b s =
      let e : k + 1 + length answers ≡ k + length (x ∷ answers) = omega arith in
      freed_more (k + 1) answers b (freed_at x k s) ∙ ap (λ j. freed_at b j (freed_from size k (x ∷ answers) s)) e

  module _ (says : Octets → ℕ → Bool → Type 0) where
    answered_more : (k : ℕ) (answers : List Bool) (b : Bool) (s : Octets) → Answered size says k answers s
        → says (freed_from size k answers s) (k + length answers) b → Answered size says k (answers ++ b ∷ []) s
    answered_more k [] b s a h = (rw add-zero at h, tt)
    answered_more k (x ∷ answers) b s a h =
        let e : k + length (x ∷ answers) ≡ k + 1 + length answers = omega arith in
        (a.0, answered_more (k + 1) answers b (freed_at x k s) a.1 (rw e at h))

    pub freed_next : (k : ℕ) (s t : Octets) → Freed size says k s t → (b : Bool) → says t k b → (r : Octets) → r ≡ freed_at b k t
        → Freed size says (k + 1) s r
    freed_next k s t f b h r e =
        let all : 0 + length f.answers ≡ k = omega (arith, f.long) in
        record {
          answers = f.answers ++ b ∷ [];
          long = length-append f.answers (b ∷ []) ∙ omega (arith, f.long);
          answered = answered_more 0 f.answers b s f.answered (rw (← f.left, all) h);
          left = e ∙ sym (freed_more 0 f.answers b s ∙ rw (all, ← f.left));
        }

-- ── what is left of a table whose bytes re-encode to themselves ──

module _ {A : Type 0} (encode : Option A → Octets) (decode : Octets → Option A) (k : ℕ) (wide : (r : Octets) → length (encode (decode r)) ≡ k) (n : ℕ)
    (empty : Writable encode decode k wide none) (zeros : encode none ≡ replicate k 0) where
  -- it does still, whatever the answers
  pub kept_freed : (i : ℕ) (answers : List Bool) (s : Octets) → i + length answers ≤ n → Kept n k encode decode s
      → Kept n k encode decode (freed_from k i answers s)
  kept_freed i [] s h c = c
  kept_freed i (false ∷ answers) s h c = kept_freed (i + 1) answers s (omega arith) c
  kept_freed i (true ∷ answers) s h c =
      let t = paste (i * k) (replicate k 0) s in
      let is : t ≡ flat_map encode (set (table encode decode k wide n s) i none) =
      rw (← zeros) (sym (wrote encode decode k wide n s c i none (omega arith) empty.width)) in
      kept_freed (i + 1) answers t (omega arith) (wrote_kept encode decode k wide n s c i none empty t is).0

  module _ (test : A → Bool) (says : Octets → ℕ → Bool → Type 0)
      (told : (t : Octets) (i : ℕ) (b : Bool) → Kept n k encode decode t → i < n → says t i b
      → b ≡ passes test (get_or (table encode decode k wide n t) i none)) where
    freed_turn : (i : ℕ) (b : Bool) (s : Octets) → Kept n k encode decode s → i < n → b ≡ passes test (get_or (table encode decode k wide n s) i none)
        → freed_at k b i s ≡ flat_map encode (set (table encode decode k wide n s) i (dropped_if test (get_or (table encode decode k wide n s) i none)))
    freed_turn i true s c h e = rw (← zeros) (freed encode decode k wide n s c i h empty test (sym e))
    freed_turn i false s c h e = left encode decode k wide n s c i h empty test (sym e)

    swept_freed : (xs : List (Option A)) (i : ℕ) (answers : List Bool) (s : Octets) → i + length answers ≡ n → Kept n k encode decode s
        → table encode decode k wide n s ≡ swept_before (dropped_if test) i xs → Answered k says i answers s
        → Kept n k encode decode (freed_from k i answers s) × (table encode decode k wide n (freed_from k i answers s) ≡ swept_before (dropped_if test) n xs)
    swept_freed xs i [] s h c e a = (c, e ∙ ap (λ j. swept_before (dropped_if test) j xs) (omega (arith, h)))
    swept_freed xs i (b ∷ answers) s h c e a =
        let below : i < n = omega (arith, h) in
        let t = freed_at k b i s in
        let next = dropped_kept encode decode k wide n s c i below empty test xs e t (freed_turn i b s c below (told s i b c below a.0)) in
        swept_freed xs (i + 1) answers t (omega (arith, h)) next.0 next.1 a.1

    pub freed_where : (s t : Octets) → Kept n k encode decode s → Freed k says n s t → t ≡ flat_map encode (without test (table encode decode k wide n s))
    freed_where s t c f =
        let all = swept_freed (table encode decode k wide n s) 0 f.answers s (omega (arith, f.long)) c refl f.answered in
        f.left ∙ dropped_end encode decode k wide n _ all.0 test s n (omega arith) all.1
