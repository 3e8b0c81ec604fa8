-- What tests on two texts say of how the paths lie.
use mathlib.Core.Path.{◌≡◌, refl, ap, sym, ◌∙◌}
use mathlib.Core.Bool.{Bool, true, false, ◌&&◌, false≢true, and_assoc, and-true, and-false, or-true, and-eq-true_iff}
use mathlib.Core.List.{[], ◌∷◌, ◌++◌, append-nil}
use mathlib.Core.Option.{none, some, map}
use Prim.Native.Nat.{ℕ, ◌-◌, ◌≤◌, ◌<◌}
use native.Mathlib.Omega.{arith}
use lib.Dec.{eqb, ltb}
use lib.ListN.{length, get_or, take, drop, length-append, length-drop}
use lib.Seq.{drop-append_seam, take_all}
use borrow.Author.Tests.{eq-eqb, ne_eqb, le-ltb, lt-ltb, ltb-true, ltb-false}
use Rattle.rules.specs.Size.{longest_absolute}
use Rattle.rules.specs.Octets.{Octets, same, begins}
use Rattle.rules.specs.Path.{Names, beyond, is_below, is_full, names_in, all_names, slashed, path_text}
use Rattle.rules.proofs.Compare.{same_eq, same_refl, begins-short}
use Rattle.rules.proofs.PathLaws.{full, full-root, text-full, text-names, beyond_append}
use Rattle.rules.proofs.RelativeLaws.{slashed_append, names_append}
use Rattle.rules.proofs.BelowLaws.{is_at, other_at, Beneath, at_beneath, not_at}

-- ── a slash after a text ──

reach_at : (a s : Octets) → length a < length s → begins (a ++ 47 ∷ []) s ≡ (begins a s && eqb 47 (get_or s (length a) 0))
unfolding begins
reach_at a [] h = absurd (omega arith)
reach_at [] (d ∷ s) h = and-true (eqb 47 d)
reach_at (c ∷ a) (d ∷ s) h = rw (reach_at a s (omega arith)) (sym (and_assoc (eqb c d) (begins a s) (eqb 47 (get_or s (length a) 0))))

module _ (a s : Octets) where
  pub reach-short : length s ≤ length a → false ≡ begins (a ++ 47 ∷ []) s
  reach-short h = sym (begins-short (a ++ 47 ∷ []) s (rw length-append (omega arith)))

  pub reach_other : length a < length s → (get_or s (length a) 0 ≡ 47 → ⊥) → false ≡ begins (a ++ 47 ∷ []) s
  reach_other h e = sym (reach_at a s h ∙ rw (ne_eqb 47 _ (λ q. e (sym q))) (and-false (begins a s)))

  pub reach_slash : length a < length s → get_or s (length a) 0 ≡ 47 → begins a s ≡ begins (a ++ 47 ∷ []) s
  reach_slash h e = sym (reach_at a s h ∙ rw (eq-eqb 47 _ (sym e)) (and-true (begins a s)))

  -- ── below ──

  pub below-short : same a (47 ∷ []) ≡ true → length s ≤ 1 → false ≡ is_below a s
  unfolding is_below
  below-short e h = rw (e, le-ltb 1 (length s) h) (sym (and-false (begins a s)))

  pub below_root : same a (47 ∷ []) ≡ true → 1 < length s → begins a s ≡ is_below a s
  unfolding is_below
  below_root e h = rw (e, lt-ltb 1 (length s) h) (sym (and-true (begins a s)))

  pub below_other : same a (47 ∷ []) ≡ false → begins (a ++ 47 ∷ []) s ≡ is_below a s
  unfolding is_below
  below_other e = rw e

-- ── levels ──

module _ (a s : Octets) (f : is_full a ≡ true) (g : is_full s ≡ true) where
  pub levels-root : (d : ℕ) → same a (47 ∷ []) ≡ true → d ≡ length (names_in s) → some d ≡ map length (beyond (names_in a) (names_in s))
  unfolding beyond
  levels-root d h e = rw (full-root a f (ap length (same_eq a (47 ∷ []) h)), e)

  pub levels-same : same a s ≡ true → some 0 ≡ map length (beyond (names_in a) (names_in s))
  levels-same h =
      let b = beyond_append (names_in a) [] in
      rw (← same_eq a s h, rw append-nil at b)

  reached : same a (47 ∷ []) ≡ false → begins (a ++ 47 ∷ []) s ≡ true → is_at (names_in a) (names_in s) ≡ true
  reached h e = sym (other_at a s f g h) ∙ rw e (or-true (same a s))

  -- what goes on behind the first path
  module _ (h : same a (47 ∷ []) ≡ false) (r : begins (a ++ 47 ∷ []) s ≡ true) where
    beneath : Beneath (names_in a) (names_in s)
    beneath = at_beneath _ _ (reached h r)

    pub longer : length a < length s
    longer = go (ltb (length a) (length s)) refl
      where
        go : (b : Bool) → ltb (length a) (length s) ≡ b → length a < length s
        go true e = ltb-true (length a) (length s) e
        go false e = absurd (false≢true (reach-short a s (ltb-false (length a) (length s) e) ∙ r))

    behind : drop (length a) s ≡ slashed beneath.rest
    unfolding path_text
    behind = go (names_in a) (full a f).text ((full s g).text ∙ ap path_text beneath.joined)
      where
        go : (ns : Names) → a ≡ path_text ns → s ≡ path_text (ns ++ beneath.rest) → drop (length a) s ≡ slashed beneath.rest
        go [] e p = absurd (false≢true (sym h ∙ ap (λ (x : Octets). same x (47 ∷ [])) e ∙ same_refl (47 ∷ [])))
        go (n ∷ ns) e p = ap (drop (length a)) (p ∙ slashed_append (n ∷ ns) beneath.rest ∙ ap (λ (x : Octets). x ++ slashed beneath.rest) (sym e))
            ∙ drop-append_seam a (slashed beneath.rest)

    rest-text : drop (length a) s ≡ path_text beneath.rest
    unfolding path_text slashed
    rest-text = go beneath.rest behind
      where
        go : (ns : Names) → drop (length a) s ≡ slashed ns → drop (length a) s ≡ path_text ns
        go [] e = let z : length s - length a ≡ 0 = sym (length-drop (length a) s) ∙ ap length e in absurd (omega (arith, longer))
        go (n ∷ ns) e = e

    rest-names : all_names beneath.rest ≡ true
    rest-names = ((and-eq-true_iff (all_names (names_in a)) _).0 (sym (names_append (names_in a) beneath.rest) ∙ ap all_names (sym beneath.joined)
        ∙ (full s g).names)).1

    rest-short : length (path_text beneath.rest) ≤ longest_absolute
    rest-short = let l = sym (ap length rest-text) ∙ length-drop (length a) s in omega (arith, l, (full s g).short)

    part-text : take (length s - length a) (drop (length a) s) ≡ path_text beneath.rest
    part-text = take_all (length s - length a) (drop (length a) s) (rw length-drop (omega arith)) ∙ rest-text

    pub rest-full : is_full (take (length s - length a) (drop (length a) s)) ≡ true
    rest-full = rw part-text (text-full beneath.rest rest-names rest-short)

    pub levels-reach : (d : ℕ) → d ≡ length (names_in (take (length s - length a) (drop (length a) s))) → some d
        ≡ map length (beyond (names_in a) (names_in s))
    levels-reach d e = rw (beneath.found, e ∙ ap length (ap names_in part-text ∙ text-names beneath.rest rest-names rest-short)) refl

  pub levels_not : same a (47 ∷ []) ≡ false → same a s ≡ false → begins (a ++ 47 ∷ []) s ≡ false → none ≡ map length (beyond (names_in a) (names_in s))
  levels_not h k e = rw (not_at (names_in a) (names_in s) (sym (other_at a s f g h) ∙ rw (k, e)))
