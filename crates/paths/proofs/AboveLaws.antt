-- The first names of a full path: where they end, and that they are the path above.
use mathlib.Core.Path.{◌≡◌, refl, ap, sym, ◌∙◌}
use mathlib.Core.Bool.{true, and-eq-true_iff}
use mathlib.Core.List.{[], ◌∷◌, ◌++◌, append-nil}
use Prim.Native.Nat.{ℕ, suc, ◌+◌, ◌-◌, ◌≤◌, ◌<◌}
use native.Mathlib.Numerals.{add-one}
use native.Mathlib.Omega.{arith}
use lib.ListN.{length, get_or, take, drop, length-append, take-append-drop}
use lib.Seq.{split_at, take-suc, take-append_seam, drop-append-add, length-take-le}
use Rattle.rules.specs.Size.{longest_absolute}
use Rattle.rules.specs.Octets.{Octets}
use Rattle.rules.specs.Path.{Name, Names, is_full, names_in, all_names, slashed, path_text}
use Rattle.rules.proofs.PathLaws.{full, split-names, text-full, text-names}
use Rattle.rules.proofs.RelativeLaws.{slashed_append, names_append}
use Rattle.paths.specs.Names.{first_piece, name_end, Above}

named-text : (ns : Names) → 0 < length ns → path_text ns ≡ slashed ns
unfolding path_text
named-text [] h = absurd (omega arith)
named-text (n ∷ ns) h = refl

behind_slash : (a : Names) (n : Name) (rest : Names) → drop (length (slashed a) + 1) (slashed (a ++ n ∷ rest)) ≡ n ++ slashed rest
unfolding slashed
behind_slash a n rest = rw slashed_append (drop-append-add (slashed a) (slashed (n ∷ rest)) 1)

-- behind some names and a slash the next name begins, which ends where the names with it do
next_end : (a : Names) (n : Name) (rest : Names) → all_names (n ∷ rest) ≡ true
    → name_end (slashed (a ++ n ∷ rest)) (length (slashed a) + 1) ≡ length (slashed (a ++ n ∷ []))
unfolding name_end first_piece slashed
next_end a n rest h =
    let first : first_piece (n ++ slashed rest) ≡ n = rw (split-names n rest h, first_piece) in
    rw (behind_slash, first, slashed_append, length-append) (omega (arith, ap length (append-nil n)))

-- where the first m names of a path end
pub end_of : Octets → ℕ → ℕ
end_of s m = length (slashed (take m (names_in s)))

module _ (s : Octets) (h : is_full s ≡ true) where
  module _ (m : ℕ) (l : m < length (names_in s)) where
    parts : names_in s ≡ take m (names_in s) ++ get_or (names_in s) m [] ∷ drop (suc m) (names_in s)
    parts = split_at (names_in s) m [] l

    rest-names : all_names (get_or (names_in s) m [] ∷ drop (suc m) (names_in s)) ≡ true
    rest-names =
        let e = sym (names_append (take m (names_in s)) _) ∙ ap all_names (sym parts) ∙ (full s h).names in
        ((and-eq-true_iff (all_names (take m (names_in s))) _).0 e).1

    whole : s ≡ slashed (take m (names_in s) ++ get_or (names_in s) m [] ∷ drop (suc m) (names_in s))
    whole = (full s h).text ∙ named-text (names_in s) (omega arith) ∙ ap slashed parts

    -- a slash stands where the first m names end
    end-inside : end_of s m < length s
    unfolding end_of slashed
    end-inside = let e = ap length whole in omega (arith, simp (slashed_append, length-append) at e)

    end_next : name_end s (end_of s m + 1) ≡ end_of s (suc m)
    unfolding end_of
    end_next =
        ap (λ (t : Octets). name_end t (end_of s m + 1)) whole
        ∙ (next_end (take m (names_in s)) _ _ rest-names ∙ ap (λ (l : Names). length (slashed l)) (sym (take-suc (names_in s) m [] l)))

  module _ (k : ℕ) (l : k < length (names_in s)) where
    upper : Names
    upper = take (length (names_in s) - k) (names_in s)

    upper_whole : s ≡ slashed upper ++ slashed (drop (length (names_in s) - k) (names_in s))
    unfolding upper
    upper_whole =
        (full s h).text ∙ named-text (names_in s) (omega arith)
        ∙ (ap slashed (sym (take-append-drop (length (names_in s) - k) (names_in s))) ∙ slashed_append upper _)

    end_above : Above s k (end_of s (length (names_in s) - k))
    unfolding end_of upper
    end_above =
        let some : 0 < length upper = rw (length-take-le (length (names_in s) - k) (names_in s) (omega arith)) (omega arith) in
        record {
          within = let e = ap length upper_whole in omega (arith, simp length-append at e);
          text = ap (take (length (slashed upper))) upper_whole ∙ (take-append_seam (slashed upper) _ ∙ sym (named-text upper some));
        }

-- ── from the front, name by name ──

-- m names are passed, up to an index of the text, on the way to the path that lies k levels above it
pub record Passed (s : Octets) (k end m : ℕ) : Type 0 where
  pub few : m ≤ length (names_in s) - k
  pub ends : end ≡ end_of s m

pub passed_none : (s : Octets) (k : ℕ) → Passed s k 0 0
unfolding end_of slashed
passed_none s k = record { few = omega arith; ends = refl }

module _ (s : Octets) (h : is_full s ≡ true) (k end m : ℕ) (p : Passed s k end m) where
  pub passed_inside : m < length (names_in s) - k → end < length s
  passed_inside l = rw p.ends (end-inside s h m (omega arith))

  pub passed_next : m < length (names_in s) - k → (r : ℕ) → r ≡ name_end s (end + 1) → Passed s k r (m + 1)
  passed_next l r e =
      record { few = omega arith; ends = e ∙ ap (λ (j : ℕ). name_end s (j + 1)) p.ends ∙ end_next s h m (omega arith) ∙ rw add-one }

  pub passed_all : k < length (names_in s) → length (names_in s) - k ≤ m → Above s k end
  passed_all l z =
      let all : m ≡ length (names_in s) - k = omega arith in
      rw (p.ends ∙ ap (end_of s) all) (end_above s h k l)

-- ── the path above ──

module _ (s : Octets) (h : is_full s ≡ true) (k end : ℕ) (a : Above s k end) where
  pub above_long : end ≡ length (take end s)
  above_long = sym (length-take-le end s a.within)

  pub above_short : (most : ℕ) → length s ≤ most → length (take end s) ≤ most
  above_short most l = omega (arith, above_long, a.within)

  upper_names : all_names (take (length (names_in s) - k) (names_in s)) ≡ true
  upper_names =
      let m = length (names_in s) - k in
      let e = sym (names_append (take m (names_in s)) (drop m (names_in s))) ∙ ap all_names (take-append-drop m (names_in s)) ∙ (full s h).names in
      ((and-eq-true_iff (all_names (take m (names_in s))) (all_names (drop m (names_in s)))).0 e).0

  upper_short : length (path_text (take (length (names_in s) - k) (names_in s))) ≤ longest_absolute
  upper_short = let e = sym (ap length a.text) ∙ sym above_long in omega (arith, (full s h).short, a.within)

  pub above_full : is_full (take end s) ≡ true
  above_full = rw a.text (text-full _ upper_names upper_short)

  pub above_names : names_in (take end s) ≡ take (length (names_in s) - k) (names_in s)
  above_names = rw a.text (text-names _ upper_names upper_short)
