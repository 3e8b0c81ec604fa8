-- The pieces of a text: the first, where it ends, and the others.
use mathlib.Core.Path.{◌≡◌, refl, ap, sym, ◌∙◌}
use mathlib.Core.Bool.{Bool, true, false, cond}
use mathlib.Core.List.{[], ◌∷◌}
use mathlib.Core.Logic.{◌⊎◌, inl, inr, ⊎_elim}
use Prim.Native.Nat.{ℕ, suc, ◌+◌, ◌-◌, ◌<◌, ◌≤◌}
use native.Mathlib.Numerals.{add-one}
use native.Mathlib.Nat.{add-zero}
use native.Mathlib.Omega.{arith}
use lib.Dec.{eqb, leb, ltb}
use lib.ListN.{length, get_or, take, drop, drop_of_length-le, length-drop}
use lib.Seq.{drop-cons, drop-drop}
use borrow.Author.Tests.{le-leb, lt-leb, ltb-false, eqb-true, eqb-false, eq-eqb, ne_eqb}
use Rattle.std.specs.Prelude.{Option, Some, None, position, count_by, fold, not}
use Rattle.std.specs.List.{list_all, position_or_len, slice_split, onto_first}
use Rattle.std.proofs.lemmas.List.Recursion.{is_position_or_len}
use Rattle.std.proofs.lemmas.List.Splits.{length-slice_split}
use Rattle.std.proofs.lemmas.List.Sums.{prefix_len-le-length}
use Rattle.rules.specs.Size.{longest_name, deepest}
use Rattle.rules.specs.Octets.{Octets}
use Rattle.rules.specs.Path.{Names, split, glued, short_names, fits, is_full, names_in}
use Rattle.rules.proofs.PathLaws.{split_slash, split_other, full_slash, full-root, full-split}
use Rattle.paths.specs.Names.{first_piece, other_pieces, name_end}

first_slash : (c : ℕ) (cs : Octets) → eqb c 47 ≡ true → first_piece (c ∷ cs) ≡ []
unfolding first_piece
first_slash c cs e = rw (split_slash c cs e, first_piece)

others_slash : (c : ℕ) (cs : Octets) → eqb c 47 ≡ true → other_pieces (c ∷ cs) ≡ split cs
unfolding other_pieces
others_slash c cs e = rw (split_slash c cs e, other_pieces)

glued_cons : (c : ℕ) (n : Octets) (ps ns : Names) → ps ≡ n ∷ ns → glued c ps ≡ (c ∷ n) ∷ ns
unfolding glued
glued_cons c n ps ns e = rw e

split-first_by : (c : ℕ) (cs : Octets) (b : Bool) → eqb c 47 ≡ b → split cs ≡ first_piece cs ∷ other_pieces cs
    → split (c ∷ cs) ≡ first_piece (c ∷ cs) ∷ other_pieces (c ∷ cs)
unfolding first_piece other_pieces
split-first_by c cs true e h = rw (split_slash c cs e, first_piece, other_pieces)
split-first_by c cs false e h = rw (split_other c cs e ∙ glued_cons c _ _ _ h, first_piece, other_pieces)

-- a text always has a first piece
pub split-first : (cs : Octets) → split cs ≡ first_piece cs ∷ other_pieces cs
unfolding split first_piece other_pieces
split-first [] = refl
split-first (c ∷ cs) = split-first_by c cs (eqb c 47) refl (split-first cs)

first_other : (c : ℕ) (cs : Octets) → eqb c 47 ≡ false → first_piece (c ∷ cs) ≡ c ∷ first_piece cs
first_other c cs e =
    let g = split_other c cs e ∙ glued_cons c _ _ _ (split-first cs) in
    let h = split-first (c ∷ cs) in
    cc

others_other : (c : ℕ) (cs : Octets) → eqb c 47 ≡ false → other_pieces (c ∷ cs) ≡ other_pieces cs
others_other c cs e =
    let g = split_other c cs e ∙ glued_cons c _ _ _ (split-first cs) in
    let h = split-first (c ∷ cs) in
    cc

-- a text with no slash: its first piece is all of it
pub record Last (s : Octets) : Type 0 where
  pub first : first_piece s ≡ s
  pub others : other_pieces s ≡ []

-- a text with a slash: the first piece ends there, and the others are those of what follows
pub record More (s : Octets) : Type 0 where
  pub inside : length (first_piece s) < length s
  pub first : first_piece s ≡ take (length (first_piece s)) s
  pub slash : get_or s (length (first_piece s)) 0 ≡ 47
  pub others : other_pieces s ≡ split (drop (length (first_piece s) + 1) s)

last_cons : (c : ℕ) (cs : Octets) → eqb c 47 ≡ false → Last cs → Last (c ∷ cs)
last_cons c cs e h = record { first = first_other c cs e ∙ ap (λ (l : Octets). c ∷ l) h.first; others = others_other c cs e ∙ h.others }

more_cons : (c : ℕ) (cs : Octets) → eqb c 47 ≡ false → More cs → More (c ∷ cs)
more_cons c cs e h =
    let f = first_other c cs e in
    record {
      inside = rw f (omega (arith, h.inside));
      first = rw f (ap (λ (l : Octets). c ∷ l) h.first);
      slash = rw f h.slash;
      others = rw (f, others_other c cs e, add-one) (rw add-one at h.others);
    }

slash_more : (c : ℕ) (cs : Octets) → eqb c 47 ≡ true → More (c ∷ cs)
slash_more c cs e =
    let f = first_slash c cs e in
    record {
      inside = rw f (omega arith);
      first = rw f;
      slash = rw f (eqb-true c 47 e);
      others = rw (f, others_slash c cs e);
    }

pieces_by : (c : ℕ) (cs : Octets) (b : Bool) → eqb c 47 ≡ b → Last cs ⊎ More cs → Last (c ∷ cs) ⊎ More (c ∷ cs)
pieces_by c cs true e h = inr (slash_more c cs e)
pieces_by c cs false e h = ⊎_elim (λ l. inl (last_cons c cs e l)) (λ m. inr (more_cons c cs e m)) h

pub pieces : (s : Octets) → Last s ⊎ More s
unfolding first_piece other_pieces split
pieces [] = inl (record { first = refl; others = refl })
pieces (c ∷ cs) = pieces_by c cs (eqb c 47) refl (pieces cs)

-- ── where a name ends ──

first-length_by : (c : ℕ) (cs : Octets) (b : Bool) → eqb c 47 ≡ b → length (first_piece (c ∷ cs)) ≡ cond b 0 (1 + length (first_piece cs))
first-length_by c cs true e = rw (first_slash c cs e)
first-length_by c cs false e = rw (first_other c cs e) (omega arith)

-- a text's first piece ends at its first slash
first-length : (s : Octets) → length (first_piece s) ≡ position_or_len (λ b. eqb b 47) s
unfolding first_piece split
first-length s = is_position_or_len (λ (t : Octets). length (first_piece t)) (λ b. eqb b 47) refl (λ c cs. first-length_by c cs (eqb c 47) refl) s

found_at : (b : Bool) (k n : ℕ) → cond b (Some k) None ≡ Some n → k ≡ n
found_at true k n e = cc
found_at false k n e = cc

found_none : (k m : ℕ) (b : Bool) → ltb k m ≡ b → cond b (Some k) None ≡ None → m ≤ k
found_none k m true l e = cc
found_none k m false l e = ltb-false k m l

-- the first slash behind an index, if there is one
module _ (s : Octets) (at : ℕ) (r : Option ℕ) (e : r ≡ position (λ b. eqb b 47) (drop at s)) where
  pub end_found : (n : ℕ) → r ≡ Some n → at + n ≡ name_end s at
  unfolding name_end
  end_found n is = ap (λ (k : ℕ). at + k) (sym (first-length (drop at s) ∙ found_at _ _ _ (sym e ∙ is)))

  pub end_missing : at ≤ length s → r ≡ None → length s ≡ name_end s at
  unfolding name_end
  end_missing h is =
      let k = first-length (drop at s) in
      let m = found_none _ _ _ refl (sym e ∙ is) in
      let i = prefix_len-le-length (λ (b : ℕ). not (eqb b 47)) (drop at s) in
      omega (arith, length-drop at s)

-- ── a text's names, one after the other ──

module _ (s : Octets) (at : ℕ) (h : at ≤ length s) where
  pub end_low : at ≤ name_end s at
  unfolding name_end
  end_low = omega arith

  pub end-high : name_end s at ≤ length s
  unfolding name_end
  end-high =
      let l = length-drop at s in
      ⊎_elim (λ (w : Last (drop at s)). omega (arith, ap length w.first)) (λ (w : More (drop at s)). omega arith) (pieces (drop at s))

  -- the last name
  pub last_name : length s ≤ name_end s at → split (drop at s) ≡ drop at s ∷ []
  unfolding name_end
  last_name e =
      let l = length-drop at s in
      split-first (drop at s)
      ∙ ⊎_elim (λ (w : Last (drop at s)). rw (w.first, w.others)) (λ (w : More (drop at s)). absurd (omega arith)) (pieces (drop at s))

  -- a name with more after it
  pub next_name : name_end s at < length s
      → split (drop at s) ≡ take (name_end s at - at) (drop at s) ∷ split (drop (name_end s at + 1) s)
  unfolding name_end
  next_name e =
      let cs = drop at s in
      let n = length (first_piece cs) in
      let l = length-drop at s in
      ⊎_elim
      (λ (w : Last cs). absurd (omega (arith, ap length w.first)))
      (λ (w : More cs).
      let k : n ≡ at + n - at = omega arith in
      let m : at + (n + 1) ≡ at + n + 1 = omega arith in
      let a = w.first ∙ ap (λ (j : ℕ). take j cs) k in
      let b = w.others ∙ ap split (drop-drop (n + 1) at s ∙ ap (λ (j : ℕ). drop j s) m) in
      split-first cs ∙ cc)
      (pieces cs)

-- ── short names ──

-- std's pieces are the rule book's
pub pieces_split : (s : Octets) → slice_split (λ b. eqb b 47) s ≡ split s
unfolding split glued
pieces_split [] = refl
pieces_split (c ∷ cs) = rw (pieces_split cs) (ap (cond (eqb c 47) ([] ∷ split cs)) (onto_glued c (split cs)))
  where
    onto_glued : (c : ℕ) (ps : Names) → onto_first c ps ≡ glued c ps
    onto_glued c [] = refl
    onto_glued c (p ∷ ps) = refl

pub all_short : (ns : Names) → list_all (λ (n : Octets). leb (length n) longest_name) ns ≡ short_names ns
unfolding short_names
all_short [] = refl
all_short (n ∷ ns) = rw (all_short ns)

-- ── how many names ──

-- the slashes of a text that come to those counted so far
abbrev pub slashes : ℕ → Octets → ℕ
slashes n s = fold (λ a x. a + cond (eqb x 47) 1 0) n s

module _ (s : Octets) (i n : ℕ) (h : i < length s) where
  pub slash_here : get_or s i 0 ≡ 47 → slashes n (drop i s) ≡ slashes (n + 1) (drop (i + 1) s)
  slash_here e =
      let next : suc i ≡ i + 1 = omega arith in
      ap (slashes n) (drop-cons s i 0 h)
      ∙ (ap (λ (t : Bool). slashes (n + cond t 1 0) (drop (suc i) s)) (eq-eqb _ _ e) ∙ ap (λ (j : ℕ). slashes (n + 1) (drop j s)) next)

  pub no_slash_here : (get_or s i 0 ≡ 47 → ⊥) → slashes n (drop i s) ≡ slashes n (drop (i + 1) s)
  no_slash_here e =
      ap (slashes n) (drop-cons s i 0 h)
      ∙ (ap (λ (t : Bool). slashes (n + cond t 1 0) (drop (suc i) s)) (ne_eqb _ _ e) ∙ rw (add-zero n, add-one) refl)

pub slashes_over : (s : Octets) (i n : ℕ) → length s ≤ i → slashes n (drop i s) ≡ n
slashes_over s i n h = rw (drop_of_length-le s h) refl

split_slashes : (s : Octets) → length (split s) ≡ count_by (λ b. eqb b 47) s + 1
split_slashes s = ap length (sym (pieces_split s)) ∙ length-slice_split (λ b. eqb b 47) s

module _ (s : Octets) (h : is_full s ≡ true) where
  pub depth-root : length s ≡ 1 → 0 ≡ length (names_in s)
  depth-root l = rw (full-root s h l)

  pub depth_slashes : (length s ≡ 1 → ⊥) → count_by (λ b. eqb b 47) s ≡ length (names_in s)
  depth_slashes l =
      let more : length (split s) ≡ suc (length (split (drop 1 s))) = ap (λ (t : Octets). length (split t)) (full_slash s h)
      ∙ ap length (split_slash 47 (drop 1 s) refl) in
      omega (arith, split_slashes s, ap length (full-split s h l))

  short-root : (b : Bool) → eqb (length s) 1 ≡ b → short_names (names_in s) ≡ short_names (split (drop 1 s))
  unfolding short_names split
  short-root true e =
      let l = eqb-true (length s) 1 e in
      let o : length s ≤ 1 = omega arith in
      rw (full-root s h l, drop_of_length-le s o)
  short-root false e = ap short_names (full-split s h (eqb-false _ _ e))

  pub short-full : short_names (names_in s) ≡ short_names (split (drop 1 s))
  short-full = short-root (eqb (length s) 1) refl

pub fits-deep : (ns : Names) (n : ℕ) → n ≡ length ns → deepest < n → leb n deepest ≡ fits ns
unfolding fits
fits-deep ns n e h = rw (← e, lt-leb _ _ h)

pub fits-short : (ns : Names) (n : ℕ) → n ≡ length ns → n ≤ deepest → short_names ns ≡ fits ns
unfolding fits
fits-short ns n e h = rw (← e, le-leb _ _ h)
