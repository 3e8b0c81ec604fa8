-- A cursor's search for the next nul, and what its answer tells of the strings.
use mathlib.Core.Path.{◌≡◌, refl, ap, sym, subst⁻¹, ◌∙◌}
use mathlib.Core.Bool.{Bool, true, false, cond}
use mathlib.Core.List.{List, [], ◌∷◌}
use mathlib.Core.Option.{Option, none, some}
use mathlib.Core.Logic.{◌⊎◌, inl, inr}
use Prim.Native.Nat.{ℕ, suc, ◌+◌, ◌<◌, ◌≤◌}
use native.Mathlib.Nat.{add-zero}
use native.Mathlib.Numerals.{add-one}
use native.Mathlib.Omega.{arith}
use lib.Dec.{ltb}
use lib.ListN.{length, get_or, take, drop, length-drop, drop_of_length-le}
use lib.Seq.{drop-cons}
use borrow.Author.Tests.{ltb-true, ltb-false, eq-eqb, ne_eqb}
use Rattle.rules.specs.Octets.{Octets}
use Rattle.rules.specs.Payload as rules
use Rattle.rules.specs.Payload.{first_string, strings}
use Rattle.payload.proofs.Strings.{StringAt, part-first, taken_at_lem, left_over, none_left}
use Rattle.payload.specs.Strings.{part}
use Rattle.payload.specs.Cursor.{found, taken_at}
use Rattle.payload.specs.declared.cursor.Cursor.{Cursor}
use Rattle.payload.specs.declared.cursor.Taken.{Taken}
use Rattle.payload.specs.declared.cursor.Taken.TheVariants.{String, Left, End}

abbrev longer : ℕ → Option rules.Taken → Option rules.Taken
longer c o = elim o [ none ↦ none | some t ↦ some (record { first = c ∷ t.first; rest = t.rest }) ]

found_longer : (s : Octets) (start i c : ℕ) (o : Option rules.Taken) → found s start i (longer c o) ≡ found s start (i + 1) o
unfolding found
found_longer s start i c none = refl
found_longer s start i c (some t) =
    let n : i + suc (length t.first) ≡ i + 1 + length t.first = omega arith in
    ap (λ (k : ℕ). String start k (record { at = k + 1 })) n

module _ (s : Octets) (start i : ℕ) where
  pub found_here : i < length s → get_or s i 0 ≡ 0 → found s start i (first_string (drop i s)) ≡ String start i (record { at = i + 1 })
  unfolding found first_string
  found_here h e = rw (drop-cons s i 0 h, first_string, eq-eqb _ _ e, found, add-zero i)

  pub found_further : i < length s → (get_or s i 0 ≡ 0 → ⊥) →
      found s start i (first_string (drop i s)) ≡ found s start (i + 1) (first_string (drop (i + 1) s))
  unfolding first_string
  found_further h e =
      rw (drop-cons s i 0 h, first_string, ne_eqb _ _ e)
      (found_longer s start i (get_or s i 0) (first_string (drop (suc i) s)) ∙ rw add-one)

  pub found_over : length s ≤ i → found s start i (first_string (drop i s)) ≡ cond (ltb start (length s)) Left End
  unfolding found first_string
  found_over h = rw (drop_of_length-le s h)

-- A string is found at a cursor.
pub record Told (s : Octets) (at start end : ℕ) (next : Cursor) : Type 0 where
  pub begins : start ≡ at
  pub goes_on : next.at ≡ end + 1
  pub string : StringAt s at end
  pub first : first_string (drop at s) ≡ some (record { first = part at end s; rest = drop (end + 1) s })

-- no string is found at a cursor
pub record Untold (s : Octets) (at : ℕ) (rest : Option (List Octets)) : Type 0 where
  pub none_first : first_string (drop at s) ≡ none
  pub all : strings (drop at s) ≡ rest

none-string : (b : Bool) (start end : ℕ) (next : Cursor) → cond b Left End ≡ String start end next → ⊥
none-string true start end next e = let z : ◌≡◌ {A = ℕ} 0 1 = cc in omega arith
none-string false start end next e = let z : ◌≡◌ {A = ℕ} 0 1 = cc in omega arith

found-told : (s : Octets) (at : ℕ) (t : rules.Taken) (start end : ℕ) (next : Cursor) → first_string (drop at s) ≡ some t →
    String at (at + length t.first) (record { at = at + length t.first + 1 }) ≡ String start end next → Told s at start end next
found-told s at t start end next f e =
    let k = taken_at_lem s at t f in
    let p : start ≡ at = cc in
    let q : end ≡ at + length t.first = cc in
    let n : ◌≡◌ {A = Cursor} (record { at = at + length t.first + 1 }) next = cc in
    record {
      begins = p;
      goes_on = sym (ap (λ (c : Cursor). c.at) n) ∙ ap (λ (j : ℕ). j + 1) (sym q);
      string = subst⁻¹ (StringAt s at) q k.string;
      first = f ∙ rw q (by t k.first k.rest);
    }
  where
    by : (u : rules.Taken) {a b : Octets} → u.first ≡ a → u.rest ≡ b → ◌≡◌ {A = Option rules.Taken} (some u) (some (record { first = a; rest = b }))
    by u {a} {b} x y = ap (λ (l : Octets). some (record { first = l; rest = u.rest })) x ∙ ap (λ (l : Octets). some (record { first = a; rest = l })) y

module _ (s : Octets) (at : ℕ) where
  pub string-told : (start end : ℕ) (next : Cursor) → taken_at s at ≡ String start end next → Told s at start end next
  unfolding taken_at found
  string-told start end next e = by (first_string (drop at s)) refl
    where
      by : (o : Option rules.Taken) → first_string (drop at s) ≡ o → Told s at start end next
      by none f = absurd (none-string (ltb at (length s)) start end next (ap (found s at at) (sym f) ∙ e))
      by (some t) f = found-told s at t start end next f (ap (found s at at) (sym f) ∙ e)

  pub left-told : taken_at s at ≡ Left → Untold s at none
  unfolding taken_at found
  left-told e = by (first_string (drop at s)) refl
    where
      left : (b : Bool) → ltb at (length s) ≡ b → cond b Left End ≡ Left → at < length s
      left true b g = ltb-true at (length s) b
      left false b g = absurd (let z : ◌≡◌ {A = ℕ} 0 1 = cc in omega arith)

      by : (o : Option rules.Taken) → first_string (drop at s) ≡ o → Untold s at none
      by none f =
          let h = left (ltb at (length s)) refl (ap (found s at at) (sym f) ∙ e) in
          record { none_first = f; all = left_over (drop at s) f (omega (arith, length-drop at s)) }
      by (some t) f = absurd (let g = ap (found s at at) (sym f) ∙ e in let z : ◌≡◌ {A = ℕ} 0 1 = cc in omega arith)

  pub end-told : taken_at s at ≡ End → Untold s at (some [])
  unfolding taken_at found
  end-told e = by (first_string (drop at s)) refl
    where
      over : (b : Bool) → ltb at (length s) ≡ b → cond b Left End ≡ End → length s ≤ at
      over true b g = absurd (let z : ◌≡◌ {A = ℕ} 0 1 = cc in omega arith)
      over false b g = ltb-false at (length s) b

      by : (o : Option rules.Taken) → first_string (drop at s) ≡ o → Untold s at (some [])
      by none f =
          let h = over (ltb at (length s)) refl (ap (found s at at) (sym f) ∙ e) in
          record { none_first = f; all = none_left (drop at s) (omega (arith, length-drop at s)) }
      by (some t) f = absurd (let g = ap (found s at at) (sym f) ∙ e in let z : ◌≡◌ {A = ℕ} 0 1 = cc in omega arith)

-- the first string of all
pub first-told : (s : Octets) (start end : ℕ) (next : Cursor) → taken_at s 0 ≡ String start end next →
    first_string s ≡ some (record { first = take end s; rest = drop (end + 1) s })
first-told s start end next e =
    (string-told s 0 start end next e).first ∙ ap (λ (l : Octets). some (record { first = l; rest = drop (end + 1) s })) (part-first end s)

-- nothing is found, so no string begins
pub nothing_told : (s : Octets) (at : ℕ) → ((start end : ℕ) (next : Cursor) → taken_at s at ≡ String start end next → ⊥) →
    Untold s at none ⊎ Untold s at (some [])
nothing_told s at h = by (taken_at s at) refl
  where
    by : (t : Taken) → taken_at s at ≡ t → Untold s at none ⊎ Untold s at (some [])
    by (String start end next) e = absurd (h start end next e)
    by Left e = inl (left-told s at e)
    by End e = inr (end-told s at e)
