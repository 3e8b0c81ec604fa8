-- Above and below: the test on two full paths' texts is the one on their names.
use mathlib.Core.Path.{◌≡◌, refl, ap, sym, ◌∙◌}
use mathlib.Core.Bool.{Bool, true, false, ◌&&◌, ◌||◌, and_assoc, and-false, true≢false, false≢true}
use mathlib.Core.List.{[], ◌∷◌, ◌++◌, append_assoc, append-nil}
use mathlib.Core.Option.{Option, none, some}
use Prim.Native.Nat.{ℕ, ◌<◌}
use native.Mathlib.Omega.{arith}
use lib.ListN.{length, length-append}
use lib.Dec.{eqb, ltb}
use borrow.Author.Tests.{ne_eqb, lt-ltb}
use Rattle.rules.specs.Octets.{Octets, same, begins}
use Rattle.rules.specs.Path.{Name, Names, name_byte, all_bytes, is_name, all_names, slashed, path_text, beyond, is_full, names_in, is_below}
use Rattle.rules.proofs.Compare.{both_true, eq_same, same_eq, same_refl, same_length, begins-short}
use Rattle.rules.proofs.PathLaws.{Full, full, full-root, name_no_slash, name-bytes, no_empty_name, beyond-rest, beyond_append}

-- the second of two paths lies at or below the first
unfoldable pub is_at : Names → Names → Bool
is_at a b = elim (beyond a b) [ none ↦ false | some rest ↦ true ]

at_cons : (n p : Name) (a b : Names) (t : Bool) → same n p ≡ t → is_at (n ∷ a) (p ∷ b) ≡ (t && is_at a b)
unfolding is_at beyond
at_cons n p a b true e = rw (e, is_at)
at_cons n p a b false e = rw (e, is_at)

-- ── two words before slashes ──

slash_differs : (c : ℕ) → name_byte c ≡ true → eqb 47 c ≡ false
unfolding name_byte
slash_differs c h = ne_eqb 47 c (λ e. false≢true (ap name_byte e ∙ h))

words : (n p : Name) (x y : Octets) → all_bytes n ≡ true → all_bytes p ≡ true
    → begins (n ++ 47 ∷ x) (p ++ 47 ∷ y) ≡ (same n p && begins x y)
unfolding begins same all_bytes
words [] [] x y h k = refl
words [] (d ∷ p) x y h k = rw (slash_differs d (both_true (name_byte d) (all_bytes p) k).0)
words (c ∷ n) [] x y h k = rw (name_no_slash c (both_true (name_byte c) (all_bytes n) h).0)
words (c ∷ n) (d ∷ p) x y h k =
    ap (λ (t : Bool). eqb c d && t) (words n p x y (both_true (name_byte c) (all_bytes n) h).1 (both_true (name_byte d) (all_bytes p) k).1)
    ∙ sym (and_assoc (eqb c d) (same n p) (begins x y))

-- ── names with a slash after each ──

trail : Names → Octets
trail [] = []
trail (n ∷ ns) = n ++ 47 ∷ trail ns

slashed_trail : (ns : Names) → slashed ns ++ 47 ∷ [] ≡ 47 ∷ trail ns
unfolding slashed trail
slashed_trail [] = refl
slashed_trail (n ∷ ns) = ap (λ (l : Octets). 47 ∷ l) (append_assoc n (slashed ns) (47 ∷ []) ∙ ap (λ (l : Octets). n ++ l) (slashed_trail ns))

snoc_nil : (x y : Octets) → begins (x ++ 47 ∷ y) [] ≡ false
unfolding begins
snoc_nil [] y = refl
snoc_nil (c ∷ x) y = refl

trails : (a b : Names) → all_names a ≡ true → all_names b ≡ true → begins (trail a) (trail b) ≡ is_at a b
unfolding trail begins all_names beyond is_at
trails [] b h k = refl
trails (n ∷ a) [] h k = snoc_nil n (trail a)
trails (n ∷ a) (p ∷ b) h k =
    let hs = both_true (is_name n) (all_names a) h in
    let ks = both_true (is_name p) (all_names b) k in
    words n p (trail a) (trail b) (name-bytes n hs.0) (name-bytes p ks.0)
    ∙ (ap (λ (t : Bool). same n p && t) (trails a b hs.1 ks.1) ∙ sym (at_cons n p a b (same n p) refl))

-- ── texts ──

either : (t p q r : Bool) → (p || q) ≡ r → ((t && p) || (t && q)) ≡ (t && r)
either true p q r e = e
either false p q r e = refl

same_or_begins : (x y : Octets) → (same x y || begins (x ++ 47 ∷ []) y) ≡ begins (x ++ 47 ∷ []) (y ++ 47 ∷ [])
unfolding same begins
same_or_begins [] [] = refl
same_or_begins [] (d ∷ y) = refl
same_or_begins (c ∷ x) [] = sym (rw (snoc_nil x []) (and-false (eqb c 47)))
same_or_begins (c ∷ x) (d ∷ y) = either (eqb c d) (same x y) (begins (x ++ 47 ∷ []) y) _ (same_or_begins x y)

root_above : (n : Name) (a : Names) → all_names (n ∷ a) ≡ true → (same (slashed (n ∷ a)) (47 ∷ []) || begins (slashed (n ∷ a) ++ 47 ∷ []) (47 ∷ [])) ≡ false
unfolding slashed
root_above [] a h = absurd (no_empty_name a h)
root_above (c ∷ n) a h =
    let l : 1 < length (47 ∷ ((c ∷ n) ++ slashed a)) = omega arith in
    rw (same_length (47 ∷ ((c ∷ n) ++ slashed a)) (47 ∷ []) (omega arith), begins-short (47 ∷ (((c ∷ n) ++ slashed a) ++ 47 ∷ [])) (47 ∷ []) (omega arith))

-- for a path other than the root: the same text, or one that goes on after a slash
texts_at : (n : Name) (a b : Names) → all_names (n ∷ a) ≡ true → all_names b ≡ true
    → (same (path_text (n ∷ a)) (path_text b) || begins (path_text (n ∷ a) ++ 47 ∷ []) (path_text b)) ≡ is_at (n ∷ a) b
unfolding path_text beyond is_at begins
texts_at n a [] h k = root_above n a h
texts_at n a (p ∷ b) h k =
    same_or_begins (slashed (n ∷ a)) (slashed (p ∷ b)) ∙ (rw (slashed_trail (n ∷ a), slashed_trail (p ∷ b)) (trails (n ∷ a) (p ∷ b) h k))

texts_other : (a s : Octets) (ns ms : Names) → Full a ns → Full s ms → same a (47 ∷ []) ≡ false → (same a s || begins (a ++ 47 ∷ []) s) ≡ is_at ns ms
unfolding path_text
texts_other a s [] ms f g h = absurd (false≢true (sym h ∙ (rw f.text (same_refl (47 ∷ [])))))
texts_other a s (n ∷ ns) ms f g h = rw (f.text, g.text) (texts_at n ns ms f.names g.names)

module _ (a s : Octets) (f : is_full a ≡ true) (g : is_full s ≡ true) where
  -- at or below a path other than the root: what has its text or goes on after a slash
  pub other_at : same a (47 ∷ []) ≡ false → (same a s || begins (a ++ 47 ∷ []) s) ≡ is_at (names_in a) (names_in s)
  other_at h = texts_other a s (names_in a) (names_in s) (full a f) (full s g) h

-- ── what is left below ──

-- the second path is the first with something after it
pub record Beneath (a b : Names) : Type 0 where
  pub rest : Names
  pub found : beyond a b ≡ some rest
  pub joined : b ≡ a ++ rest

at_by_lem : (a b : Names) (r : Option Names) → beyond a b ≡ r → is_at a b ≡ true → Beneath a b
unfolding is_at
at_by_lem a b none e h = absurd (false≢true (rw (e, is_at) at h))
at_by_lem a b (some rest) e h = record { rest = rest; found = e; joined = beyond-rest a b rest e }

pub at_beneath : (a b : Names) → is_at a b ≡ true → Beneath a b
at_beneath a b h = at_by_lem a b (beyond a b) refl h

not_by : (a b : Names) (r : Option Names) → beyond a b ≡ r → is_at a b ≡ false → beyond a b ≡ none
unfolding is_at
not_by a b none e h = e
not_by a b (some rest) e h = absurd (true≢false (rw (e, is_at) at h))

pub not_at : (a b : Names) → is_at a b ≡ false → beyond a b ≡ none
not_at a b h = not_by a b (beyond a b) refl h

-- ── below, and not the same ──

unfoldable pub has_names : Names → Bool
has_names [] = false
has_names (n ∷ ns) = true

-- the second path lies below the first
unfoldable pub is_under : Names → Names → Bool
is_under a b = elim (beyond a b) [ none ↦ false | some rest ↦ has_names rest ]

under_root : (s : Octets) (ns : Names) → Full s ns → (begins (47 ∷ []) s && ltb 1 (length s)) ≡ has_names ns
unfolding begins has_names path_text slashed
under_root s [] f = rw f.text
under_root s ([] ∷ ns) f = absurd (no_empty_name ns f.names)
under_root s ((c ∷ n) ∷ ns) f = rw f.text (lt-ltb 1 (length (path_text ((c ∷ n) ∷ ns))) (omega arith))

under_self : (a : Names) → is_under a a ≡ false
unfolding is_under has_names
under_self a = rw (rw append-nil at (beyond_append a []), is_under)

under_by : (a b : Names) (r : Option Names) → beyond a b ≡ r → (a ≡ b → ⊥) → is_at a b ≡ is_under a b
unfolding is_at is_under has_names
under_by a b none e h = rw (e, is_at, is_under)
under_by a b (some []) e h = absurd (h (sym (beyond-rest a b [] e ∙ append-nil a)))
under_by a b (some (n ∷ ns)) e h = rw (e, is_at, is_under)

module _ (a s : Octets) (f : is_full a ≡ true) (g : is_full s ≡ true) where
  differ : same a s ≡ false → names_in a ≡ names_in s → ⊥
  differ h e = false≢true (sym h ∙ eq_same ((full a f).text ∙ (ap path_text e ∙ sym (full s g).text)))

  under_other : (t : Bool) → same a s ≡ t → same a (47 ∷ []) ≡ false → begins (a ++ 47 ∷ []) s ≡ is_under (names_in a) (names_in s)
  under_other true e h =
      let q = same_eq a s e in
      rw (← q) (begins-short (a ++ 47 ∷ []) a (rw length-append (omega arith)) ∙ sym (under_self (names_in a)))
  under_other false e h =
      (rw e at (other_at a s f g h)) ∙ under_by (names_in a) (names_in s) (beyond (names_in a) (names_in s)) refl (differ e)

  below_by : (t : Bool) → same a (47 ∷ []) ≡ t → is_below a s ≡ is_under (names_in a) (names_in s)
  unfolding is_below is_under beyond
  below_by true h =
      let q = same_eq a (47 ∷ []) h in
      rw (h, full-root a f (ap length q), q, is_under) (under_root s (names_in s) (full s g))
  below_by false h = rw h (under_other (same a s) refl h)

  -- the test on texts is that on names
  pub below_names : is_below a s ≡ is_under (names_in a) (names_in s)
  below_names = below_by (same a (47 ∷ [])) refl
