-- Paths: a text and its names determine each other.
use mathlib.Core.Path.{◌≡◌, refl, ap, sym, subst, ◌∙◌}
use mathlib.Core.Bool.{Bool, true, false, cond, ◌&&◌, ◌||◌, false≢true}
use mathlib.Core.List.{[], ◌∷◌, ◌++◌}
use mathlib.Core.Option.{none, some}
use Prim.Native.Nat.{ℕ, ◌+◌, ◌*◌, ◌≤◌}
use native.Mathlib.Omega.{arith}
use lib.ListN.{length, drop, length-append}
use lib.Dec.{eqb, leb}
use borrow.Author.Tests.{eqb-true, leb-true, le-leb, ne_eqb}
use Rattle.rules.specs.Size.{longest_absolute, longest_relative, longest_name, deepest, longest_path}
use Rattle.rules.specs.Octets.{Octets, same}
use Rattle.rules.specs.Path.{Name, Names, name_byte, all_bytes, is_name, all_names, glued, split, Given, malformed, absolute, relative, special}
use Rattle.rules.specs.Path.{given, special_of, introduce_name, release_name, checked, after_slash, names_in, is_full, slashed, path_text, short_names}
use Rattle.rules.specs.Path.{fits, beyond}
use Rattle.rules.proofs.Compare.{both_true, same_eq, same_refl}

-- ── split ──

pub split_slash : (c : ℕ) (cs : Octets) → eqb c 47 ≡ true → split (c ∷ cs) ≡ [] ∷ split cs
unfolding split
split_slash c cs e = rw e

pub split_other : (c : ℕ) (cs : Octets) → eqb c 47 ≡ false → split (c ∷ cs) ≡ glued c (split cs)
unfolding split
split_other c cs e = rw e

slashed-glued : (c : ℕ) (ps : Names) (cs : Octets) → slashed ps ≡ 47 ∷ cs → slashed (glued c ps) ≡ 47 ∷ c ∷ cs
unfolding slashed glued
slashed-glued c [] cs e = cc
slashed-glued c (p ∷ ps) cs e = cc

slashed_step : (c : ℕ) (cs : Octets) (b : Bool) → eqb c 47 ≡ b → slashed (split cs) ≡ 47 ∷ cs → slashed (split (c ∷ cs)) ≡ 47 ∷ c ∷ cs
unfolding slashed
slashed_step c cs true e h = rw (split_slash c cs e) (rw h (rw (eqb-true c 47 e)))
slashed_step c cs false e h = rw (split_other c cs e) (slashed-glued c (split cs) cs h)

-- a text is its pieces with slashes between them
pub slashed-split : (cs : Octets) → slashed (split cs) ≡ 47 ∷ cs
unfolding slashed split
slashed-split [] = refl
slashed-split (c ∷ cs) = slashed_step c cs (eqb c 47) refl (slashed-split cs)

pub name_no_slash : (c : ℕ) → name_byte c ≡ true → eqb c 47 ≡ false
unfolding name_byte
name_no_slash c h = ne_eqb c 47 (λ e. false≢true (ap name_byte (sym e) ∙ h))

pub name-bytes : (n : Name) → is_name n ≡ true → all_bytes n ≡ true
unfolding is_name
name-bytes [] h = absurd (false≢true h)
name-bytes (c ∷ n) h = h

split_joined : (n : Name) (ns : Names) → all_bytes n ≡ true → split (slashed ns) ≡ [] ∷ ns → split (n ++ slashed ns) ≡ n ∷ ns
unfolding all_bytes glued
split_joined [] ns h e = e
split_joined (c ∷ n) ns h e =
    split_other c (n ++ slashed ns) (name_no_slash c (both_true (name_byte c) (all_bytes n) h).0)
    ∙ rw (split_joined n ns (both_true (name_byte c) (all_bytes n) h).1 e)

-- names with a slash before each are those names again
pub split-slashed : (ns : Names) → all_names ns ≡ true → split (slashed ns) ≡ [] ∷ ns
unfolding slashed all_names split
split-slashed [] h = refl
split-slashed (n ∷ ns) h =
    ap (λ (l : Names). [] ∷ l)
    (split_joined n ns (name-bytes n (both_true (is_name n) (all_names ns) h).0) (split-slashed ns (both_true (is_name n) (all_names ns) h).1))

pub split-names : (n : Name) (ns : Names) → all_names (n ∷ ns) ≡ true → split (n ++ slashed ns) ≡ n ∷ ns
unfolding split slashed
split-names n ns h = let e = split-slashed (n ∷ ns) h in cc

-- ── full paths ──

-- what is known of a full path's text and its names
pub record Full (s : Octets) (ns : Names) : Type 0 where
  pub text : s ≡ path_text ns
  pub names : all_names ns ≡ true
  pub short : length s ≤ longest_absolute

-- of a relative one's: with a slash before it, it is that of its names
pub record Below (s : Octets) (ns : Names) : Type 0 where
  pub text : 47 ∷ s ≡ slashed ns
  pub pieces : ns ≡ split s
  pub names : all_names ns ≡ true
  pub short : length s ≤ longest_relative

-- and of an event name
pub record Event (s t : Octets) : Type 0 where
  pub text : t ≡ s
  pub named : (same s introduce_name || same s release_name) ≡ true

abbrev pub Means : Octets → Given → Type 0
Means s malformed = Unit
Means s (absolute ns) = Full s ns
Means s (relative ns) = Below s ns
Means s (special t) = Event s t

means_if : (s : Octets) (t : Bool) (g : Given) → (t ≡ true → Means s g) → Means s (cond t g malformed)
means_if s true g h = h refl
means_if s false g h = tt

means_by : (s : Octets) (a b : Bool) (x y z : Given) → (a ≡ true → Means s x) → Means s y → Means s z → Means s (cond a x (cond b y z))
means_by s true b x y z f g h = f refl
means_by s false true x y z f g h = g
means_by s false false x y z f g h = h

slashed-text : (c : ℕ) (cs : Octets) (ns : Names) → c ∷ cs ≡ slashed ns → c ∷ cs ≡ path_text ns
unfolding slashed path_text
slashed-text c cs [] e = cc
slashed-text c cs (n ∷ ns) e = e

means_slash : (cs : Octets) → Means (47 ∷ cs) (after_slash (47 ∷ cs) cs)
unfolding after_slash path_text checked all_names
means_slash [] = record { text = refl; names = refl; short = omega arith }
means_slash (d ∷ ds) =
    let short = leb (length (47 ∷ d ∷ ds)) longest_absolute in
    let sound = all_names (split (d ∷ ds)) in
    means_if (47 ∷ d ∷ ds) (short && sound) (absolute (split (d ∷ ds)))
    (λ h. record {
      text = slashed-text 47 (d ∷ ds) _ (sym (slashed-split (d ∷ ds)));
      names = (both_true short sound h).1;
      short = leb-true _ _ (both_true short sound h).0;
    })

means_special : (s : Octets) → Means s (special_of s)
unfolding special_of
means_special s = means_if s (same s introduce_name || same s release_name) (special s) (λ h. record { text = refl; named = h })

means_relative : (s : Octets) → Means s (checked longest_relative relative s (split s))
unfolding checked
means_relative s =
    let short = leb (length s) longest_relative in
    let sound = all_names (split s) in
    means_if s (short && sound) (relative (split s))
    (λ h. record {
      text = sym (slashed-split s);
      pieces = refl;
      names = (both_true short sound h).1;
      short = leb-true _ _ (both_true short sound h).0;
    })

-- what a path in a payload is says what its text is
pub means : (s : Octets) → Means s (given s)
unfolding given
means [] = tt
means (c ∷ cs) =
    means_by (c ∷ cs) (eqb c 47) (eqb c 64) _ _ _
    (λ e. subst (λ (k : ℕ). Means (k ∷ cs) (after_slash (k ∷ cs) cs)) (sym (eqb-true c 47 e)) (means_slash cs)) (means_special (c ∷ cs))
    (means_relative (c ∷ cs))

module _ (s : Octets) where
  pub given-full : (ns : Names) → given s ≡ absolute ns → Full s ns
  given-full ns e = subst (Means s) e (means s)

  pub given_below : (ns : Names) → given s ≡ relative ns → Below s ns
  given_below ns e = subst (Means s) e (means s)

  pub given-event : (t : Octets) → given s ≡ special t → Event s t
  given-event t e = subst (Means s) e (means s)

pub no_empty_name : (ns : Names) → all_names ([] ∷ ns) ≡ true → ⊥
unfolding all_names is_name
no_empty_name ns h = false≢true h

-- and back: names that are not too long together are those of their text
pub text-given : (ns : Names) → all_names ns ≡ true → length (path_text ns) ≤ longest_absolute → given (path_text ns) ≡ absolute ns
unfolding path_text slashed given after_slash checked
text-given [] h l = refl
text-given ([] ∷ ns) h l = absurd (no_empty_name ns h)
text-given ((c ∷ n) ∷ ns) h l = rw (split-names (c ∷ n) ns h, h, le-leb _ _ l)

full_by_lem : (s : Octets) (g : Given) → given s ≡ g → is_full s ≡ true → given s ≡ absolute (names_in s)
unfolding is_full names_in
full_by_lem s malformed e h = absurd (false≢true (rw (e, is_full) at h))
full_by_lem s (absolute ns) e h = rw (e, names_in)
full_by_lem s (relative ns) e h = absurd (false≢true (rw (e, is_full) at h))
full_by_lem s (special t) e h = absurd (false≢true (rw (e, is_full) at h))

-- a full path's text is that of its names
pub full-given : (s : Octets) → is_full s ≡ true → given s ≡ absolute (names_in s)
full-given s h = full_by_lem s (given s) refl h

pub full : (s : Octets) → is_full s ≡ true → Full s (names_in s)
full s h = given-full s (names_in s) (full-given s h)

pub given-names : (s : Octets) (ns : Names) → given s ≡ absolute ns → names_in s ≡ ns
unfolding names_in
given-names s ns e = rw (e, names_in)

pub given_is_full : (s : Octets) (ns : Names) → given s ≡ absolute ns → is_full s ≡ true
unfolding is_full
given_is_full s ns e = rw (e, is_full)

pub text-names : (ns : Names) → all_names ns ≡ true → length (path_text ns) ≤ longest_absolute → names_in (path_text ns) ≡ ns
text-names ns h l = given-names (path_text ns) ns (text-given ns h l)

pub text-full : (ns : Names) → all_names ns ≡ true → length (path_text ns) ≤ longest_absolute → is_full (path_text ns) ≡ true
text-full ns h l = given_is_full (path_text ns) ns (text-given ns h l)

-- a full path begins with a slash; the root is that slash, and of any other the pieces after it are the names
text_slash : (ns : Names) → path_text ns ≡ 47 ∷ drop 1 (path_text ns)
unfolding path_text slashed
text_slash [] = refl
text_slash (n ∷ ns) = refl

text-root : (ns : Names) → all_names ns ≡ true → length (path_text ns) ≡ 1 → ns ≡ []
unfolding path_text slashed
text-root [] h l = refl
text-root ([] ∷ ns) h l = absurd (no_empty_name ns h)
text-root ((c ∷ n) ∷ ns) h l = absurd (omega arith)

text-split : (ns : Names) → all_names ns ≡ true → (length (path_text ns) ≡ 1 → ⊥) → ns ≡ split (drop 1 (path_text ns))
unfolding path_text slashed
text-split [] h l = absurd (l refl)
text-split (n ∷ ns) h l = sym (split-names n ns h)

module _ (s : Octets) (h : is_full s ≡ true) where
  pub full_slash : s ≡ 47 ∷ drop 1 s
  full_slash = rw (full s h).text (text_slash (names_in s))

  pub full-root : length s ≡ 1 → names_in s ≡ []
  full-root l = text-root (names_in s) (full s h).names (rw (full s h).text at l)

  pub full-split : (length s ≡ 1 → ⊥) → names_in s ≡ split (drop 1 s)
  full-split l =
      let e = (full s h).text in
      text-split (names_in s) (full s h).names (λ k. l (ap length e ∙ k)) ∙ ap (λ (t : Octets). split (drop 1 t)) (sym e)

-- ── sizes ──

slashed-length : (ns : Names) → short_names ns ≡ true → length (slashed ns) ≤ length ns * (1 + longest_name)
unfolding slashed short_names
slashed-length [] h = omega arith
slashed-length (n ∷ ns) h =
    let l = leb-true (length n) longest_name (both_true (leb (length n) longest_name) (short_names ns) h).0 in
    let m = slashed-length ns (both_true (leb (length n) longest_name) (short_names ns) h).1 in
    simp length-append (omega arith)

pub fits-length : (ns : Names) → fits ns ≡ true → length (path_text ns) ≤ longest_path
unfolding fits path_text
fits-length [] h = omega arith
fits-length (n ∷ ns) h =
    let short = short_names (n ∷ ns) in
    let d = leb-true (length (n ∷ ns)) deepest (both_true (leb (length (n ∷ ns)) deepest) short h).0 in
    let l = slashed-length (n ∷ ns) (both_true (leb (length (n ∷ ns)) deepest) short h).1 in
    omega arith

-- ── above and below ──

beyond_by : (n p : Name) (ns ps rest : Names) (b : Bool) → same n p ≡ b → ((rs : Names) → beyond ns ps ≡ some rs → ps ≡ ns ++ rs)
    → cond b (beyond ns ps) none ≡ some rest → p ∷ ps ≡ n ∷ (ns ++ rest)
beyond_by n p ns ps rest true e f h = let q = same_eq n p e in let r = f rest h in cc
beyond_by n p ns ps rest false e f h = cc

-- what is left below a path is what is put after it
pub beyond-rest : (a b rest : Names) → beyond a b ≡ some rest → b ≡ a ++ rest
unfolding beyond
beyond-rest [] b rest h = cc
beyond-rest (n ∷ ns) [] rest h = cc
beyond-rest (n ∷ ns) (p ∷ ps) rest h = beyond_by n p ns ps rest (same n p) refl (beyond-rest ns ps) h

pub beyond_append : (a rest : Names) → beyond a (a ++ rest) ≡ some rest
unfolding beyond
beyond_append [] rest = refl
beyond_append (n ∷ ns) rest = rw (same_refl n) (beyond_append ns rest)
