-- The strings of a payload: the first, and those after it.
use mathlib.Core.Path.{◌≡◌, refl, ap, sym, subst, ◌∙◌}
use mathlib.Core.Bool.{Bool, true, false}
use mathlib.Core.List.{List, [], ◌∷◌, ◌++◌}
use mathlib.Core.Option.{Option, none, some}
use Prim.Native.Nat.{ℕ, ◌+◌, ◌-◌, ◌<◌, ◌≤◌}
use native.Mathlib.Nat.{add-sub_cancel_left, add_assoc, sub-zero}
use native.Mathlib.Omega.{arith}
use lib.Dec.{eqb}
use lib.ListN.{length, take, drop, length-append, length-drop}
use lib.Seq.{length-take-le, take-append_seam, drop_at, drop-append-add, drop-drop}
use borrow.Author.Tests.{eqb-true}
use Rattle.rules.specs.Octets.{Octets}
use Rattle.rules.specs.Payload.{Taken, strings, before, ended, first_string}
use Rattle.payload.specs.Strings.{part, prepended}

-- a payload whose first string is t
pub record Begun (s : Octets) (t : Taken) : Type 0 where
  pub whole : s ≡ t.first ++ (0 ∷ t.rest)
  pub all : strings s ≡ prepended t.first (strings t.rest)

abbrev longer : ℕ → Option Taken → Option Taken
longer c o = elim o [ none ↦ none | some t ↦ some (record { first = c ∷ t.first; rest = t.rest }) ]

first_other : (c : ℕ) (cs : Octets) → eqb c 0 ≡ false → first_string (c ∷ cs) ≡ longer c (first_string cs)
unfolding first_string
first_other c cs e = rw e

strings_other : (c : ℕ) (cs : Octets) → eqb c 0 ≡ false → strings (c ∷ cs) ≡ before c (strings cs)
unfolding strings
strings_other c cs e = rw e

strings-nul : (c : ℕ) (cs : Octets) → eqb c 0 ≡ true → strings (c ∷ cs) ≡ ended (strings cs)
unfolding strings
strings-nul c cs e = rw e

first-nul : (c : ℕ) (cs : Octets) → eqb c 0 ≡ true → first_string (c ∷ cs) ≡ some (record { first = []; rest = cs })
unfolding first_string
first-nul c cs e = rw e

ended-prepended : (o : Option (List Octets)) → ended o ≡ prepended [] o
unfolding ended prepended
ended-prepended none = refl
ended-prepended (some ts) = refl

before-prepended : (c : ℕ) (t : Octets) (o : Option (List Octets)) → before c (prepended t o) ≡ prepended (c ∷ t) o
unfolding before prepended
before-prepended c t none = refl
before-prepended c t (some ts) = refl

nul_begun : (c : ℕ) (cs : Octets) → eqb c 0 ≡ true → Begun (c ∷ cs) (record { first = []; rest = cs })
nul_begun c cs e =
    record {
      whole = ap (λ (k : ℕ). k ∷ cs) (eqb-true c 0 e);
      all = strings-nul c cs e ∙ ended-prepended (strings cs);
    }

longer_begun : (c : ℕ) (cs : Octets) (u : Taken) → eqb c 0 ≡ false → Begun cs u → Begun (c ∷ cs) (record { first = c ∷ u.first; rest = u.rest })
longer_begun c cs u e h =
    record {
      whole = ap (λ (l : Octets). c ∷ l) h.whole;
      all = strings_other c cs e ∙ (ap (before c) h.all ∙ before-prepended c u.first (strings u.rest));
    }

some_eq : {t u : Taken} → some t ≡ some u → t ≡ u
some_eq e = cc

begun_by : (c : ℕ) (cs : Octets) (t : Taken) (b : Bool) → eqb c 0 ≡ b → ((u : Taken) → first_string cs ≡ some u → Begun cs u)
    → first_string (c ∷ cs) ≡ some t → Begun (c ∷ cs) t
begun_by c cs t true b more e = subst (Begun (c ∷ cs)) (some_eq (sym (first-nul c cs b) ∙ e)) (nul_begun c cs b)
begun_by c cs t false b more e = by (first_string cs) refl
  where
    by : (o : Option Taken) → first_string cs ≡ o → Begun (c ∷ cs) t
    by none f = absurd (let g = first_other c cs b ∙ ap (longer c) f in let z : ◌≡◌ {A = ℕ} 0 1 = cc in omega arith)
    by (some u) f =
        subst (Begun (c ∷ cs)) (some_eq (sym (first_other c cs b ∙ ap (longer c) f) ∙ e)) (longer_begun c cs u b (more u f))

-- the first string, its nul, and the rest
pub begun : (s : Octets) (t : Taken) → first_string s ≡ some t → Begun s t
unfolding first_string
begun [] t e = absurd (let z : ◌≡◌ {A = ℕ} 0 1 = cc in omega arith)
begun (c ∷ cs) t e = begun_by c cs t (eqb c 0) refl (begun cs) e

no_first : (c : ℕ) (cs : Octets) (b : Bool) → eqb c 0 ≡ b → first_string (c ∷ cs) ≡ none → (eqb c 0 ≡ false) × (first_string cs ≡ none)
no_first c cs true b e = absurd (let g = first-nul c cs b in let z : ◌≡◌ {A = ℕ} 0 1 = cc in omega arith)
no_first c cs false b e = (b, by (first_string cs) refl)
  where
    by : (o : Option Taken) → first_string cs ≡ o → first_string cs ≡ none
    by none f = f
    by (some u) f = absurd (let g = first_other c cs b ∙ ap (longer c) f in let z : ◌≡◌ {A = ℕ} 0 1 = cc in omega arith)

-- with no nul, bytes are left over
pub left_over : (s : Octets) → first_string s ≡ none → 0 < length s → strings s ≡ none
unfolding strings before
left_over [] e h = absurd (omega arith)
left_over (c ∷ []) e h = strings_other c [] (no_first c [] (eqb c 0) refl e).0
left_over (c ∷ d ∷ cs) e h =
    let n = no_first c (d ∷ cs) (eqb c 0) refl e in
    strings_other c (d ∷ cs) n.0 ∙ ap (before c) (left_over (d ∷ cs) n.1 (omega arith))

pub none_left : (s : Octets) → length s ≤ 0 → strings s ≡ some []
unfolding strings
none_left [] h = refl
none_left (c ∷ cs) h = absurd (omega arith)

pub length_part : (a e : ℕ) (s : Octets) → e ≤ length s → length (part a e s) ≡ e - a
length_part a e s h = length-take-le (e - a) (drop a s) (omega (arith, length-drop a s))

pub part-first : (e : ℕ) (s : Octets) → part 0 e s ≡ take e s
part-first e s = ap (λ (n : ℕ). take n s) (sub-zero e)

-- A string of s that starts at `at` and ends, with a nul, at e.
pub record StringAt (s : Octets) (at e : ℕ) : Type 0 where
  pub low : at ≤ e
  pub high : e < length s
  pub all : strings (drop at s) ≡ prepended (part at e s) (strings (drop (e + 1) s))

-- what is taken from `at` on
pub record TakenAt (s : Octets) (at : ℕ) (t : Taken) : Type 0 where
  pub string : StringAt s at (at + length t.first)
  pub first : t.first ≡ part at (at + length t.first) s
  pub rest : t.rest ≡ drop (at + length t.first + 1) s

pub taken_at_lem : (s : Octets) (at : ℕ) (t : Taken) → first_string (drop at s) ≡ some t → TakenAt s at t
taken_at_lem s at t e = record { string = record { low = omega arith; high = high; all = all }; first = first; rest = rest }
  where
    b : Begun (drop at s) t
    b = begun (drop at s) t e

    high : at + length t.first < length s
    high = omega (arith, length-drop at s, ap length b.whole, length-append t.first (0 ∷ t.rest))

    first : t.first ≡ part at (at + length t.first) s
    first = rw (add-sub_cancel_left at (length t.first), b.whole, take-append_seam t.first (0 ∷ t.rest))

    rest : t.rest ≡ drop (at + length t.first + 1) s
    rest = sym (rw (add_assoc at (length t.first) 1, ← drop-drop (length t.first + 1) at s, b.whole) (drop-append-add t.first (0 ∷ t.rest) 1))

    all : strings (drop at s) ≡ prepended (part at (at + length t.first) s) (strings (drop (at + length t.first + 1) s))
    all = b.all ∙ (ap (λ (l : Octets). prepended l (strings t.rest)) first
        ∙ ap (λ (l : Octets). prepended (part at (at + length t.first) s) (strings l)) rest)

-- ── strings that are all there, nul after nul ──

unfoldable pub flat : List Octets → Octets
flat [] = []
flat (t ∷ ts) = t ++ (0 ∷ flat ts)

ended_flat : (o : Option (List Octets)) (cs : Octets) (ts : List Octets) → ((us : List Octets) → o ≡ some us → cs ≡ flat us) →
    ended o ≡ some ts → 0 ∷ cs ≡ flat ts
unfolding ended flat
ended_flat none cs ts h e = absurd (let z : ◌≡◌ {A = ℕ} 0 1 = cc in omega arith)
ended_flat (some us) cs ts h e =
    let f : [] ∷ us ≡ ts = cc in
    ap (λ (l : Octets). 0 ∷ l) (h us refl) ∙ ap flat f

before_flat : (c : ℕ) (o : Option (List Octets)) (cs : Octets) (ts : List Octets) → ((us : List Octets) → o ≡ some us → cs ≡ flat us) →
    before c o ≡ some ts → c ∷ cs ≡ flat ts
unfolding before flat
before_flat c none cs ts h e = absurd (let z : ◌≡◌ {A = ℕ} 0 1 = cc in omega arith)
before_flat c (some []) cs ts h e = absurd (let z : ◌≡◌ {A = ℕ} 0 1 = cc in omega arith)
before_flat c (some (u ∷ us)) cs ts h e =
    let f : (c ∷ u) ∷ us ≡ ts = cc in
    ap (λ (l : Octets). c ∷ l) (h (u ∷ us) refl) ∙ ap flat f

flat_by : (c : ℕ) (cs : Octets) (ts : List Octets) (b : Bool) → eqb c 0 ≡ b → ((us : List Octets) → strings cs ≡ some us → cs ≡ flat us) →
    strings (c ∷ cs) ≡ some ts → c ∷ cs ≡ flat ts
flat_by c cs ts true b h e =
    ap (λ (k : ℕ). k ∷ cs) (eqb-true c 0 b) ∙ ended_flat (strings cs) cs ts h (sym (strings-nul c cs b) ∙ e)
flat_by c cs ts false b h e = before_flat c (strings cs) cs ts h (sym (strings_other c cs b) ∙ e)

pub strings_flat : (s : Octets) (ts : List Octets) → strings s ≡ some ts → s ≡ flat ts
unfolding strings flat
strings_flat [] ts e = let f : [] ≡ ts = cc in ap flat f
strings_flat (c ∷ cs) ts e = flat_by c cs ts (eqb c 0) refl (strings_flat cs) e

-- a string between others is the bytes at its place
pub part_at : (p t q s : Octets) (a e : ℕ) → s ≡ p ++ (t ++ q) → length p ≡ a → a + length t ≡ e → part a e s ≡ t
part_at p t q s a e h l m =
    let n : e - a ≡ length t = omega arith in
    rw (n, h, drop_at p (t ++ q) a l, take-append_seam t q)
