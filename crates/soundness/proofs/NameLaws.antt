-- Names, byte by byte.
use mathlib.Core.Path.{◌≡◌, refl, sym, ap, ◌∙◌}
use mathlib.Core.Bool.{Bool, true, false, not, ◌&&◌, ◌||◌, and-false, and-true, or-false}
use mathlib.Core.List.{[], ◌∷◌}
use Prim.Native.Nat.{ℕ, zero, suc, ◌+◌, ◌≤◌, ◌<◌}
use native.Mathlib.Numerals.{add-one}
use native.Mathlib.Omega.{arith}
use lib.ListN.{length, get_or, drop, drop_of_length-le}
use lib.Seq.{drop-cons}
use lib.Dec.{eqb, leb, eqb-suc-zero}
use borrow.Author.Tests.{le-leb, lt-leb, ne_eqb}
use Rattle.rules.specs.Octets.{Octets, same}
use Rattle.rules.specs.Path.{Name, name_byte, all_bytes, is_name}
use Rattle.rules.specs.Sound.{good_name}

-- a name is not empty, and of a name's bytes
pub name-parts : (s : Name) → is_name s ≡ not (eqb (length s) 0) && all_bytes s
unfolding is_name
name-parts [] = refl
name-parts (c ∷ cs) = rw (eqb-suc-zero (length cs)) refl

next : (s : Octets) (i : ℕ) → i < length s → all_bytes (drop i s) ≡ name_byte (get_or s i 0) && all_bytes (drop (i + 1) s)
unfolding all_bytes
next s i h = rw (drop-cons s i 0 h, add-one) refl

module _ (s : Octets) (i : ℕ) (inv : all_bytes s ≡ all_bytes (drop i s)) (h : i < length s) {b : Bool} (e : b ≡ name_byte (get_or s i 0)) where
  pub name_further : b ≡ true → all_bytes s ≡ all_bytes (drop (i + 1) s)
  name_further f = inv ∙ next s i h ∙ rw (← e, f) refl

  pub name-refused : b ≡ false → false ≡ is_name s
  name-refused f = sym (name-parts s ∙ rw (inv, next s i h, ← e, f) (and-false (not (eqb (length s) 0))))

-- ── a byte, by where it stands ──

module _ (c : ℕ) where
  pub byte_small : 97 ≤ c → leb c 122 ≡ name_byte c
  unfolding name_byte
  byte_small h =
      sym (rw (
        le-leb 97 c h,
        le-leb 65 c (omega arith),
        lt-leb c 90 (omega arith),
        le-leb 48 c (omega arith),
        lt-leb c 57 (omega arith),
        ne_eqb c 45 (λ e. omega arith),
        ne_eqb c 95 (λ e. omega arith),
        ne_eqb c 64 (λ e. omega arith),
      ) (or-false (leb c 122)))

  pub byte_large : c < 97 → 65 ≤ c → (leb c 90 || eqb c 95) ≡ name_byte c
  unfolding name_byte
  byte_large l h =
      sym (rw (
        lt-leb 97 c l,
        le-leb 65 c h,
        le-leb 48 c (omega arith),
        lt-leb c 57 (omega arith),
        ne_eqb c 45 (λ e. omega arith),
        ne_eqb c 64 (λ e. omega arith),
      ) (ap (λ (b : Bool). leb c 90 || b) (or-false (eqb c 95))))

  pub byte_digit : c < 97 → c < 65 → 48 ≤ c → (leb c 57 || eqb c 64) ≡ name_byte c
  unfolding name_byte
  byte_digit l m h =
      sym (rw (lt-leb 97 c l, lt-leb 65 c m, le-leb 48 c h, ne_eqb c 45 (λ e. omega arith), ne_eqb c 95 (λ e. omega arith)) refl)

  pub byte_other : c < 97 → c < 65 → c < 48 → eqb c 45 ≡ name_byte c
  unfolding name_byte
  byte_other l m h =
      sym (rw (lt-leb 97 c l, lt-leb 65 c m, lt-leb 48 c h, ne_eqb c 95 (λ e. omega arith), ne_eqb c 64 (λ e. omega arith)) (or-false (eqb c 45)))

pub name-ended : (s : Octets) (i : ℕ) → all_bytes s ≡ all_bytes (drop i s) → length s ≤ i → not (eqb (length s) 0) ≡ is_name s
unfolding all_bytes
name-ended s i inv h = sym (name-parts s ∙ rw (inv, drop_of_length-le s {i = i} h) (and-true (not (eqb (length s) 0))))

pub root-name : (n : Name) → eqb (length n) 0 ≡ good_name 0 n
unfolding good_name same
root-name [] = refl
root-name (c ∷ cs) = eqb-suc-zero (length cs)

pub other_name : (i : ℕ) (n : Name) → (i ≡ 0 → ⊥) → is_name n ≡ good_name i n
unfolding good_name
other_name zero n h = absurd (h refl)
other_name (suc i) n h = refl

-- the same, of a name that was read
pub root-good : {i : ℕ} {s n : Name} → i ≡ 0 → s ≡ n → eqb (length s) 0 ≡ good_name i n
root-good {s} {n} e f = ap (λ (x : Name). eqb (length x) 0) f ∙ rw e (root-name n)
