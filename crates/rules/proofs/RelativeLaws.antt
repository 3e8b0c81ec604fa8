-- Relative paths: the full path that one means.
use mathlib.Core.Path.{◌≡◌, refl, ap, sym, ◌∙◌}
use mathlib.Core.Bool.{Bool, true, ◌&&◌, and_assoc, or-true}
use mathlib.Core.List.{[], ◌∷◌, ◌++◌, append_assoc, append-nil}
use Prim.Native.Nat.{ℕ, ◌≤◌}
use native.Mathlib.Omega.{arith}
use lib.ListN.{length, length-append}
use Rattle.rules.specs.Size.{longest_absolute}
use Rattle.rules.specs.Octets.{Octets, text, decimal, is_digit, all_digits}
use Rattle.rules.specs.Path.{Domain, Names, name_byte, all_bytes, is_name, all_names, absolute, relative, given, base, slashed, path_text}
use Rattle.rules.proofs.Compare.{both_true}
use Rattle.rules.proofs.Decimals.{decimal_digits, length-decimal_le, length-decimal_pos}
use Rattle.rules.proofs.PathLaws.{given_below, text-given}

-- ── the base ──

pub slashed_append : (a b : Names) → slashed (a ++ b) ≡ slashed a ++ slashed b
unfolding slashed
slashed_append [] b = refl
slashed_append (n ∷ a) b = ap (λ (t : Octets). 47 ∷ t) (ap (λ (t : Octets). n ++ t) (slashed_append a b) ∙ sym (append_assoc n (slashed a) (slashed b)))

pub names_append : (a b : Names) → all_names (a ++ b) ≡ (all_names a && all_names b)
unfolding all_names
names_append [] b = refl
names_append (n ∷ a) b = ap (λ (t : Bool). is_name n && t) (names_append a b) ∙ sym (and_assoc (is_name n) (all_names a) (all_names b))

digit_name : (c : ℕ) → is_digit c ≡ true → name_byte c ≡ true
unfolding name_byte is_digit
digit_name c h = rw h (simp or-true)

digits_bytes : (s : Octets) → all_digits s ≡ true → all_bytes s ≡ true
unfolding all_digits all_bytes
digits_bytes [] h = refl
digits_bytes (c ∷ s) h =
    let hs = both_true (is_digit c) (all_digits s) h in
    rw (digit_name c hs.0) (digits_bytes s hs.1)

bytes-name : (s : Octets) → 1 ≤ length s → all_bytes s ≡ true → is_name s ≡ true
unfolding is_name
bytes-name [] l h = absurd (omega arith)
bytes-name (c ∷ s) l h = h

pub base-names : (d : Domain) → all_names (base d) ≡ true
unfolding base all_names is_name all_bytes name_byte text
base-names d = rw (bytes-name (decimal d) (length-decimal_pos d) (digits_bytes (decimal d) (decimal_digits d)))

-- ── the full path ──

module _ (d : Domain) (s : Octets) (ns : Names) (h : given s ≡ relative ns) where
  -- "a relative path from domain N means `/local/domain/N/` before it"
  pub relative-text : slashed (base d) ++ 47 ∷ s ≡ path_text (base d ++ ns)
  unfolding path_text base
  relative-text = ap (λ (t : Octets). slashed (base d) ++ t) (given_below s ns h).text ∙ sym (slashed_append (base d) ns)

  pub relative-names : all_names (base d ++ ns) ≡ true
  relative-names = names_append (base d) ns ∙ rw (base-names d, (given_below s ns h).names)

  base-length : length (slashed (base d)) ≤ 34
  unfolding base slashed text
  base-length = let l = length-decimal_le d in simp append-nil (omega arith)

  -- it is a full path, of the base and its names
  pub relative-given : given (slashed (base d) ++ 47 ∷ s) ≡ absolute (base d ++ ns)
  relative-given =
      let t = relative-text in
      let l = (given_below s ns h).short in
      let m = length-append (slashed (base d)) (47 ∷ s) in
      let k : length (path_text (base d ++ ns)) ≤ longest_absolute = rw (← t) (omega (arith, base-length)) in
      rw t (text-given (base d ++ ns) relative-names k)
