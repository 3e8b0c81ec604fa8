-- A transaction's changes as bytes: when they re-encode to themselves, one by one and part by part.
use mathlib.Core.Path.{◌≡◌, refl, sym, ap, ap₂, ◌∙◌}
use mathlib.Core.Bool.{Bool, true, false, ◌&&◌, true≢false}
use mathlib.Core.List.{List, [], ◌∷◌, ◌++◌}
use Prim.Native.Nat.{ℕ, ◌+◌, ◌*◌, ◌-◌, ◌/◌, ◌%◌, ◌≤◌, ◌<◌}
use native.Mathlib.Nat.{add-zero, div-add-mod', div-div-eq-div-mul, mod-lt}
use native.Mathlib.Omega.{arith}
use lib.ListN.{length, get_or, take, drop, replicate}
use lib.Seq.{take-add, take-take, take_at, drop_at, drop-drop, length-take-le}
use lib.Dec.{eqb, lit≤, lit<}
use Rattle.rules.specs.Size.{change_fields_size, change_size, longest_path}
use Rattle.rules.specs.Octets.{Octets, same, padded, field, bits_at, bit}
use Rattle.rules.specs.Path.{Given, malformed, absolute, relative, special, given, names_in, all_names, is_full, path_text}
use Rattle.rules.specs.Answer.{Change}
use Rattle.rules.specs.Layout.{text_at, change_bytes, change_in}
use Rattle.rules.proofs.Compare.{eq_same}
use Rattle.rules.proofs.PathLaws.{Means, means, full, text-full}
use Rattle.rules.proofs.Fields.{take-drop-take, field-part, field_two, bit_small}
use Rattle.rules.proofs.Slots.{text-short}
use Rattle.rules.proofs.Reencoding.{same_append}
use Rattle.rules.proofs.TransactionLayouts.{ChangeFits}
use Rattle.octets.specs.Read.{Bytes}
use Rattle.octets.specs.Numbers.{rest_zero}
use Rattle.transactions.specs.Checks.{change_kept}
use Rattle.paths.specs.Form.{form_of}
use Rattle.paths.specs.declared.answer.Form.TheVariants.{Absolute}
use Rattle.domains.proofs.Rows.{part_at, part_length, listed_from, text-part, text-field, same-field, differ}
use Rattle.octets.proofs.Bytes.{bit_of}
use Rattle.transactions.proofs.ChangeLaws.{two_of, change-parts, change-wide}

-- ── a change ──

-- whether a text of that meaning is a full path's
abbrev pub full_by : Given → Bool
full_by malformed = false
full_by (absolute ns) = true
full_by (relative ns) = false
full_by (special e) = false

full_by_lem : (t : Octets) (g : Given) → given t ≡ g → is_full t ≡ full_by g
unfolding is_full
full_by_lem t g e = ap full_by e

-- a text of another form than the absolute one is not a full path
pub form-other : (t : Octets) → (form_of (given t) ≡ Absolute → ⊥) → is_full t ≡ false
unfolding form_of
form-other t other = full_by_lem t (given t) refl ∙ go (given t) other
  where
    go : (g : Given) → (form_of g ≡ Absolute → ⊥) → full_by g ≡ false
    go malformed other = refl
    go (absolute ns) other = absurd (other refl)
    go (relative ns) other = refl
    go (special e) other = refl

names-short : (t : Octets) → length t ≤ longest_path → length (path_text (names_in t)) ≤ longest_path
unfolding names_in path_text
names-short t l = go (given t) (means t)
  where
    go : (g : Given) → Means t g
        → length (path_text (elim g as (λ g. List Octets) [ malformed ↦ [] | absolute ns ↦ ns | relative ns ↦ [] | special e ↦ [] ])) ≤ longest_path
    go malformed m = lit≤ tt
    go (absolute ns) m = omega (arith, ap length m.text)
    go (relative ns) m = lit≤ tt
    go (special e) m = lit≤ tt

names-all : (t : Octets) → all_names (names_in t) ≡ true
unfolding names_in all_names
names-all t = go (given t) (means t)
  where
    go : (g : Given) → Means t g → all_names (elim g as (λ g. List Octets) [ malformed ↦ [] | absolute ns ↦ ns | relative ns ↦ [] | special e ↦ [] ]) ≡ true
    go malformed m = refl
    go (absolute ns) m = m.names
    go (relative ns) m = refl
    go (special e) m = refl

read_short : (r : Octets) → length (path_text (change_in r).names) ≤ longest_path
unfolding change_in
read_short r =
    let n = bits_at (field r 0 change_fields_size) 0 9 in
    names-short (text_at r change_fields_size longest_path n) (text-short r change_fields_size longest_path n)

read_names : (r : Octets) → all_names (change_in r).names ≡ true
unfolding change_in
read_names r = names-all (text_at r change_fields_size longest_path (bits_at (field r 0 change_fields_size) 0 9))

read-few : (r : Octets) → (change_in r).parents < 8
unfolding change_in bits_at
read-few r = mod-lt _ (lit< tt)

read_fits : (r : Octets) → ChangeFits (change_in r)
read_fits r = record { parents = read-few r; names = read_names r; short = read_short r }

pub change-long : (r : Octets) → length (change_bytes (change_in r)) ≡ change_size
change-long r = change-wide (change_in r) (read_fits r)

-- ── n changes from `at` on ──

pub change_row : (s : Octets) (at n j : ℕ) → j < n
    → take change_size (drop (j * change_size) (take (n * change_size) (drop at s))) ≡ take change_size (drop (at + j * change_size) s)
change_row s at n j l =
    take-drop-take change_size (j * change_size) (n * change_size) (drop at s) (omega arith) ∙ ap (take change_size) (drop-drop (j * change_size) at s)

-- ── the parts of a change ──

number_said : (x y r k l : ℕ) → 128 * r + 2 * k + l / 256 ≡ x → l % 256 ≡ y → r < 2 → k < 8 → l ≤ longest_path
    → ((x * 256 + y) / 4096 % 8 ≡ 0) × ((x * 256 + y) % 512 ≡ l)
number_said x y r k l hx hy hr hk hl =
    let n : x * 256 + y ≡ r * 32768 + k * 512 + l = omega (arith, div-add-mod' l 256) in
    number-parts _ r k l n hr hk hl
  where
    number-parts : (n r k l : ℕ) → n ≡ r * 32768 + k * 512 + l → r < 2 → k < 8 → l ≤ longest_path → (n / 4096 % 8 ≡ 0) × (n % 512 ≡ l)
    number-parts n r k l e hr hk hl = (omega arith, omega arith)

first_forward : (x : ℕ) → x / 16 % 8 ≡ 0 → 128 * (x / 128) + 2 * (x / 2 % 8) + x % 2 ≡ x
first_forward x z =
    let a : x / 2 / 8 ≡ x / 16 = div-div-eq-div-mul x 2 8 in
    let b : x / 16 / 8 ≡ x / 128 = div-div-eq-div-mul x 16 8 in
    omega (arith, div-add-mod' x 2, div-add-mod' (x / 2) 8, div-add-mod' (x / 16) 8)

two_forward : (x y : ℕ) → x < 256 → y < 256 → (x * 256 + y) / 4096 % 8 ≡ 0
    → let n = (x * 256 + y) % 512 in (128 * (x / 128) + 2 * (x / 2 % 8) + n / 256 ≡ x) × (n % 256 ≡ y)
two_forward x y hx hy z =
    let a : (x * 256 + y) % 512 ≡ x % 2 * 256 + y = omega arith in
    let q : (x * 256 + y) / 4096 ≡ x / 16 = omega arith in
    let b : x / 16 % 8 ≡ 0 = ap (λ (n : ℕ). n % 8) (sym q) ∙ z in
    let d : (x % 2 * 256 + y) / 256 ≡ x % 2 = omega arith in
    let e : (x % 2 * 256 + y) % 256 ≡ y = omega arith in
    let front = 128 * (x / 128) + 2 * (x / 2 % 8) in
    (ap (λ (n : ℕ). front + n / 256) a ∙ ap (λ (n : ℕ). front + n) d ∙ first_forward x b, ap (λ (n : ℕ). n % 256) a ∙ e)

module _ (s : Octets) (at : ℕ) (bytes : Bytes s) (h : at + change_size ≤ length s) where
  abbrev row : Octets
  row = take change_size (drop at s)

  abbrev c : Change
  c = change_in row

  abbrev number : ℕ
  number = get_or s at 0 * 256 + get_or s (at + 1) 0

  head_is : field row 0 change_fields_size ≡ number
  head_is = field-part s at change_size 0 change_fields_size (lit≤ tt) ∙ ap (λ (p : ℕ). field s p change_fields_size) (add-zero at)
      ∙ field_two s at (omega arith)

  fields : (bits_at (field row 0 change_fields_size) 15 1 ≡ get_or s at 0 / 128) × (bits_at (field row 0 change_fields_size) 9 3 ≡ get_or s at 0 / 2 % 8)
      × (bits_at (field row 0 change_fields_size) 0 9 ≡ number % 512)
  unfolding bits_at
  fields =
      let x = bytes at in
      let y = bytes (at + 1) in
      rw head_is (omega arith, omega arith, omega arith)

  removal_is : c.removal ≡ eqb (get_or s at 0 / 128) 1
  unfolding change_in
  removal_is = ap (λ (n : ℕ). eqb n 1) fields.0

  parents_are : c.parents ≡ get_or s at 0 / 2 % 8
  unfolding change_in
  parents_are = fields.1

  -- the text, as it stands
  abbrev text : Octets
  text = text_at row change_fields_size longest_path (number % 512)

  names_are : c.names ≡ names_in text
  unfolding change_in
  names_are = ap (λ (n : ℕ). names_in (text_at row change_fields_size longest_path n)) fields.2

  first_two : take change_fields_size row ≡ get_or s at 0 ∷ get_or s (at + 1) 0 ∷ []
  first_two = take-take change_fields_size change_size (drop at s) (lit≤ tt) ∙ listed_from s at change_fields_size (omega arith)

  -- a change whose bytes are its own
  module _ (own : change_bytes c ≡ row) where
    twos : two_of c ≡ get_or s at 0 ∷ get_or s (at + 1) 0 ∷ []
    twos =
        sym (take_at (two_of c) (padded longest_path (path_text c.names)) change_fields_size refl)
        ∙ ap (take change_fields_size) (sym (change-parts c (read_fits row)) ∙ own) ∙ first_two

    record Said : Type 0 where
      zeros : number / 4096 % 8 ≡ 0
      long : number % 512 ≡ length (path_text c.names)

    said : Said
    said =
        let e = twos in
        let a : 128 * bit c.removal + 2 * c.parents + length (path_text c.names) / 256 ≡ get_or s at 0 = cc in
        let b : length (path_text c.names) % 256 ≡ get_or s (at + 1) 0 = cc in
        let n = number_said _ _ _ _ _ a b (bit_small c.removal) (read-few row) (read_short row) in
        record { zeros = n.0; long = n.1 }

    pub said_long : number % 512 ≤ longest_path
    said_long = rw said.long (read_short row)

    -- its text is the path's
    said_text : text ≡ path_text c.names
    unfolding text_at padded
    said_text =
        let p = path_text c.names in
        let body : drop change_fields_size row ≡ p ++ replicate (longest_path - length p) 0 =
        ap (drop change_fields_size) (sym own ∙ change-parts c (read_fits row)) ∙ drop_at (two_of c) (padded longest_path p) change_fields_size refl in
        ap₂ (λ (n : ℕ) (r : Octets). take n (take longest_path r)) said.long body
        ∙ take-take (length p) longest_path (p ++ replicate (longest_path - length p) 0) (read_short row)
        ∙ take_at p (replicate (longest_path - length p) 0) (length p) refl

    pub said_full : is_full text ≡ true
    said_full = rw said_text (text-full c.names (read_names row) (omega (arith, read_short row)))

  not_kept : (change_bytes c ≡ row → ⊥) → change_kept row ≡ false
  unfolding change_kept
  not_kept = differ (change_bytes c) row

  pub change-marked : (number / 4096 % 8 ≡ 0 → ⊥) → change_kept row ≡ false
  change-marked z = not_kept λ own. z (said own).zeros

  pub change_over : longest_path < number % 512 → change_kept row ≡ false
  change_over l = not_kept λ own. omega (arith, said_long own)

  pub change_unfull : number % 512 ≤ longest_path → is_full (part_at s (at + change_fields_size) (number % 512)) ≡ false → change_kept row ≡ false
  change_unfull l f =
      not_kept λ own.
      true≢false (sym (said_full own) ∙ ap is_full (sym (text-part s at change_size change_fields_size longest_path (number % 512) l (lit≤ tt))) ∙ f)

  module _ (z : number / 4096 % 8 ≡ 0) (l : number % 512 ≤ longest_path) (f : is_full (part_at s (at + change_fields_size) (number % 512)) ≡ true) where
    abbrev part : Octets
    part = take longest_path (drop (at + change_fields_size) s)

    text_is : text ≡ take (number % 512) part
    text_is = text-field s at change_size change_fields_size longest_path (number % 512) l (lit≤ tt)

    path_is : path_text c.names ≡ text
    path_is =
        let same_text = text-part s at change_size change_fields_size longest_path (number % 512) l (lit≤ tt) in
        ap path_text names_are ∙ sym (full text (ap is_full (sym same_text) ∙ f)).text

    path-long : length (path_text c.names) ≡ number % 512
    path-long = ap length (path_is ∙ text_is) ∙ length-take-le (number % 512) part (rw (part_length s (at + change_fields_size) longest_path (omega arith)) l)

    two_is : two_of c ≡ take change_fields_size row
    two_is =
        let x = get_or s at 0 in
        let y = get_or s (at + 1) 0 in
        let n = two_forward x y (bytes at) (bytes (at + 1)) z in
        let hb = bytes at in
        rw (removal_is, parents_are, path-long, bit_of (x / 128) (omega arith), n.0, n.1) (sym first_two)

    row_is : row ≡ take change_fields_size row ++ part
    row_is =
        take-add change_fields_size longest_path (drop at s)
        ∙ ap₂ ◌++◌ (sym (take-take change_fields_size change_size (drop at s) (lit≤ tt))) (ap (take longest_path) (drop-drop change_fields_size at s))

    pub change-rest : change_kept row ≡ rest_zero s (at + change_fields_size) (number % 512) longest_path
    unfolding change_kept
    change-rest =
        ap₂ same (change-parts c (read_fits row)) row_is
        ∙ same_append (two_of c) (padded longest_path (path_text c.names)) (take change_fields_size row) part (ap length two_is)
        ∙ ap₂ ◌&&◌ (eq_same two_is)
        (ap (λ (t : Octets). same (padded longest_path t) part) (path_is ∙ text_is)
        ∙ same-field s (at + change_fields_size) longest_path (number % 512) (omega arith) l)
