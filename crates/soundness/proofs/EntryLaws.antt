-- The entries of a slot against the rule book, as numbers.
use mathlib.Core.Path.{◌≡◌, refl, sym, ap, ◌∙◌}
use mathlib.Core.Bool.{and-true, and-false, Bool, true, ◌&&◌, and_comm}
use mathlib.Core.List.{List, [], ◌∷◌}
use Prim.Native.Nat.{ℕ, zero, suc, ◌+◌, ◌*◌, ◌-◌, ◌/◌, ◌%◌, ◌^◌, ◌≤◌, ◌<◌}
use native.Mathlib.Nat.{div-one, add_assoc, lt_of_le_of_lt}
use native.Mathlib.Omega.{arith}
use native.Mathlib.Decide.{ℕ_discrete}
use lib.ListN.{take}
use lib.Dec.{eqb, leb}
use borrow.Author.Tests.{ne_eqb, eq-eqb, lt-leb, le-leb}
use Rattle.rules.specs.Octets.{bits_at, pack, pack_from}
use Rattle.rules.specs.Node.{Entry}
use Rattle.rules.specs.Layout.{entry_at, entry_bits}
use Rattle.rules.specs.Sound.{good_entries}
use Rattle.soundness.specs.Parts.{low_domains}
use Rattle.soundness.proofs.Tests.{stop, both}

-- the entries of nine bytes that a count says
abbrev pub counted : ℕ → ℕ → List Entry
counted m c = entry_at m 3 ∷ take (c - 1) (entry_at m 2 ∷ entry_at m 1 ∷ entry_at m 0 ∷ [])

-- the four domains are no higher than the last
abbrev pub low : ℕ → ℕ → ℕ → ℕ → Bool
low a b c d = leb a 32751 && (leb b 32751 && (leb c 32751 && leb d 32751))

-- the domain of the entry with k more after it
abbrev dom : ℕ → ℕ → ℕ
dom m k = m / 2 ^ (18 * k) % 65536

abbrev packed : ℕ → ℕ → ℕ
packed m c = pack (entry_bits 4 (counted m c))

abbrev lows : ℕ → Bool
lows m = low (dom m 3) (dom m 2) (dom m 1) (m % 65536)

-- an entry as a number of 18 bits
word : Entry → ℕ
word e = e.access * 65536 + e.domain

module _ (a b c d : Entry) where
  pack_one : pack (entry_bits 4 (a ∷ [])) ≡ word a * 2 ^ 54
  unfolding pack pack_from entry_bits word
  pack_one = omega arith

  pack_two : pack (entry_bits 4 (a ∷ b ∷ [])) ≡ word a * 2 ^ 54 + word b * 2 ^ 36
  unfolding pack pack_from entry_bits word
  pack_two = omega arith

  pack_three : pack (entry_bits 4 (a ∷ b ∷ c ∷ [])) ≡ word a * 2 ^ 54 + word b * 2 ^ 36 + word c * 2 ^ 18
  unfolding pack pack_from entry_bits word
  pack_three = omega arith

  pack_four : pack (entry_bits 4 (a ∷ b ∷ c ∷ d ∷ [])) ≡ word a * 2 ^ 54 + word b * 2 ^ 36 + word c * 2 ^ 18 + word d
  unfolding pack pack_from entry_bits word
  pack_four = omega arith

module _ (m : ℕ) where
  word_three : word (entry_at m 3) ≡ m / 2 ^ 54 % 2 ^ 18
  unfolding word entry_at bits_at
  word_three = omega arith

  word_two : word (entry_at m 2) ≡ m / 2 ^ 36 % 2 ^ 18
  unfolding word entry_at bits_at
  word_two = omega arith

  word_one : word (entry_at m 1) ≡ m / 2 ^ 18 % 2 ^ 18
  unfolding word entry_at bits_at
  word_one = omega arith

  word_none : word (entry_at m 0) ≡ m % 2 ^ 18
  unfolding word entry_at bits_at
  word_none = omega arith

-- a number of 72 bits from its words
module _ (m : ℕ) (b : m < 256 ^ 9) where
  two_words : m / 2 ^ 54 % 2 ^ 18 * 2 ^ 54 + m / 2 ^ 36 % 2 ^ 18 * 2 ^ 36 + m % 2 ^ 36 ≡ m
  two_words = omega arith

  lower : m / 2 ^ 18 % 2 ^ 18 * 2 ^ 18 + m % 2 ^ 18 ≡ m % 2 ^ 36
  lower = omega arith

  three_words : m / 2 ^ 54 % 2 ^ 18 * 2 ^ 54 + m / 2 ^ 36 % 2 ^ 18 * 2 ^ 36 + m / 2 ^ 18 % 2 ^ 18 * 2 ^ 18 + m % 2 ^ 18 ≡ m
  three_words =
      let upper = m / 2 ^ 54 % 2 ^ 18 * 2 ^ 54 + m / 2 ^ 36 % 2 ^ 18 * 2 ^ 36 in
      add_assoc upper (m / 2 ^ 18 % 2 ^ 18 * 2 ^ 18) (m % 2 ^ 18) ∙ ap (λ (n : ℕ). upper + n) lower ∙ two_words

  none_left : (n : ℕ) → n + m % 1 ≡ n
  none_left n = omega arith

-- what the entries that count leave of the number
packed_past : (m c : ℕ) → m < 256 ^ 9 → 1 ≤ c → c ≤ 4 → packed m c + m % 2 ^ (18 * (4 - c)) ≡ m
packed_past m zero b h k = absurd (omega arith)
packed_past m (suc zero) b h k = rw (pack_one (entry_at m 3) (entry_at m 2) (entry_at m 1) (entry_at m 0), word_three m) (omega arith)
packed_past m (suc (suc zero)) b h k = rw (pack_two (entry_at m 3) (entry_at m 2) (entry_at m 1) (entry_at m 0), word_three m, word_two m) (two_words m b)
packed_past m (suc (suc (suc zero))) b h k = rw (pack_three (entry_at m 3) (entry_at m 2) (entry_at m 1) (entry_at m 0), word_three m, word_two m, word_one m)
    (three_words m b)
packed_past m (suc (suc (suc (suc zero)))) b h k = rw (
  pack_four (entry_at m 3) (entry_at m 2) (entry_at m 1) (entry_at m 0),
  word_three m,
  word_two m,
  word_one m,
  word_none m,
) (none_left m b _ ∙ three_words m b)
packed_past m (suc (suc (suc (suc (suc c))))) b h k = absurd (omega arith)

-- where nothing is left past the entries that count, the entries decide
by_rest : (m x r : ℕ) (g l : Bool) → x + r ≡ m → (r ≡ 0 → g ≡ l) → eqb x m && g ≡ eqb r 0 && l
by_rest m x zero g l e f = rw (eq-eqb x m (omega arith), f refl) refl
by_rest m x (suc r) g l e f = rw (ne_eqb x m (λ z. omega arith), ne_eqb (suc r) 0 (λ z. omega arith)) refl

-- where nothing is past them, the entries that count are good where all four are
all-good : (m c : ℕ) → 1 ≤ c → c ≤ 4 → m % 2 ^ (18 * (4 - c)) ≡ 0 → good_entries (counted m c) ≡ lows m
unfolding good_entries entry_at bits_at
all-good m zero h k e = absurd (omega arith)
all-good m (suc zero) h k e = rw (le-leb (dom m 2) 32751 (omega arith), le-leb (dom m 1) 32751 (omega arith), le-leb (m % 65536) 32751 (omega arith)) refl
all-good m (suc (suc zero)) h k e = rw (le-leb (dom m 1) 32751 (omega arith), le-leb (m % 65536) 32751 (omega arith)) refl
all-good m (suc (suc (suc zero))) h k e = rw (le-leb (m % 65536) 32751 (omega arith)) refl
all-good m (suc (suc (suc (suc zero)))) h k e = rw (and-true (leb (m / 1 % 65536) 32751), div-one m) refl
all-good m (suc (suc (suc (suc (suc c))))) h k e = absurd (omega arith)

-- the entries that count are good and what is past them is zero: by the number's parts
entries_parts : (m c : ℕ) → m < 256 ^ 9 → 1 ≤ c → c ≤ 4 → eqb (packed m c) m && good_entries (counted m c) ≡ eqb (m % 2 ^ (18 * (4 - c))) 0 && lows m
entries_parts m c b h k = by_rest m (packed m c) (m % 2 ^ (18 * (4 - c))) (good_entries (counted m c)) (lows m) (packed_past m c b h k) (all-good m c h k)

-- the entries that count, as one number
pub packed_bound : (m c : ℕ) → m < 256 ^ 9 → 1 ≤ c → c ≤ 4 → pack (entry_bits 4 (counted m c)) < 256 ^ 9
packed_bound m c b h k = lt_of_le_of_lt (fewer (packed m c) (m % 2 ^ (18 * (4 - c))) m (packed_past m c b h k)) b
  where
    fewer : (a r m : ℕ) → a + r ≡ m → a ≤ m
    fewer a r m e = omega arith

-- the same by the first byte and the eight others
pub entries_low : (m c first rest : ℕ) → m < 256 ^ 9 → 1 ≤ c → c ≤ 4 → rest < 256 ^ 8 → m ≡ first * 256 ^ 8 + rest →
    eqb (pack (entry_bits 4 (counted m c))) m && good_entries (counted m c) ≡ low_domains first rest && eqb (rest % 2 ^ (18 * (4 - c))) 0
unfolding low_domains
entries_low m c first rest b h k r e =
    entries_parts m c b h k
    ∙ rw (past c h k, domain_three, domain_two, domain_one, domain-none)
    (and_comm (eqb (rest % 2 ^ (18 * (4 - c))) 0) (low ((first * 1024 + rest / 2 ^ 54) % 65536) (rest / 2 ^ 36 % 65536) (rest / 2 ^ 18 % 65536) (rest % 65536)))
  where
    past : (c : ℕ) → 1 ≤ c → c ≤ 4 → m % 2 ^ (18 * (4 - c)) ≡ rest % 2 ^ (18 * (4 - c))
    past zero h k = absurd (omega arith)
    past (suc zero) h k = omega arith
    past (suc (suc zero)) h k = omega arith
    past (suc (suc (suc zero))) h k = omega arith
    past (suc (suc (suc (suc zero)))) h k = omega arith
    past (suc (suc (suc (suc (suc c))))) h k = absurd (omega arith)

    domain_three : m / 2 ^ 54 % 65536 ≡ (first * 1024 + rest / 2 ^ 54) % 65536
    domain_three = omega arith

    domain_two : m / 2 ^ 36 % 65536 ≡ rest / 2 ^ 36 % 65536
    domain_two = omega arith

    domain_one : m / 2 ^ 18 % 65536 ≡ rest / 2 ^ 18 % 65536
    domain_one = omega arith

    domain-none : m % 65536 ≡ rest % 65536
    domain-none = omega arith

-- the shift that the bits past a count are taken by
pub shifted : (c : ℕ) → 1 ≤ c → c ≤ 4 → 1 * 2 ^ (18 * (4 - c)) % 2 ^ 64 ≡ 2 ^ (18 * (4 - c))
shifted zero h k = absurd (omega arith)
shifted (suc zero) h k = refl
shifted (suc (suc zero)) h k = refl
shifted (suc (suc (suc zero))) h k = refl
shifted (suc (suc (suc (suc zero)))) h k = refl
shifted (suc (suc (suc (suc (suc c))))) h k = absurd (omega arith)

pub shift_some : (c : ℕ) → 1 ≤ c → c ≤ 4 → 0 < 1 * 2 ^ (18 * (4 - c)) % 2 ^ 64
shift_some zero h k = absurd (omega arith)
shift_some (suc zero) h k = omega arith
shift_some (suc (suc zero)) h k = omega arith
shift_some (suc (suc (suc zero))) h k = omega arith
shift_some (suc (suc (suc (suc zero)))) h k = omega arith
shift_some (suc (suc (suc (suc (suc c))))) h k = absurd (omega arith)

-- a lone entry: with nothing behind it the others' domains are 0
module _ (first rest : ℕ) where
  abbrev domain : ℕ
  domain = (first * 1024 + rest / 2 ^ 54) % 65536

  abbrev Lone : Bool
  Lone = low_domains first rest && eqb (rest % 2 ^ 54) 0

  pub lone-high : 32751 < domain → leb domain 32751 ≡ Lone
  unfolding low_domains
  lone-high h = lt-leb domain 32751 h ∙ stop _ (sym (stop _ (lt-leb domain 32751 h)))

  pub lone-low : domain ≤ 32751 → eqb (rest % 2 ^ 54) 0 ≡ Lone
  unfolding low_domains
  lone-low h = by (ℕ_discrete (rest % 2 ^ 54) 0)
    where
      low_others : rest % 2 ^ 54 ≡ 0 → low_domains first rest ≡ true
      low_others z =
          let two : rest / 2 ^ 36 % 65536 ≤ 32751 = omega arith in
          let three : rest / 2 ^ 18 % 65536 ≤ 32751 = omega arith in
          let four : rest % 65536 ≤ 32751 = omega arith in
          both (le-leb domain 32751 h) (both (le-leb (rest / 2 ^ 36 % 65536) 32751 two)
          (both (le-leb (rest / 2 ^ 18 % 65536) 32751 three) (le-leb (rest % 65536) 32751 four)))

      by : Dec (rest % 2 ^ 54 ≡ 0) → eqb (rest % 2 ^ 54) 0 ≡ Lone
      by (yes z) = sym (rw (low_others z))
      by (no n) = rw (ne_eqb (rest % 2 ^ 54) 0 n) (sym (and-false (low_domains first rest)))
