-- Bytes as lists of numbers: texts, comparisons, numbers in bytes and in decimal.
use Rattle.std.specs.Prelude.{Bool, true, false, cond, not, ◌&&◌, ◌||◌, List, [], ◌∷◌, ◌++◌, ℕ, zero, suc, ◌+◌, ◌*◌, ◌-◌, ◌/◌}
use Rattle.std.specs.Prelude.{◌%◌, ◌^◌, length, get_or, take, drop, replicate, eqb, ltb, leb}
use Rattle.std.proofs.Math.Option.{Option, none, some}
use Prim.Native.Char.{code}
use Prim.Native.String as S

abbrev pub Octets : Type 0
Octets = List ℕ

-- the bytes of an ASCII text
unfoldable pub text : S.String → Octets
text S.[] = []
text (S.◌∷◌ c s) = code c ∷ text s

abbrev pub nul : Octets
nul = 0 ∷ []

-- ── comparisons ──

unfoldable pub same : Octets → Octets → Bool
same [] [] = true
same [] (y ∷ ys) = false
same (x ∷ xs) [] = false
same (x ∷ xs) (y ∷ ys) = eqb x y && same xs ys

-- byte order
unfoldable pub less : Octets → Octets → Bool
less [] [] = false
less [] (y ∷ ys) = true
less (x ∷ xs) [] = false
less (x ∷ xs) (y ∷ ys) = ltb x y || (eqb x y && less xs ys)

-- the first list begins the second
unfoldable pub begins : Octets → Octets → Bool
begins [] ys = true
begins (x ∷ xs) [] = false
begins (x ∷ xs) (y ∷ ys) = eqb x y && begins xs ys

unfoldable pub all_zero : Octets → Bool
all_zero [] = true
all_zero (x ∷ xs) = eqb x 0 && all_zero xs

-- ── parts ──

-- xs, then zeros up to k bytes
unfoldable pub padded : ℕ → Octets → Octets
padded k xs = xs ++ replicate (k - length xs) 0

-- xs with ys in place of what stands from i on
unfoldable pub paste : ℕ → Octets → Octets → Octets
paste i ys xs = take i xs ++ (ys ++ drop (i + length ys) xs)

-- n entries of k bytes each, one after the other
unfoldable pub chunks : ℕ → ℕ → Octets → List Octets
chunks zero k s = []
chunks (suc n) k s = take k s ∷ chunks n k (drop k s)

-- ── numbers in bytes ──

-- a 32-bit number of the frame: four bytes, the low one first
unfoldable pub four_bytes : ℕ → Octets
four_bytes n = (n % 256) ∷ (n / 256 % 256) ∷ (n / 65536 % 256) ∷ (n / 16777216 % 256) ∷ []

unfoldable pub little_endian : Octets → ℕ → ℕ
little_endian s i = get_or s i 0 + 256 * (get_or s (i + 1) 0 + 256 * (get_or s (i + 2) 0 + 256 * get_or s (i + 3) 0))

-- n in k bytes, most significant first
unfoldable pub big_endian : ℕ → ℕ → Octets
big_endian zero n = []
big_endian (suc k) n = big_endian k (n / 256) ++ (n % 256 ∷ [])

unfoldable pub big_from : ℕ → Octets → ℕ
big_from n [] = n
big_from n (b ∷ bs) = big_from (n * 256 + b) bs

-- the number that k bytes from i on hold, most significant first
unfoldable pub field : Octets → ℕ → ℕ → ℕ
field s i k = big_from 0 (take k (drop i s))

-- a field of a table: its width in bits, and what it holds
pub record Bits : Type 0 where
  pub width : ℕ
  pub holds : ℕ

infixl 70 ◌bits◌
abbrev pub ◌bits◌ : ℕ → ℕ → Bits
◌bits◌ w n = record { width = w; holds = n }

unfoldable pub pack_from : ℕ → List Bits → ℕ
pack_from n [] = n
pack_from n (b ∷ bs) = pack_from (n * 2 ^ b.width + b.holds) bs

-- fields packed into one number, most significant first
unfoldable pub pack : List Bits → ℕ
pack bs = pack_from 0 bs

-- the field of w bits that stands above the low k bits of n
unfoldable pub bits_at : ℕ → ℕ → ℕ → ℕ
bits_at n k w = n / 2 ^ k % 2 ^ w

abbrev pub bit : Bool → ℕ
bit false = 0
bit true = 1

-- ── decimals ──

unfoldable pub digits_before : ℕ → ℕ → Octets → Octets
digits_before zero n ds = ds
digits_before (suc k) n ds =
    let more = digits_before k (n / 10) ((48 + n % 10) ∷ ds) in
    cond (ltb n 10) ((48 + n) ∷ ds) more

-- a number below 10 ^ 20 in decimal
unfoldable pub decimal : ℕ → Octets
decimal n = digits_before 20 n []

unfoldable pub is_digit : ℕ → Bool
is_digit c = leb 48 c && leb c 57

unfoldable pub all_digits : Octets → Bool
all_digits [] = true
all_digits (c ∷ cs) = is_digit c && all_digits cs

unfoldable pub value_from : ℕ → Octets → ℕ
value_from n [] = n
value_from n (c ∷ cs) = value_from (n * 10 + (c - 48)) cs

-- "no sign, blank or spare leading zero"
unfoldable pub plain_form : Octets → Bool
plain_form [] = false
plain_form (c ∷ []) = is_digit c
plain_form (c ∷ d ∷ cs) = not (eqb c 48) && all_digits (c ∷ d ∷ cs)

-- the value of a decimal
unfoldable pub number : Octets → Option ℕ
number s = cond (plain_form s) (some (value_from 0 s)) none

-- the same within a range
unfoldable pub number_in : ℕ → ℕ → Octets → Option ℕ
number_in low high s = elim (number s) [ none ↦ none | some n ↦ cond (leb low n && leb n high) (some n) none ]

-- a signed decimal of 64 bits, as its two's complement; `-0` is none
unfoldable pub signed : Octets → Option ℕ
signed [] = none
signed (c ∷ cs) =
    cond (eqb c 45) (elim (number_in 1 (2 ^ 63) cs) [ none ↦ none | some n ↦ some (2 ^ 64 - n) ]) (number_in 0 (2 ^ 63 - 1) (c ∷ cs))
