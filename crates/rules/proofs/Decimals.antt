-- Laws of decimals: what is written, what is plain, and the values of digits.
use mathlib.Core.Path.{◌≡◌, refl, sym, ap, ap₂, ◌∙◌}
use mathlib.Core.Bool.{Bool, true, false, cond, not, ◌&&◌, and_assoc, and-true, and-false}
use mathlib.Core.List.{[], ◌∷◌, ◌++◌, append-nil}
use mathlib.Core.Option.{Option, none, some}
use Prim.Native.Nat.{ℕ, zero, suc, ◌+◌, ◌*◌, ◌-◌, ◌/◌, ◌%◌, ◌^◌, ◌≤◌, ◌<◌}
use native.Mathlib.Nat.{pow-suc, pow-le-pow_right, mul-le-mul_right, mul_assoc, mul_comm, le_trans}
use native.Mathlib.Numerals.{add-one}
use native.Mathlib.Omega.{arith}
use lib.Arith.{lt_of_le-ne}
use lib.Dec.{eqb, ltb, leb, lit<, lit≤}
use lib.ListN.{length, get_or, take, drop, length-append}
use lib.Seq.{drop-cons, append_snoc, take-suc, take_all, drop_at}
use borrow.Author.Tests.{ltb-true, ltb-false, leb-true, eqb-false, eq-eqb, ne_eqb, lt-ltb, le-ltb, le-leb, lt-leb, not-true}
use Rattle.rules.specs.Octets.{Octets, digits_before, decimal, is_digit, all_digits, value_from, plain_form, number, number_in}
use Rattle.rules.proofs.Compare.{both_true}

-- ── digits ──

pub digit_bounds : (c : ℕ) → is_digit c ≡ true → (48 ≤ c) × (c ≤ 57)
unfolding is_digit
digit_bounds c e =
    let both = both_true (leb 48 c) (leb c 57) e in
    (leb-true 48 c both.0, leb-true c 57 both.1)

pub bounds_digit : (c : ℕ) → 48 ≤ c → c ≤ 57 → is_digit c ≡ true
unfolding is_digit
bounds_digit c h k = rw (le-leb 48 c h, le-leb c 57 k) refl

pub low_digit : (c : ℕ) → c < 48 → is_digit c ≡ false
unfolding is_digit
low_digit c h = rw (lt-leb 48 c h) refl

pub high_digit : (c : ℕ) → 57 < c → is_digit c ≡ false
unfolding is_digit
high_digit c h = rw (lt-leb c 57 h) (and-false (leb 48 c))

pub digits_next : (s : Octets) (i : ℕ) → i < length s → all_digits (drop i s) ≡ is_digit (get_or s i 0) && all_digits (drop (i + 1) s)
unfolding all_digits
digits_next s i h = rw (drop-cons s i 0 h, add-one) refl

pub digits_take : (s : Octets) (n : ℕ) → all_digits s ≡ true → all_digits (take n s) ≡ true
unfolding all_digits
digits_take s zero e = refl
digits_take [] (suc n) e = refl
digits_take (c ∷ cs) (suc n) e =
    let both = both_true (is_digit c) (all_digits cs) e in
    ap₂ ◌&&◌ both.0 (digits_take cs n both.1)

pub digits_append : (s t : Octets) → all_digits (s ++ t) ≡ all_digits s && all_digits t
unfolding all_digits
digits_append [] t = refl
digits_append (c ∷ cs) t = ap (λ (b : Bool). is_digit c && b) (digits_append cs t) ∙ sym (and_assoc (is_digit c) (all_digits cs) (all_digits t))

pub digits_at : (s : Octets) (i : ℕ) → i < length s → all_digits s ≡ true → is_digit (get_or s i 0) ≡ true
unfolding all_digits
digits_at [] i h e = absurd (omega arith)
digits_at (c ∷ cs) zero h e = (both_true (is_digit c) (all_digits cs) e).0
digits_at (c ∷ cs) (suc i) h e = digits_at cs i (omega arith) (both_true (is_digit c) (all_digits cs) e).1

-- ── a number written in decimal ──

split : (n : ℕ) {P : Type 0} → (n < 10 → P) → (10 ≤ n → P) → P
split n {P} f g = by (ltb n 10) refl
  where
    by : (t : Bool) → ltb n 10 ≡ t → P
    by true e = f (ltb-true n 10 e)
    by false e = g (ltb-false n 10 e)

-- how many digits n has, up to k
unfoldable pub digit_count : ℕ → ℕ → ℕ
digit_count zero n = zero
digit_count (suc k) n = cond (ltb n 10) 1 (suc (digit_count k (n / 10)))

-- the last k digits of n
unfoldable pub last_digits : ℕ → ℕ → Octets
last_digits zero n = []
last_digits (suc k) n = last_digits k (n / 10) ++ ((48 + n % 10) ∷ [])

pub count_one : (k n : ℕ) → n < 10 → digit_count (suc k) n ≡ 1
unfolding digit_count
count_one k n h = rw (lt-ltb n 10 h) refl

pub count_more : (k n : ℕ) → 10 ≤ n → digit_count (suc k) n ≡ suc (digit_count k (n / 10))
unfolding digit_count
count_more k n h = rw (le-ltb n 10 h) refl

pub count_le : (k n : ℕ) → digit_count k n ≤ k
unfolding digit_count
count_le zero n = omega arith
count_le (suc k) n = split n (λ h. omega (arith, count_one k n h)) (λ h. omega (arith, count_more k n h, count_le k (n / 10)))

pub length_last : (k n : ℕ) → length (last_digits k n) ≡ k
unfolding last_digits
length_last zero n = refl
length_last (suc k) n = omega (arith, length-append (last_digits k (n / 10)) ((48 + n % 10) ∷ []), length_last k (n / 10))

before_last : (k n : ℕ) (ds : Octets) → digits_before k n ds ≡ last_digits (digit_count k n) n ++ ds
unfolding digits_before digit_count last_digits
before_last zero n ds = refl
before_last (suc k) n ds =
    split n
    (λ h. rw (lt-ltb n 10 h) (ap (λ (d : ℕ). (48 + d) ∷ ds) (let e : n ≡ n % 10 = omega arith in e)))
    (λ h. rw (le-ltb n 10 h) (before_last k (n / 10) ((48 + n % 10) ∷ ds) ∙ sym (append_snoc (last_digits (digit_count k (n / 10)) (n / 10)) (48 + n % 10) ds)))

pub decimal_last : (n : ℕ) → decimal n ≡ last_digits (digit_count 20 n) n
unfolding decimal
decimal_last n = before_last 20 n [] ∙ append-nil (last_digits (digit_count 20 n) n)

pub length-decimal : (n : ℕ) → length (decimal n) ≡ digit_count 20 n
length-decimal n = ap length (decimal_last n) ∙ length_last (digit_count 20 n) n

pub length-decimal_le : (n : ℕ) → length (decimal n) ≤ 20
length-decimal_le n = omega (arith, length-decimal n, count_le 20 n)

pub length-decimal_pos : (n : ℕ) → 1 ≤ length (decimal n)
length-decimal_pos n = split n (λ h. omega (arith, length-decimal n, count_one 19 n h)) (λ h. omega (arith, length-decimal n, count_more 19 n h))

pub count_lt : (j k n : ℕ) → n < 10 ^ suc k → digit_count j n ≤ suc k
unfolding digit_count
count_lt zero k n h = omega arith
count_lt (suc j) zero n h = omega (arith, count_one j n (omega arith))
count_lt (suc j) (suc k) n h =
    split n
    (λ (few : n < 10). omega (arith, count_one j n few))
    (λ (more : 10 ≤ n).
    let rest = count_lt j k (n / 10) (omega (arith, rw (pow-suc 10 (suc k)) at h)) in
    omega (arith, count_more j n more))

-- a number below 10 ^ k has at most k digits
pub length-decimal_lt : (k n : ℕ) → 1 ≤ k → n < 10 ^ k → length (decimal n) ≤ k
length-decimal_lt zero n p h = absurd (omega arith)
length-decimal_lt (suc k) n p h = omega (arith, length-decimal n, count_lt 20 k n h)

pub last_digits_lem : (k n : ℕ) → all_digits (last_digits k n) ≡ true
unfolding last_digits all_digits
last_digits_lem zero n = refl
last_digits_lem (suc k) n =
    digits_append (last_digits k (n / 10)) ((48 + n % 10) ∷ [])
    ∙ ap₂ (λ (a b : Bool). a && (b && true)) (last_digits_lem k (n / 10)) (bounds_digit (48 + n % 10) (omega arith) (omega arith))

pub decimal_digits : (n : ℕ) → all_digits (decimal n) ≡ true
decimal_digits n = ap all_digits (decimal_last n) ∙ last_digits_lem (digit_count 20 n) n

-- one more digit before those that are written: a turn of a loop that writes from the last one back
pub digit_turn : (ds : Octets) (i n : ℕ) → 0 < i → ds ≡ last_digits i n ++ drop i ds →
    (drop (i - 1) ds ≡ (48 + n % 10) ∷ drop i ds) × (ds ≡ last_digits (i - 1) (n / 10) ++ drop (i - 1) ds)
unfolding last_digits
digit_turn ds zero n h e = absurd (omega arith)
digit_turn ds (suc j) n h e =
    let p = last_digits j (n / 10) in
    let q = (48 + n % 10) ∷ drop (suc j) ds in
    let whole : ds ≡ p ++ q = e ∙ append_snoc p (48 + n % 10) (drop (suc j) ds) in
    let rest : drop j ds ≡ q = ap (drop j) whole ∙ drop_at p q j (length_last j (n / 10)) in
    let back : suc j - 1 ≡ j = omega arith in
    rw back (rest, whole ∙ ap (λ (l : Octets). p ++ l) (sym rest))

-- ── values ──

pub value_next : (n : ℕ) (s : Octets) (i : ℕ) → i < length s → value_from n (drop i s) ≡ value_from (n * 10 + (get_or s i 0 - 48)) (drop (i + 1) s)
unfolding value_from
value_next n s i h = rw (drop-cons s i 0 h, add-one) refl

value_append : (n : ℕ) (s : Octets) (c : ℕ) → value_from n (s ++ (c ∷ [])) ≡ value_from n s * 10 + (c - 48)
unfolding value_from
value_append n [] c = refl
value_append n (d ∷ ds) c = value_append (n * 10 + (d - 48)) ds c

-- the last digit counts once, and those before it ten times
pub value_last : (s : Octets) (k : ℕ) → k + 1 ≡ length s → value_from 0 s ≡ value_from 0 (take k s) * 10 + (get_or s k 0 - 48)
value_last s k e =
    ap (value_from 0) (sym (take_all (suc k) s (omega arith)) ∙ take-suc s k 0 (omega arith)) ∙ value_append 0 (take k s) (get_or s k 0)

-- each digit makes what stands before it ten times as large
pub value_ge : (n : ℕ) (s : Octets) → n * 10 ^ length s ≤ value_from n s
unfolding value_from
value_ge n [] = omega arith
value_ge n (c ∷ cs) =
    let p = 10 ^ length cs in
    let e : n * 10 ^ suc (length cs) ≡ n * 10 * p = ap (λ (m : ℕ). n * m) (pow-suc 10 (length cs) ∙ mul_comm p 10) ∙ sym (mul_assoc n 10 p) in
    let more : n * 10 ≤ n * 10 + (c - 48) = omega arith in
    rw e (le_trans (mul-le-mul_right p more) (value_ge (n * 10 + (c - 48)) cs))

pub ten_more : {n d : ℕ} (i : ℕ) → n < 10 ^ i → d < 10 → n * 10 + d < 10 ^ (i + 1)
ten_more i h k = rw (add-one, pow-suc) (omega arith)

pub ten_mono : {n i : ℕ} (k : ℕ) → i ≤ k → n < 10 ^ i → n < 10 ^ k
ten_mono {n} {i} k h l = let m : 10 ^ i ≤ 10 ^ k = pow-le-pow_right (lit< tt) h in omega arith

-- ── the plain form ──

pub plain_empty : (s : Octets) → length s ≡ 0 → plain_form s ≡ false
unfolding plain_form
plain_empty [] h = refl
plain_empty (c ∷ cs) h = absurd (omega arith)

pub plain-zero : (s : Octets) → 0 < length s → get_or s 0 0 ≡ 48 → plain_form s ≡ eqb (length s) 1
unfolding plain_form
plain-zero [] h e = absurd (omega arith)
plain-zero (c ∷ []) h e = bounds_digit c (omega arith) (omega arith)
plain-zero (c ∷ d ∷ cs) h e =
    rw (eq-eqb c 48 e, ne_eqb (suc (suc (length cs))) 1 (λ (k : suc (suc (length cs)) ≡ 1). omega arith)) refl

pub plain_other : (s : Octets) → 0 < length s → (get_or s 0 0 ≡ 48 → ⊥) → plain_form s ≡ all_digits s
unfolding plain_form all_digits
plain_other [] h n = absurd (omega arith)
plain_other (c ∷ []) h n = sym (and-true (is_digit c))
plain_other (c ∷ d ∷ cs) h n = rw (ne_eqb c 48 n) refl

pub plain_digits : (s : Octets) → plain_form s ≡ true → all_digits s ≡ true
unfolding plain_form all_digits
plain_digits [] e = let n : ◌≡◌ {A = ℕ} 0 1 = cc in absurd (omega arith)
plain_digits (c ∷ []) e = and-true (is_digit c) ∙ e
plain_digits (c ∷ d ∷ cs) e = (both_true (not (eqb c 48)) (all_digits (c ∷ d ∷ cs)) e).1

pub plain_pos : (s : Octets) → plain_form s ≡ true → 0 < length s
unfolding plain_form
plain_pos [] e = let n : ◌≡◌ {A = ℕ} 0 1 = cc in absurd (omega arith)
plain_pos (c ∷ cs) e = omega arith

-- a plain decimal of more than 20 digits is no number of 64 bits
pub plain-long : (s : Octets) → plain_form s ≡ true → 20 < length s → 2 ^ 64 ≤ value_from 0 s
unfolding plain_form all_digits value_from
plain-long [] e h = absurd (omega arith)
plain-long (c ∷ []) e h = absurd (omega arith)
plain-long (c ∷ d ∷ cs) e h =
    let both = both_true (not (eqb c 48)) (all_digits (c ∷ d ∷ cs)) e in
    let digit = digit_bounds c (both_true (is_digit c) (all_digits (d ∷ cs)) both.1).0 in
    let first : 1 ≤ 0 * 10 + (c - 48) = omega (arith, digit, lt_of_le-ne digit.0 (λ k. eqb-false c 48 (not-true (eqb c 48) both.0) (sym k))) in
    let p = 10 ^ suc (length cs) in
    let long : 10 ^ 20 ≤ p = pow-le-pow_right (lit< tt) {i = 20} {j = suc (length cs)} (omega arith) in
    le_trans (lit≤ {m = 2 ^ 64} {n = 10 ^ 20} tt)
    (le_trans (omega (arith, long, mul-le-mul_right p first)) (value_ge (0 * 10 + (c - 48)) (d ∷ cs)))

-- ── numbers within a range ──

-- `number_in`, of the number that is read
abbrev pub ranged : ℕ → ℕ → Option ℕ → Option ℕ
ranged low high o = elim o [ none ↦ none | some n ↦ cond (leb low n && leb n high) (some n) none ]

-- what is found in a range lies in it
pub range_bounds : (low high : ℕ) (s : Octets) (n : ℕ) → number_in low high s ≡ some n → (low ≤ n) × (n ≤ high)
unfolding number_in
range_bounds low high s n e = by (number s) e
  where
    bounds : (m : ℕ) (t : Bool) → leb low m && leb m high ≡ t → cond t (some m) none ≡ some n → (low ≤ n) × (n ≤ high)
    bounds m true t e =
        let same : m ≡ n = cc in
        let both = both_true (leb low m) (leb m high) t in
        rw (← same) (leb-true low m both.0, leb-true m high both.1)
    bounds m false t e = let z : ◌≡◌ {A = ℕ} 0 1 = cc in absurd (omega arith)

    by : (o : Option ℕ) → ranged low high o ≡ some n → (low ≤ n) × (n ≤ high)
    by none e = let z : ◌≡◌ {A = ℕ} 0 1 = cc in absurd (omega arith)
    by (some m) e = bounds m (leb low m && leb m high) refl e
