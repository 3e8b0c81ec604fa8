-- Turns of the loops that count, write and read digits.
use mathlib.Core.Path.{◌≡◌, refl, sym, ap, ◌∙◌}
use mathlib.Core.Bool.{Bool, true, false, ◌&&◌}
use mathlib.Core.List.{[], ◌++◌, append-nil}
use Prim.Native.Nat.{ℕ, zero, suc, ◌+◌, ◌*◌, ◌-◌, ◌/◌, ◌%◌, ◌^◌, ◌≤◌, ◌<◌}
use native.Mathlib.Nat.{add-zero, pow-suc}
use native.Mathlib.Omega.{arith}
use lib.ListN.{length, get_or, take, drop, set, length-drop, drop_of_length-le}
use Rattle.rules.specs.Octets.{Octets, paste, decimal, is_digit, all_digits, value_from, plain_form}
use Rattle.rules.proofs.Decimals.{digit_count, last_digits, decimal_last, length-decimal, count_one, count_more, digit_turn, digits_next, digits_at}
use Rattle.rules.proofs.Decimals.{digit_bounds, ten_mono, plain_pos, plain_digits, value_last}
use Rattle.rules.proofs.Paste.{paste_nil, paste-before}

-- ── counting: k counted, l left, m in all ──

tenth : (j l : ℕ) → 10 ≤ l → l < 10 ^ suc j → (1 ≤ j) × (l / 10 < 10 ^ j)
tenth zero l h k = absurd (omega arith)
tenth (suc j) l h k = (omega arith, omega (arith, rw (pow-suc 10 (suc j)) at k))

pub count_turn : (k l m : ℕ) → k ≤ 20 → l < 10 ^ (21 - k) → m ≡ k + digit_count (21 - k) l → 10 ≤ l →
    (k + 1 ≤ 20) × ((l / 10 < 10 ^ (21 - (k + 1))) × (m ≡ k + 1 + digit_count (21 - (k + 1)) (l / 10)))
count_turn k l m h p e t =
    let this : 21 - k ≡ suc (20 - k) = omega arith in
    let next : 21 - (k + 1) ≡ 20 - k = omega arith in
    let less = tenth (20 - k) l t (rw this at p) in
    rw next (omega arith, (less.1, omega (arith, rw this at e, count_more (20 - k) l t)))

pub count-end : (k l m : ℕ) → k ≤ 20 → m + 1 ≡ k + digit_count (21 - k) l → l < 10 → k ≡ m
count-end k l m h e t =
    let this : 21 - k ≡ suc (20 - k) = omega arith in
    omega (arith, rw this at e, count_one (20 - k) l t)

-- ── writing: the last digits, from i on, stand already ──

pub write-start : (n m at : ℕ) (xs : Octets) → m ≡ length (decimal n) →
    (decimal n ≡ last_digits m n ++ drop m (decimal n)) × (xs ≡ paste (at + m) (drop m (decimal n)) xs)
write-start n m at xs e =
    let nothing : drop m (decimal n) ≡ [] = drop_of_length-le (decimal n) {i = m} (omega arith) in
    rw nothing (
      decimal_last n ∙ ap (λ (k : ℕ). last_digits k n) (sym (e ∙ length-decimal n)) ∙ sym (append-nil (last_digits m n)),
      sym (paste_nil (at + m) xs),
    )

pub write-end : (ds xs l : Octets) (at i : ℕ) → i ≤ 0 → l ≡ paste (at + i) (drop i ds) xs → l ≡ paste at ds xs
write-end ds xs l at i h e =
    let none : i ≡ 0 = omega arith in
    rw (none, add-zero) at e

pub write_turn : (ds xs l : Octets) (at i n : ℕ) → 0 < i → at + length ds ≤ length xs → i ≤ length ds →
    ds ≡ last_digits i n ++ drop i ds → l ≡ paste (at + i) (drop i ds) xs →
    (ds ≡ last_digits (i - 1) (n / 10) ++ drop (i - 1) ds) × (set l (at + (i - 1)) (48 + n % 10) ≡ paste (at + (i - 1)) (drop (i - 1) ds) xs)
write_turn ds xs l at i n h fits k e p =
    let digit = 48 + n % 10 in
    let place = at + (i - 1) in
    let turn = digit_turn ds i n h e in (
      turn.1,
      ap (λ (m : Octets). set m place digit) (p ∙ ap (λ (m : ℕ). paste m (drop i ds) xs) (let q : at + i ≡ place + 1 = omega arith in q))
          ∙ paste-before place (drop i ds) xs digit (omega (arith, length-drop i ds))
          ∙ ap (λ (ys : Octets). paste place ys xs) (sym turn.0),
    )

-- ── reading ──

-- the digit at i, and the value of those before it
pub read_digit : (s : Octets) (i n : ℕ) → all_digits s ≡ true → i < length s → length s ≤ 19 → n < 10 ^ i →
    (48 ≤ get_or s i 0) × (get_or s i 0 ≤ 57) × (n < 10 ^ 18)
read_digit s i n e h k p =
    let digit = digit_bounds (get_or s i 0) (digits_at s i h e) in
    (digit.0, digit.1, ten_mono 18 (let small : i ≤ 18 = omega arith in small) p)

pub value-end : (s : Octets) (i n m : ℕ) → length s ≤ i → m ≡ value_from n (drop i s) → n ≡ m
unfolding value_from
value-end s i n m h e = sym (rw (drop_of_length-le s {i = i} h) at e)

-- the last digit of a plain decimal, and the value with it
pub plain_last : (s : Octets) → plain_form s ≡ true →
    let digit = get_or s (length s - 1) 0 in
    (1 ≤ length s) × (48 ≤ digit) × (digit ≤ 57) × (value_from 0 s ≡ value_from 0 (take (length s - 1) s) * 10 + (digit - 48))
plain_last s e =
    let some : 0 < length s = plain_pos s e in
    let digit = digit_bounds (get_or s (length s - 1) 0) (digits_at s (length s - 1) (omega arith) (plain_digits s e)) in
    (omega arith, digit.0, digit.1, value_last s (length s - 1) (omega arith))

pub no_digit : (s : Octets) (i : ℕ) → i < length s → (is_digit (get_or s i 0) ≡ false) → all_digits (drop i s) ≡ false
no_digit s i h e = digits_next s i h ∙ ap (λ (b : Bool). b && all_digits (drop (i + 1) s)) e

pub one_digit : (s : Octets) (i : ℕ) → i < length s → is_digit (get_or s i 0) ≡ true → all_digits (drop i s) ≡ all_digits (drop (i + 1) s)
one_digit s i h e = digits_next s i h ∙ ap (λ (b : Bool). b && all_digits (drop (i + 1) s)) e

pub digits_end : (s : Octets) (i : ℕ) → length s ≤ i → all_digits (drop i s) ≡ true
unfolding all_digits
digits_end s i h = rw (drop_of_length-le s {i = i} h) refl
