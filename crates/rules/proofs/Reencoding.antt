-- Bytes that re-encode to themselves: part by part, number by number, and slot by slot.
use mathlib.Core.Path.{◌≡◌, refl, sym, ap, ap₂, ◌∙◌}
use mathlib.Core.Bool.{Bool, true, false, ◌&&◌, and_assoc}
use mathlib.Core.List.{[], ◌∷◌, ◌++◌, map, flat_map}
use mathlib.Core.Option.{none}
use Prim.Native.Nat.{ℕ, zero, suc, ◌+◌, ◌*◌, ◌-◌, ◌/◌, ◌%◌, ◌^◌, ◌≤◌, ◌<◌}
use native.Mathlib.Nat.{zero-mul, suc-mul, add_comm}
use native.Mathlib.Omega.{arith}
use lib.ListN.{length, get_or, take, drop, replicate, length-drop, take-append-drop}
use lib.Seq.{take-suc, length-take-le, take_all, drop-drop}
use lib.Dec.{eqb}
use borrow.Author.Tests.{eq-eqb, eqb-true}
use Rattle.rules.specs.Size.{slots, slot_size, table_size}
use Rattle.rules.specs.Octets.{Octets, same, all_zero, padded, chunks, big_endian, big_from}
use Rattle.rules.specs.Layout.{slot_bytes, slot_of, table_bytes, table_of}
use Rattle.rules.proofs.Compare.{same_refl, same_eq, eq_same, zero_eq, eq_zero}
use Rattle.rules.proofs.Fields.{big_read}
use Rattle.rules.proofs.Tables.{encoded_at, each_map}
use Rattle.rules.proofs.Slots.{SlotFits, slot-width, slot_at_lem, length-table_of}
use Rattle.rules.proofs.Fitting.{decoded_fits}

-- two tests agree where each follows from the other
pub both_ways : {x y : Bool} → (x ≡ true → y ≡ true) → (y ≡ true → x ≡ true) → x ≡ y
both_ways {x = true} p q = sym (p refl)
both_ways {x = false} {y = true} p q = q refl
both_ways {x = false} {y = false} p q = refl

-- ── parts ──

pub same_append : (a b c d : Octets) → length a ≡ length c → same (a ++ b) (c ++ d) ≡ same a c && same b d
unfolding same
same_append [] b [] d e = refl
same_append [] b (y ∷ c) d e = absurd (omega (arith, e))
same_append (x ∷ a) b [] d e = absurd (omega (arith, e))
same_append (x ∷ a) b (y ∷ c) d e = ap (λ (t : Bool). eqb x y && t) (same_append a b c d (omega (arith, e))) ∙ sym (and_assoc (eqb x y) (same a c) (same b d))

-- zeros against a list of their length
pub same_zeros : (n : ℕ) (x : Octets) → length x ≡ n → same (replicate n 0) x ≡ all_zero x
same_zeros n x e =
    both_ways (λ p. eq_zero n (sym (same_eq (replicate n 0) x p)))
    (λ p. eq_same (sym (zero_eq x p ∙ ap (λ (m : ℕ). replicate m 0) e)))

-- a text padded to the length of what it begins
pub same-padded : (k n : ℕ) (x : Octets) → length x ≡ k → n ≤ k → same (padded k (take n x)) x ≡ all_zero (drop n x)
unfolding padded
same-padded k n x e h =
    ap (same (take n x ++ replicate (k - length (take n x)) 0)) (sym (take-append-drop n x))
    ∙ same_append (take n x) (replicate (k - length (take n x)) 0) (take n x) (drop n x) refl
    ∙ rw (same_refl (take n x))
    (same_zeros (k - length (take n x)) (drop n x) (rw (length-drop n x, length-take-le n x (omega arith)) (omega arith)))

-- ── numbers ──

big_last : (m : ℕ) (ys : Octets) (y : ℕ) → big_from m (ys ++ (y ∷ [])) ≡ big_from m ys * 256 + y
unfolding big_from
big_last m [] y = refl
big_last m (z ∷ ys) y = big_last (m * 256 + z) ys y

pub bytes_take : (n : ℕ) (l : Octets) → ((j : ℕ) → get_or l j 0 < 256) → (j : ℕ) → get_or (take n l) j 0 < 256
bytes_take zero l b j = omega arith
bytes_take (suc n) [] b j = omega arith
bytes_take (suc n) (x ∷ l) b zero = b 0
bytes_take (suc n) (x ∷ l) b (suc j) = bytes_take n l (λ i. b (suc i)) j

-- a number that was read from k bytes is written as them
pub big_back : (k : ℕ) (xs : Octets) → ((j : ℕ) → get_or xs j 0 < 256) → length xs ≡ k → big_endian k (big_from 0 xs) ≡ xs
unfolding big_endian
big_back zero [] b e = refl
big_back zero (x ∷ xs) b e = absurd (omega (arith, e))
big_back (suc k) xs b e =
    let ys = take k xs in
    let y = get_or xs k 0 in
    let parts : xs ≡ ys ++ (y ∷ []) = sym (take_all (suc k) xs (omega arith)) ∙ take-suc xs k 0 (omega arith) in
    let value : big_from 0 xs ≡ big_from 0 ys * 256 + y = ap (big_from 0) parts ∙ big_last 0 ys y in
    ap (λ (n : ℕ). big_endian k (n / 256) ++ (n % 256 ∷ [])) value
    ∙ ap₂ (λ (m r : ℕ). big_endian k m ++ (r ∷ [])) (omega (arith, b k)) (omega (arith, b k))
    ∙ ap (λ (l : Octets). l ++ (y ∷ [])) (big_back k ys (bytes_take k xs b) (length-take-le k xs (omega arith)))
    ∙ sym parts

pub same_big : (k n : ℕ) (xs : Octets) → ((j : ℕ) → get_or xs j 0 < 256) → length xs ≡ k → n < 256 ^ k → same (big_endian k n) xs ≡ eqb n (big_from 0 xs)
same_big k n xs b e h =
    both_ways (λ p. eq-eqb n (big_from 0 xs) (sym (big_read k n h) ∙ ap (big_from 0) (same_eq (big_endian k n) xs p)))
    (λ p. eq_same (ap (big_endian k) (eqb-true n (big_from 0 xs) p) ∙ big_back k xs b e))

-- ── slots ──

-- entries of k bytes that re-encode to themselves make a table that does
entries_kept : {A : Type 0} (encode : A → Octets) (decode : Octets → A) (n k : ℕ) (s : Octets) → length s ≡ n * k
    → ((i : ℕ) → i < n → encode (decode (take k (drop (i * k) s))) ≡ take k (drop (i * k) s)) → flat_map encode (map decode (chunks n k s)) ≡ s
unfolding flat_map chunks
entries_kept encode decode zero k [] e h = refl
entries_kept encode decode zero k (x ∷ s) e h = absurd (omega (arith, e, zero-mul k))
entries_kept encode decode (suc n) k s e h =
    ap₂ ◌++◌ (rw zero-mul at (h 0 (omega arith)))
    (entries_kept encode decode n k (drop k s) (rw (length-drop k s, e, suc-mul) (omega arith))
    (λ i l. rw (drop-drop (i * k) k s, add_comm k (i * k), ← suc-mul i k) (h (suc i) (omega arith))))
    ∙ take-append-drop k s

-- a table's bytes are those of what they mean where each slot's are
pub slots_kept : (s : Octets) → length s ≡ table_size
    → ((i : ℕ) → i < slots → slot_bytes (get_or (table_of s) i none) ≡ take slot_size (drop (i * slot_size) s)) → table_bytes (table_of s) ≡ s
unfolding table_bytes table_of
slots_kept s e h = entries_kept slot_bytes slot_of slots slot_size s e (λ i l. ap slot_bytes (sym (slot_at_lem s i l)) ∙ h i l)

pub kept_slot : (s : Octets) → table_bytes (table_of s) ≡ s → (i : ℕ) → i < slots → slot_bytes (get_or (table_of s) i none)
    ≡ take slot_size (drop (i * slot_size) s)
unfolding table_bytes
kept_slot s e i l =
    sym (encoded_at slot_bytes slot_size (table_of s) i none (each_map SlotFits _ slot-width (table_of s) (decoded_fits s).all) (rw (length-table_of s) l))
    ∙ ap (λ (r : Octets). take slot_size (drop (i * slot_size) r)) e
