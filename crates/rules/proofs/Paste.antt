-- Laws of `paste`: bytes put in place of others.
use mathlib.Core.Path.{◌≡◌, refl, sym, ap, ap₂, ◌∙◌}
use mathlib.Core.List.{[], ◌∷◌, ◌++◌, append-nil, append_assoc}
use Prim.Native.Nat.{ℕ, suc, ◌+◌, ◌≤◌, ◌<◌}
use native.Mathlib.Nat.{add_assoc}
use native.Mathlib.Numerals.{add-one}
use native.Mathlib.Omega.{arith}
use lib.ListN.{length, get_or, take, drop, set, replicate, drop_of_length-le, length-replicate, get_or-replicate, length-append, length-drop}
use lib.ListN.{take-append-drop, get_or-append}
use lib.Seq as Seq
use Rattle.rules.specs.Octets.{Octets, paste}
use Rattle.rules.proofs.Fields.{take-drop-take}

module _ (i : ℕ) (ys xs : Octets) where
  -- as the kit has it
  pub paste_kit : Seq.paste xs i ys (length ys) ≡ paste i ys xs
  unfolding paste
  paste_kit = rw (Seq.take-length ys, append_assoc) refl

  -- stores one after the other
  pub paste_sets : i + length ys ≤ length xs → Seq.sets xs i ys ≡ paste i ys xs
  unfolding paste
  paste_sets h = Seq.sets-eq ys xs i h ∙ append_assoc (take i xs) ys (drop (i + length ys) xs)

  pub length-paste : i + length ys ≤ length xs → length (paste i ys xs) ≡ length xs
  length-paste h = ap length (sym paste_kit) ∙ Seq.length-paste xs i ys (length ys) h (omega arith)

  pub get_or-paste-before : (k : ℕ) → k < i → i ≤ length xs → get_or (paste i ys xs) k 0 ≡ get_or xs k 0
  unfolding paste
  get_or-paste-before k h hi = get_or-append (take i xs) (ys ++ drop (i + length ys) xs) 0 k (rw (Seq.length-take-le i xs hi) h) ∙ Seq.get_or-take i xs k 0 h

pub paste_nil : (i : ℕ) (xs : Octets) → paste i [] xs ≡ xs
paste_nil i xs = sym (paste_kit i [] xs) ∙ sym (Seq.paste-zero xs i [])

paste-take : (i : ℕ) (ys xs : Octets) (k : ℕ) → k ≤ length ys → Seq.paste xs i ys k ≡ paste i (take k ys) xs
unfolding paste
paste-take i ys xs k h = rw (Seq.length-take-le k ys h, append_assoc) refl

-- one more byte at the end of what is put in
pub paste_next : (i : ℕ) (ys xs : Octets) (k : ℕ) {l : Octets} → l ≡ paste i (take k ys) xs → k < length ys → i + k < length xs →
    set l (i + k) (get_or ys k 0) ≡ paste i (take (k + 1) ys) xs
paste_next i ys xs k e h hx =
    ap (λ (l : Octets). set l (i + k) (get_or ys k 0)) (e ∙ sym (paste-take i ys xs k (omega arith)))
    ∙ Seq.paste-suc xs i ys k 0 hx h
    ∙ ap (λ (n : ℕ). Seq.paste xs i ys n) (sym (add-one k))
    ∙ paste-take i ys xs (k + 1) (omega arith)

-- one more zero
pub paste-zero : (i n : ℕ) (xs : Octets) (k : ℕ) {l : Octets} → l ≡ paste i (take k (replicate n 0)) xs → k < n → i + k < length xs →
    set l (i + k) 0 ≡ paste i (take (k + 1) (replicate n 0)) xs
paste-zero i n xs k {l} e h hx =
    ap (λ (v : ℕ). set l (i + k) v) (sym (get_or-replicate n k 0 0 h)) ∙ paste_next i (replicate n 0) xs k e (rw length-replicate h) hx

-- all is put in
pub paste_all : (i : ℕ) (ys xs : Octets) (k : ℕ) {l : Octets} → length ys ≤ k → l ≡ paste i (take k ys) xs → l ≡ paste i ys xs
paste_all i ys xs k h e = rw (Seq.take_all k ys h) at e

-- one more byte before what is put in
pub paste-before : (i : ℕ) (ys xs : Octets) (y : ℕ) → i + 1 + length ys ≤ length xs → set (paste (i + 1) ys xs) i y ≡ paste i (y ∷ ys) xs
unfolding paste
paste-before i ys xs y h =
    let rest = ys ++ drop (i + 1 + length ys) xs in
    ap (λ (n : ℕ). set (take n xs ++ rest) i y) (add-one i)
    ∙ ap (λ (l : Octets). set (l ++ rest) i y) (Seq.take-suc xs i 0 (omega arith))
    ∙ ap (λ (l : Octets). set l i y) (Seq.append_snoc (take i xs) (get_or xs i 0) rest)
    ∙ Seq.set_at (take i xs) (get_or xs i 0) rest y i (Seq.length-take-le i xs (omega arith))
    ∙ ap (λ (n : ℕ). take i xs ++ (y ∷ (ys ++ drop n xs))) (let e : i + 1 + length ys ≡ i + suc (length ys) = omega arith in e)

-- four stores in a row
pub paste_four : (i a b c d : ℕ) (xs : Octets) → i + 4 ≤ length xs →
    set (set (set (set xs i a) (i + 1) b) (i + 2) c) (i + 3) d ≡ paste i (a ∷ b ∷ c ∷ d ∷ []) xs
paste_four i a b c d xs h =
    let e₁ : i + 1 ≡ suc i = omega arith in
    let e₂ : i + 2 ≡ suc (suc i) = omega arith in
    let e₃ : i + 3 ≡ suc (suc (suc i)) = omega arith in
    rw (e₁, e₂, e₃) (paste_sets i (a ∷ b ∷ c ∷ d ∷ []) xs h)

-- two parts put in one behind the other
pub paste_append : (i : ℕ) (a b xs : Octets) → i + length a ≤ length xs → paste i (a ++ b) xs ≡ paste i a (paste (i + length a) b xs)
unfolding paste
paste_append i a b xs h =
    let rest = b ++ drop (i + length a + length b) xs in
    let n = i + length a in
    ap (λ (l : Octets). take i xs ++ l) (append_assoc a b (drop (i + length (a ++ b)) xs)
    ∙ ap (λ (m : ℕ). a ++ (b ++ drop m xs)) (ap (λ (m : ℕ). i + m) (length-append a b) ∙ sym (add_assoc i (length a) (length b))))
    ∙ sym
    (ap₂ (λ (l r : Octets). l ++ (a ++ r))
    (Seq.take-append-le i (take n xs) rest (rw (Seq.length-take-le n xs h) (omega arith)) ∙ Seq.take-take i n xs (omega arith))
    (Seq.drop_at (take n xs) rest n (Seq.length-take-le n xs h)))

-- what stands there already
pub paste-own : (i k : ℕ) (xs : Octets) → i + k ≤ length xs → paste i (take k (drop i xs)) xs ≡ xs
unfolding paste
paste-own i k xs h =
    ap (λ (m : ℕ). take i xs ++ (take k (drop i xs) ++ drop (i + m) xs)) (Seq.length-take-le k (drop i xs) (rw length-drop (omega arith)))
    ∙ ap (λ (l : Octets). take i xs ++ (take k (drop i xs) ++ l)) (sym (Seq.drop-drop k i xs))
    ∙ ap (λ (l : Octets). take i xs ++ l) (take-append-drop k (drop i xs))
    ∙ take-append-drop i xs

-- a whole buffer put in place of another
pub paste-whole : (ys xs : Octets) → length ys ≡ length xs → paste 0 ys xs ≡ ys
unfolding paste
paste-whole ys xs h = rw (drop_of_length-le xs {i = 0 + length ys} (omega arith)) (append-nil ys)

-- a part before what is put in
pub part-before : (i j k : ℕ) (ys xs : Octets) → j + k ≤ i → i ≤ length xs → take k (drop j (paste i ys xs)) ≡ take k (drop j xs)
unfolding paste
part-before i j k ys xs h hx =
    sym (take-drop-take k j i (paste i ys xs) h)
    ∙ ap (λ (l : Octets). take k (drop j l)) (Seq.take_at (take i xs) (ys ++ drop (i + length ys) xs) i (Seq.length-take-le i xs hx))
    ∙ take-drop-take k j i xs h
