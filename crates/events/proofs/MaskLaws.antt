-- Masks as numbers: one bit after the other.
use mathlib.Core.Path.{◌≡◌, refl, sym, ap, ap₂, subst, ◌∙◌}
use mathlib.Core.Bool.{Bool, true, false}
use mathlib.Core.List.{List, [], ◌∷◌, ◌++◌}
use mathlib.Core.Option.{none, some}
use Prim.Native.Nat.{ℕ, zero, suc, ◌+◌, ◌-◌, ◌*◌, ◌/◌, ◌%◌, ◌^◌, ◌≤◌, ◌<◌}
use native.Mathlib.Nat.{pow-suc, zero-add, add-zero, add_assoc, add-mul, mul-one, mul_comm, mul_assoc}
use native.Mathlib.Nat.{mul-add-div_right, div-eq_of_lt, not-suc-le-zero, le_of_suc-le-suc}
use native.Mathlib.Numerals.{add-one}
use native.Mathlib.Omega.{arith}
use lib.Dec.{eqb, lit<}
use lib.ListN.{length, get_or, take, drop, length-drop, take-append-drop}
use lib.Pow.{pow_pos}
use lib.Seq.{take-suc, take_all, drop-cons}
use borrow.Author.Tests.{eq-eqb, ne_eqb}
use Rattle.rules.specs.Size.{most_watches}
use Rattle.rules.specs.Octets.{Octets, Bits, ◌bits◌, pack, pack_from, bits_at, bit}
use Rattle.rules.specs.Event.{Watch, Watches, mask_of, any_bit, only_from}
use Rattle.rules.specs.Layout.{mask_bits, watches_of}
use Rattle.rules.proofs.Fields.{bit_small}
use Rattle.domains.specs.Entry.{passes}
use Rattle.watches.proofs.Bytes.{length-watches_of}
use Rattle.events.specs.Records.{Mask, Tested, number_bit}

-- ── the number of a mask ──

pub pack_append : (n : ℕ) (xs ys : List Bits) → pack_from n (xs ++ ys) ≡ pack_from (pack_from n xs) ys
unfolding pack_from
pack_append n [] ys = refl
pack_append n (x ∷ xs) ys = pack_append (n * 2 ^ x.width + x.holds) xs ys

bits_append : (a b : List Bool) → mask_bits (a ++ b) ≡ mask_bits a ++ mask_bits b
unfolding mask_bits
bits_append [] b = refl
bits_append (x ∷ a) b = ap (λ (l : List Bits). 1 bits bit x ∷ l) (bits_append a b)

number_next : (m : List Bool) (b : Bool) → pack (mask_bits (m ++ (b ∷ []))) ≡ pack (mask_bits m) * 2 + bit b
unfolding pack pack_from mask_bits
number_next m b = ap (pack_from 0) (bits_append m (b ∷ [])) ∙ pack_append 0 (mask_bits m) (mask_bits (b ∷ []))

pack-high : (n : ℕ) (bs : List Bool) → pack_from n (mask_bits bs) ≡ n * 2 ^ length bs + pack_from 0 (mask_bits bs)
unfolding pack_from mask_bits
pack-high n [] = sym (add-zero (n * 1) ∙ mul-one n)
pack-high n (b ∷ bs) =
    let p = 2 ^ length bs in
    let double : n * 2 * p ≡ n * (p * 2) = mul_assoc n 2 p ∙ ap (λ (x : ℕ). n * x) (mul_comm 2 p) in
    let q : (n * 2 + bit b) * p ≡ n * (p * 2) + bit b * p = add-mul (n * 2) (bit b) p ∙ ap (λ (x : ℕ). x + bit b * p) double in
    let first : pack_from (0 + bit b) (mask_bits bs) ≡ bit b * p + pack_from 0 (mask_bits bs) =
    ap (λ (x : ℕ). pack_from x (mask_bits bs)) (zero-add (bit b)) ∙ pack-high (bit b) bs in
    pack-high (n * 2 + bit b) bs ∙ ap (λ (x : ℕ). x + pack_from 0 (mask_bits bs)) q
    ∙ (add_assoc (n * (p * 2)) (bit b * p) _ ∙ ap₂ (λ (x y : ℕ). n * x + y) (sym (pow-suc 2 (length bs))) (sym first))

pack_small : (bs : List Bool) → pack_from 0 (mask_bits bs) < 2 ^ length bs
unfolding pack_from mask_bits
pack_small [] = lit< tt
pack_small (true ∷ bs) = rw (pack-high 1 bs, pow-suc) (omega (arith, pack_small bs))
pack_small (false ∷ bs) = rw pow-suc (omega (arith, pack_small bs))

bit-low : (b : Bool) (x : ℕ) → eqb ((x * 2 + bit b) % 2) 1 ≡ b
bit-low true x = eq-eqb _ 1 (omega arith)
bit-low false x = ne_eqb _ 1 (omega arith)

-- the number of a mask has the mask's bits
pub mask-bit : (m : List Bool) (n : ℕ) → Mask m n → (k : ℕ) → k < most_watches → number_bit n k ≡ get_or m k false
unfolding bits_at pack pack_from mask_bits
mask-bit m n h k l =
    let b = get_or m k false in
    let rest = drop (suc k) m in
    let x = pack_from 0 (mask_bits (take k m)) in
    let low = pack_from 0 (mask_bits rest) in
    let long : length rest ≡ 15 - k = rw length-drop (omega (arith, h.long)) in
    let parts : take k m ++ (b ∷ rest) ≡ m = ap (λ (l : List Bool). take k m ++ l) (sym (drop-cons m k false (omega (arith, h.long)))) ∙ take-append-drop k m in
    let value : n ≡ (x * 2 + bit b) * 2 ^ (15 - k) + low =
    h.value ∙ ap (λ (l : List Bool). pack (mask_bits l)) (sym parts) ∙ ap (pack_from 0) (bits_append (take k m) (b ∷ rest))
    ∙ pack_append 0 (mask_bits (take k m)) (mask_bits (b ∷ rest)) ∙ pack-high (x * 2 + bit b) rest
    ∙ ap (λ (j : ℕ). (x * 2 + bit b) * 2 ^ j + low) long in
    let below : low < 2 ^ (15 - k) = subst (λ (j : ℕ). low < 2 ^ j) long (pack_small rest) in
    let high : n / 2 ^ (15 - k) ≡ x * 2 + bit b = rw value (mul-add-div_right (pow_pos (15 - k)) (x * 2 + bit b) low ∙ rw (div-eq_of_lt below) (add-zero _)) in
    ap (λ (j : ℕ). eqb (j % 2) 1) high ∙ bit-low b x

-- the first k bits of a mask make a number
pub record Masked (m : List Bool) (k number : ℕ) : Type 0 where
  pub within : k ≤ most_watches
  pub small : number < 2 ^ k
  pub value : number ≡ pack (mask_bits (take k m))

module _ (m : List Bool) where
  pub masked_none : Masked m 0 0
  unfolding pack pack_from mask_bits
  masked_none = record { within = omega arith; small = lit< tt; value = refl }

  module _ (k n : ℕ) (f : Masked m k n) where
    pub masked_next : length m ≡ most_watches → k < most_watches → (b : Bool) → b ≡ get_or m k false → (r : ℕ) → r ≡ n * 2 + bit b → Masked m (k + 1) r
    masked_next l h b e r q =
        record {
          within = omega arith;
          small = rw (add-one, pow-suc) (omega (arith, f.small, bit_small b));
          value =
              q
              ∙ ap₂ (λ (x : ℕ) (y : Bool). x * 2 + bit y) f.value e
              ∙ sym (number_next (take k m) (get_or m k false))
              ∙ ap (λ (x : List Bool). pack (mask_bits x)) (sym (ap (λ (j : ℕ). take j m) (add-one k) ∙ take-suc m k false (omega arith)));
        }

    pub masked_all : length m ≡ most_watches → most_watches ≤ k → Mask m n
    masked_all l h = record { long = l; value = f.value ∙ ap (λ (x : List Bool). pack (mask_bits x)) (take_all k m (omega arith)) }

-- the first k bits of each mask whose bits are what a test says of the places
pub record Built (says : ℕ → Bool → Type 0) (k number : ℕ) : Type 0 where
  pub within : k ≤ most_watches
  pub small : number < 2 ^ k
  pub masks : (m : List Bool) → Tested says m → Masked m k number

module _ (says : ℕ → Bool → Type 0) where
  pub built_none : Built says 0 0
  built_none = record { within = omega arith; small = lit< tt; masks = λ m t. masked_none m }

  module _ (k n : ℕ) (f : Built says k n) where
    pub built_next : k < most_watches → (b : Bool) → says k b → (r : ℕ) → r ≡ n * 2 + bit b → Built says (k + 1) r
    built_next h b e r q =
        record {
          within = omega arith;
          small = rw (add-one, pow-suc) (omega (arith, f.small, bit_small b));
          masks = λ m t. masked_next m k n (f.masks m t) t.long h b (t.each k b h e) r q;
        }

    pub built_all : most_watches ≤ k → (m : List Bool) → Tested says m → Mask m n
    built_all h m t = masked_all m k n (f.masks m t) t.long h

-- ── which bits there are ──

module _ (f : Watch → Bool) where
  length-mask : (ws : Watches) → length (mask_of f ws) ≡ length ws
  unfolding mask_of
  length-mask [] = refl
  length-mask (none ∷ ws) = ap suc (length-mask ws)
  length-mask (some w ∷ ws) = ap suc (length-mask ws)

  pub mask_at : (ws : Watches) (k : ℕ) → passes f (get_or ws k none) ≡ get_or (mask_of f ws) k false
  unfolding mask_of passes
  mask_at [] k = refl
  mask_at (none ∷ ws) zero = refl
  mask_at (some w ∷ ws) zero = refl
  mask_at (none ∷ ws) (suc k) = mask_at ws k
  mask_at (some w ∷ ws) (suc k) = mask_at ws k

pub mask-long : (f : Watch → Bool) (s : Octets) → length (mask_of f (watches_of s)) ≡ most_watches
mask-long f s = length-mask f (watches_of s) ∙ length-watches_of s

length_only : (k i : ℕ) (ws : Watches) → length (only_from k i ws) ≡ length ws
unfolding only_from
length_only k i [] = refl
length_only k i (w ∷ ws) = ap suc (length_only k (suc i) ws)

pub only_long : (k : ℕ) (s : Octets) → length (only_from k 0 (watches_of s)) ≡ most_watches
only_long k s = length_only k 0 (watches_of s) ∙ length-watches_of s

only_from_lem : (k i : ℕ) (ws : Watches) (j : ℕ) → j < length ws → eqb k (i + j) ≡ get_or (only_from k i ws) j false
unfolding only_from
only_from_lem k i [] j h = absurd (not-suc-le-zero h)
only_from_lem k i (w ∷ ws) zero h = ap (eqb k) (add-zero i)
only_from_lem k i (w ∷ ws) (suc j) h = ap (eqb k) (let e : i + suc j ≡ suc i + j = omega arith in e) ∙ only_from_lem k (suc i) ws j (le_of_suc-le-suc h)

pub only_at : (k : ℕ) (s : Octets) (j : ℕ) → j < most_watches → eqb k j ≡ get_or (only_from k 0 (watches_of s)) j false
only_at k s j h = ap (eqb k) (let e : j ≡ 0 + j = omega arith in e) ∙ only_from_lem k 0 (watches_of s) j (omega (arith, length-watches_of s))

-- ── whether there is a bit ──

empty_by : (n : ℕ) (m : List Bool) → pack_from n (mask_bits m) ≡ 0 → (n ≡ 0) × (any_bit m ≡ false)
unfolding pack_from mask_bits any_bit
empty_by n [] e = (e, refl)
empty_by n (true ∷ m) e = absurd (omega (arith, (empty_by (n * 2 + 1) m e).0))
empty_by n (false ∷ m) e = let q = empty_by (n * 2 + 0) m e in (omega (arith, q.0), q.1)

pub empty_mask : (m : List Bool) → pack (mask_bits m) ≡ 0 → any_bit m ≡ false
unfolding pack
empty_mask m e = (empty_by 0 m e).1

zero_by : (m : List Bool) → any_bit m ≡ false → pack_from 0 (mask_bits m) ≡ 0
unfolding pack_from mask_bits any_bit
zero_by [] e = refl
zero_by (true ∷ m) e = let z : ◌≡◌ {A = ℕ} 0 1 = cc in absurd (omega arith)
zero_by (false ∷ m) e = zero_by m e

pub some-mask : (m : List Bool) → (pack (mask_bits m) ≡ 0 → ⊥) → any_bit m ≡ true
unfolding pack
some-mask m f = go (any_bit m) refl
  where
    go : (x : Bool) → any_bit m ≡ x → x ≡ true
    go true e = refl
    go false e = absurd (f (zero_by m e))
