-- Tables of entries of one width: what stands in a place, what a written place changes, and that decoding undoes encoding.
use mathlib.Core.Path.{◌≡◌, refl, sym, ap, ap₂, ◌∙◌}
use mathlib.Core.List.{List, [], ◌∷◌, ◌++◌, map, flat_map, append-nil, append_assoc}
use Prim.Native.Nat.{ℕ, zero, suc, ◌+◌, ◌*◌, ◌≤◌, ◌<◌}
use native.Mathlib.Nat.{suc-mul, zero-mul, zero-add, add_comm, add_assoc, le_of_suc-le-suc, not-suc-le-zero}
use native.Mathlib.Omega.{arith}
use lib.ListN.{length, get_or, take, drop, set, length-append}
use lib.Seq.{take_at, drop_at, drop-drop, take-append-add, drop-append-add}
use Rattle.rules.specs.Octets.{Octets, chunks, paste}

-- what stands below a list's length does not depend on the default
pub get_d_any : {A : Type 0} (xs : List A) (i : ℕ) (a b : A) → i < length xs → get_or xs i a ≡ get_or xs i b
get_d_any [] i a b h = absurd (not-suc-le-zero h)
get_d_any (x ∷ xs) zero a b h = refl
get_d_any (x ∷ xs) (suc i) a b h = get_d_any xs i a b (le_of_suc-le-suc h)

pub flat_append : {A B : Type 0} (f : A → List B) (xs ys : List A) → flat_map f (xs ++ ys) ≡ flat_map f xs ++ flat_map f ys
unfolding flat_map
flat_append f [] ys = refl
flat_append f (x ∷ xs) ys = ap (λ r. f x ++ r) (flat_append f xs ys) ∙ sym (append_assoc (f x) (flat_map f xs) (flat_map f ys))

pub flat_last : {A B : Type 0} (f : A → List B) (xs : List A) (y : A) → flat_map f (xs ++ y ∷ []) ≡ flat_map f xs ++ f y
unfolding flat_map
flat_last f xs y = flat_append f xs (y ∷ []) ∙ ap (λ r. flat_map f xs ++ r) (append-nil (f y))

-- ── what holds of each entry ──

module _ {A : Type 0} where
  abbrev pub Each : (A → Type 0) → List A → Type 0
  Each P [] = Unit {0}
  Each P (x ∷ xs) = P x × Each P xs

  pub each_at : (P : A → Type 0) (xs : List A) (i : ℕ) (d : A) → Each P xs → i < length xs → P (get_or xs i d)
  each_at P [] i d e h = absurd (not-suc-le-zero h)
  each_at P (x ∷ xs) zero d e h = e.0
  each_at P (x ∷ xs) (suc i) d e h = each_at P xs i d e.1 (le_of_suc-le-suc h)

  pub each_set : (P : A → Type 0) (xs : List A) (i : ℕ) (y : A) → Each P xs → P y → Each P (set xs i y)
  each_set P [] i y e p = tt
  each_set P (x ∷ xs) zero y e p = (p, e.1)
  each_set P (x ∷ xs) (suc i) y e p = (e.0, each_set P xs i y e.1 p)

  pub each_map : (P Q : A → Type 0) → ((x : A) → P x → Q x) → (xs : List A) → Each P xs → Each Q xs
  each_map P Q f [] e = tt
  each_map P Q f (x ∷ xs) e = (f x e.0, each_map P Q f xs e.1)

  pub each_always : (P : A → Type 0) → ((x : A) → P x) → (xs : List A) → Each P xs
  each_always P f [] = tt
  each_always P f (x ∷ xs) = (f x, each_always P f xs)

  pub each_append : (P : A → Type 0) (xs ys : List A) → Each P xs → Each P ys → Each P (xs ++ ys)
  each_append P [] ys p q = q
  each_append P (x ∷ xs) ys p q = (p.0, each_append P xs ys p.1 q)

-- lists of so many entries at most, joined
pub flat_few : {A B : Type 0} (f : A → List B) (most : ℕ) (xs : List A) → Each (λ (x : A). length (f x) ≤ most) xs → length (flat_map f xs) ≤ length xs * most
unfolding flat_map
flat_few f most [] h = omega arith
flat_few f most (x ∷ xs) h =
    rw (length-append (f x) (flat_map f xs)) (omega (arith, h.0, flat_few f most xs h.1, suc-mul (length xs) most))

-- ── bytes taken as entries ──

pub length-chunks : (n k : ℕ) (s : Octets) → length (chunks n k s) ≡ n
unfolding chunks
length-chunks zero k s = refl
length-chunks (suc n) k s = ap suc (length-chunks n k (drop k s))

place_next : (k i : ℕ) (s : Octets) → drop (i * k) (drop k s) ≡ drop (suc i * k) s
place_next k i s = drop-drop (i * k) k s ∙ ap (λ (m : ℕ). drop m s) (add_comm k (i * k) ∙ sym (suc-mul i k))

-- the entry in place i, decoded
pub decoded_at : {A : Type 0} (decode : Octets → A) (n k i : ℕ) (s : Octets) (d : A) → i < n →
    get_or (map decode (chunks n k s)) i d ≡ decode (take k (drop (i * k) s))
unfolding chunks
decoded_at decode zero k i s d h = absurd (not-suc-le-zero h)
decoded_at decode (suc n) k zero s d h = rw zero-mul
decoded_at decode (suc n) k (suc i) s d h =
    decoded_at decode n k i (drop k s) d (le_of_suc-le-suc h) ∙ ap (λ (r : Octets). decode (take k r)) (place_next k i s)

-- ── entries written as bytes ──

-- what is pasted past a first part leaves that part alone
pub paste_past : (p q ys : Octets) (i : ℕ) → paste (length p + i) ys (p ++ q) ≡ p ++ paste i ys q
unfolding paste
paste_past p q ys i =
    ap₂ ◌++◌ (take-append-add p q i) (ap (λ (m : ℕ). ys ++ drop m (p ++ q)) (add_assoc (length p) i (length ys))
    ∙ ap (λ (r : Octets). ys ++ r) (drop-append-add p q (i + length ys)))
    ∙ append_assoc p (take i q) (ys ++ drop (i + length ys) q)

module _ {A : Type 0} (encode : A → Octets) (k : ℕ) where
  -- the entry takes k bytes
  abbrev pub Wide : A → Type 0
  Wide x = length (encode x) ≡ k

  pub length_encoded : (xs : List A) → Each Wide xs → length (flat_map encode xs) ≡ length xs * k
  unfolding flat_map
  length_encoded [] w = sym (zero-mul k)
  length_encoded (x ∷ xs) w = length-append (encode x) (flat_map encode xs) ∙ rw (w.0, length_encoded xs w.1, suc-mul, add_comm k)

  skip : (x : A) → Wide x → (rest : Octets) (i : ℕ) → drop (suc i * k) (encode x ++ rest) ≡ drop (i * k) rest
  skip x w rest i = sym (place_next k i (encode x ++ rest)) ∙ ap (drop (i * k)) (drop_at (encode x) rest k w)

  -- the bytes of the entry in place i
  pub encoded_at : (xs : List A) (i : ℕ) (d : A) → Each Wide xs → i < length xs → take k (drop (i * k) (flat_map encode xs)) ≡ encode (get_or xs i d)
  unfolding flat_map
  encoded_at [] i d w h = absurd (not-suc-le-zero h)
  encoded_at (x ∷ xs) zero d w h = rw zero-mul (take_at (encode x) (flat_map encode xs) k w.0)
  encoded_at (x ∷ xs) (suc i) d w h = ap (take k) (skip x w.0 (flat_map encode xs) i) ∙ encoded_at xs i d w.1 (le_of_suc-le-suc h)

  -- a written entry changes its own bytes alone
  pub written : (xs : List A) (i : ℕ) (y : A) → Each Wide xs → Wide y → i < length xs →
      flat_map encode (set xs i y) ≡ paste (i * k) (encode y) (flat_map encode xs)
  unfolding flat_map paste
  written [] i y w v h = absurd (not-suc-le-zero h)
  written (x ∷ xs) zero y w v h = rw (zero-mul, zero-add, v, drop_at (encode x) (flat_map encode xs) k w.0)
  written (x ∷ xs) (suc i) y w v h = rw (written xs i y w.1 v (le_of_suc-le-suc h), suc-mul, add_comm (i * k) k, ← w.0, paste_past)

  -- decoding undoes encoding, where it does so at each entry
  pub decoded : (decode : Octets → A) (xs : List A) → Each Wide xs → Each (λ (x : A). decode (encode x) ≡ x) xs →
      map decode (chunks (length xs) k (flat_map encode xs)) ≡ xs
  unfolding flat_map chunks
  decoded decode [] w e = refl
  decoded decode (x ∷ xs) w e =
      ap₂ ◌∷◌ (ap decode (take_at (encode x) (flat_map encode xs) k w.0) ∙ e.0)
      (ap (λ (r : Octets). map decode (chunks (length xs) k r)) (drop_at (encode x) (flat_map encode xs) k w.0) ∙ decoded decode xs w.1 e.1)
