-- Bytes put behind others that were put before.
use mathlib.Core.Path.{◌≡◌, refl, sym, ap, ◌∙◌}
use mathlib.Core.List.{[], ◌∷◌, ◌++◌, append_assoc}
use Prim.Native.Nat.{ℕ, ◌+◌, ◌≤◌, ◌<◌}
use native.Mathlib.Numerals.{add-one}
use native.Mathlib.Omega.{arith}
use lib.ListN.{length, take, drop, set, length-append}
use lib.Seq.{length-take-le, take_at, drop_at, drop-drop, set_split}
use Rattle.rules.specs.Octets.{Octets, paste, four_bytes}

-- put at the place behind, they are one text
pub paste-behind : (i n : ℕ) (x y l : Octets) → i ≤ length l → n ≡ i + length x → paste n y (paste i x l) ≡ paste i (x ++ y) l
unfolding paste
paste-behind i n x y l h e =
    let p = take i l ++ x in
    let q = drop (i + length x) l in
    let k : length p ≡ n = length-append (take i l) x ∙ (ap (λ (j : ℕ). j + length x) (length-take-le i l h) ∙ sym e) in
    let m : i + length x + length y ≡ i + length (x ++ y) = rw length-append (omega arith) in
    let d : drop (n + length y) (p ++ q) ≡ drop (i + length (x ++ y)) l =
    sym (drop-drop (length y) n (p ++ q))
    ∙ (ap (drop (length y)) (drop_at p q n k)
    ∙ (drop-drop (length y) (i + length x) l ∙ ap (λ (j : ℕ). drop j l) m)) in
    rw (← append_assoc (take i l) x q, take_at p q n k, d) (append_assoc (take i l) x _ ∙ ap (λ (t : Octets). take i l ++ t) (sym (append_assoc x y _)))

pub set-paste : (l : Octets) (i v : ℕ) → i < length l → set l i v ≡ paste i (v ∷ []) l
unfolding paste
set-paste l i v h = set_split l i v h ∙ ap (λ (j : ℕ). take i l ++ v ∷ drop j l) (sym (add-one i))

-- ── a message's header: its type, its two ids and the length of its payload ──

four : (n : ℕ) → length (four_bytes n) ≡ 4
unfolding four_bytes
four n = refl

module _ (k : ℕ) (ids : Octets) (n : ℕ) (eight : length ids ≡ 8) where
  pub header-length : length (four_bytes k ++ (ids ++ four_bytes n)) ≡ 16
  header-length = rw (length-append, length-append, four k, four n, eight) refl

  pub header_put : (l l₁ l₂ l₃ : Octets) → l₁ ≡ paste 0 (four_bytes k) l → l₂ ≡ paste 4 ids l₁ → l₃ ≡ paste 12 (four_bytes n) l₂ →
      l₃ ≡ paste 0 (four_bytes k ++ (ids ++ four_bytes n)) l
  header_put l l₁ l₂ l₃ e₁ e₂ e₃ =
      let a : l₂ ≡ paste 0 (four_bytes k ++ ids) l = e₂ ∙ (ap (paste 4 ids) e₁
      ∙ paste-behind 0 4 (four_bytes k) ids l (omega arith) (let e : 4 ≡ 0 + length (four_bytes k) = rw four refl in e)) in
      let w : length (four_bytes k ++ ids) ≡ 12 = rw (length-append, four, eight) refl in
      e₃ ∙ (ap (paste 12 (four_bytes n)) a ∙ (paste-behind 0 12 (four_bytes k ++ ids) _ l (omega arith)
      (let e : 12 ≡ 0 + length (four_bytes k ++ ids) = rw w refl in e)
      ∙ ap (λ (x : Octets). paste 0 x l) (append_assoc (four_bytes k) ids (four_bytes n))))
