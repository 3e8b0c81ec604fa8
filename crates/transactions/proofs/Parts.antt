-- Bytes put into a part of a table.
use mathlib.Core.Path.{◌≡◌, sym, ap, ap₂, ◌∙◌}
use mathlib.Core.List.{◌++◌, append_assoc}
use Prim.Native.Nat.{ℕ, zero, suc, ◌+◌, ◌-◌, ◌≤◌}
use native.Mathlib.Nat.{add-zero, zero-add, sub-zero, zero-sub, suc-sub-suc}
use native.Mathlib.Omega.{arith}
use lib.ListN.{length, take, drop, replicate, length-append, length-drop, take-append-drop}
use lib.Seq.{take_at, drop_at, take-append-le, drop-append-le, drop-drop, length-take-le}
use Rattle.rules.specs.Octets.{Octets, padded, paste}
use Rattle.rules.proofs.Tables.{paste_past}
use Rattle.rules.proofs.Paste.{length-paste}

-- what is put into a first part leaves what follows alone
pub paste_front : (p : ℕ) (ys a z : Octets) → p + length ys ≤ length a → paste p ys (a ++ z) ≡ paste p ys a ++ z
unfolding paste
paste_front p ys a z h =
    ap₂ (λ (l r : Octets). l ++ (ys ++ r)) (take-append-le p a z (omega arith)) (drop-append-le (p + length ys) a z h)
    ∙ ap (λ (r : Octets). take p a ++ r) (sym (append_assoc ys (drop (p + length ys) a) z))
    ∙ sym (append_assoc (take p a) (ys ++ drop (p + length ys) a) z)

pasted : (s : Octets) (at k : ℕ) (r : Octets) → length r ≡ k → paste at r s ≡ take at s ++ (r ++ drop (at + k) s)
unfolding paste
pasted s at k r e = rw e

-- what is put into a place of k bytes is put into the table
pub paste_row : (s : Octets) (at k p : ℕ) (ys : Octets) → at + k ≤ length s → p + length ys ≤ k
    → paste at (paste p ys (take k (drop at s))) s ≡ paste (at + p) ys s
paste_row s at k p ys h hp =
    let row = take k (drop at s) in
    let rest = drop (at + k) s in
    let l : length row ≡ k = length-take-le k (drop at s) (rw length-drop (omega arith)) in
    let f : length (take at s) ≡ at = length-take-le at s (omega arith) in
    let whole : take at s ++ (row ++ rest) ≡ s =
    ap (λ (r : Octets). take at s ++ (row ++ r)) (sym (drop-drop k at s))
    ∙ ap (λ (r : Octets). take at s ++ r) (take-append-drop k (drop at s))
    ∙ take-append-drop at s in
    let past = paste_past (take at s) (row ++ rest) ys p in
    pasted s at k (paste p ys row) (length-paste p ys row (rw l hp) ∙ l)
    ∙ ap (λ (r : Octets). take at s ++ r) (sym (paste_front p ys row rest (rw l hp)))
    ∙ sym (rw f at past)
    ∙ ap (paste (at + p) ys) whole

-- bytes put in twice: the second remain
pub paste_twice : (s : Octets) (i : ℕ) (a b : Octets) → i ≤ length s → length b ≡ length a → paste i b (paste i a s) ≡ paste i b s
unfolding paste
paste_twice s i a b h e =
    let f : length (take i s) ≡ i = length-take-le i s h in
    let rest = drop (i + length a) s in
    let e₁ : take i (paste i a s) ≡ take i s = take_at (take i s) (a ++ rest) i f in
    let e₂ : drop (i + length b) (paste i a s) ≡ drop (i + length b) s =
    sym (drop-drop (length b) i (paste i a s)) ∙ ap (drop (length b)) (drop_at (take i s) (a ++ rest) i f) ∙ drop_at a rest (length b) (sym e) ∙ rw e in
    ap₂ (λ (l r : Octets). l ++ (b ++ r)) e₁ e₂

-- the place that was written
pub row_pasted : (s : Octets) (at k : ℕ) (r : Octets) → at ≤ length s → length r ≡ k → take k (drop at (paste at r s)) ≡ r
unfolding paste
row_pasted s at k r h e = ap (take k) (drop_at (take at s) (r ++ drop (at + length r) s) at (length-take-le at s h)) ∙ take_at r (drop (at + length r) s) k e

drop_zeros : (n m : ℕ) → drop n (replicate {A = ℕ} m 0) ≡ replicate (m - n) 0
drop_zeros zero m = rw sub-zero
drop_zeros (suc n) zero = rw zero-sub
drop_zeros (suc n) (suc m) = rw suc-sub-suc (drop_zeros n m)

-- more of a text takes the place of the zeros behind it
pub padded_more : (n : ℕ) (a b : Octets) → length a + length b ≤ n → padded n (a ++ b) ≡ paste (length a) b (padded n a)
unfolding padded paste
padded_more n a b h =
    let m = n - length a in
    let e : n - length (a ++ b) ≡ m - length b = rw (length-append a b) (omega arith) in
    let past = paste_past a (replicate m 0) b 0 in
    append_assoc a b (replicate (n - length (a ++ b)) 0)
    ∙ ap (λ (j : ℕ). a ++ (b ++ replicate j 0)) e
    ∙ ap (λ (r : Octets). a ++ r) (sym (first_pasted b m))
    ∙ sym (rw add-zero at past)
  where
    first_pasted : (b : Octets) (m : ℕ) → paste 0 b (replicate m 0) ≡ b ++ replicate (m - length b) 0
    first_pasted b m = rw (paste, zero-add, drop_zeros (length b) m)
