-- Keys: siblings with one name share one, so what differs in keys does not clash.
use mathlib.Core.Path.{◌≡◌, refl, sym, ap, ◌∙◌}
use mathlib.Core.Bool.{Bool, true, false, true≢false, cond, ◌||◌, or-true, or-false, or_assoc}
use mathlib.Core.List.{List, [], ◌∷◌}
use mathlib.Core.Option.{Option, none, some}
use Prim.Native.Nat.{ℕ, zero, suc, ◌+◌, ◌*◌, ◌-◌, ◌%◌, ◌≤◌, ◌<◌}
use native.Mathlib.Nat.{mod-lt, not-suc-le-zero, le_of_suc-le-suc}
use native.Mathlib.Numerals.{add-one}
use native.Mathlib.Omega.{arith}
use lib.ListN.{length, get_or, drop, drop_of_length-le}
use lib.Seq.{drop-cons}
use lib.Dec.{eqb, ltb}
use borrow.Author.Tests.{eqb-true, eq-eqb, lt-ltb, le-ltb}
use Rattle.rules.specs.Octets.{Octets, same}
use Rattle.rules.specs.Node.{Node, node_at}
use Rattle.rules.specs.Layout.{table_of}
use Rattle.rules.specs.Sound.{clash}
use Rattle.rules.proofs.Compare.{both_true, same_eq}
use Rattle.slots.proofs.Canonical.{used-some}
use Rattle.slots.specs.Slot.{slot_at, is_used}
use Rattle.slots.proofs.Reading.{node-some}
use Rattle.soundness.specs.Keys.{digest_of, key_of, has_key}

-- ── the digest ──

pub digest_small : (s : Octets) → length s < 2 → get_or s 0 0 % 256 ≡ digest_of s
unfolding digest_of
digest_small s h = rw (lt-ltb (length s) 2 h) refl

pub digest_large : (s : Octets) → 2 ≤ length s → ((get_or s 0 0 + get_or s (length s - 1) 0) * 8 + get_or s (length s - 2) 0 + length s) % 256 ≡ digest_of s
unfolding digest_of
digest_large s h = rw (le-ltb (length s) 2 h) refl

pub digest_bound : (s : Octets) → digest_of s < 256
unfolding digest_of
digest_bound s = by (ltb (length s) 2)
  where
    by : (b : Bool) → cond b (get_or s 0 0 % 256) (((get_or s 0 0 + get_or s (length s - 1) 0) * 8 + get_or s (length s - 2) 0 + length s) % 256) < 256
    by true = mod-lt _ (omega arith)
    by false = mod-lt _ (omega arith)

-- ── keys ──

pub key_none : (x : Option Node) → is_used x ≡ false → 0 ≡ key_of x
unfolding key_of
key_none none e = refl
key_none (some n) e = absurd (true≢false e)

pub key_some : (t : Octets) (i p d : ℕ) (s : Octets) → is_used (slot_at t i) ≡ true → p ≡ (node_at (table_of t) i).parent → s ≡ (node_at (table_of t) i).name →
    d ≡ digest_of s →
    32768 + p * 256 + d ≡ key_of (slot_at t i)
unfolding key_of
key_some t i p d s u ep es ed =
    let x = used-some (slot_at t i) u in
    let n = node-some (table_of t) i x.0 x.1 in
    rw (x.1, ep, ed, es, n) refl

pub key_used : (x : Option Node) (k : ℕ) → k ≡ key_of x → (k ≡ 0 → ⊥) → is_used x ≡ true
unfolding key_of
key_used none k e h = absurd (h e)
key_used (some n) k e h = refl

pub key_positive : (n : Node) → key_of (some n) ≡ 0 → ⊥
unfolding key_of
key_positive n e = omega (arith, e)

clash-parts : (n m : Node) → clash n m ≡ true → (n.parent ≡ m.parent) × (n.name ≡ m.name)
unfolding clash
clash-parts n m e =
    let p = both_true (eqb n.parent m.parent) (same n.name m.name) e in
    (eqb-true n.parent m.parent p.0, same_eq n.name m.name p.1)

pub clash_keys : (n m : Node) → clash n m ≡ true → key_of (some n) ≡ key_of (some m)
unfolding key_of
clash_keys n m e =
    let p = clash-parts n m e in
    rw (p.0, p.1) refl

pub keys_parents : (n m : Node) → key_of (some n) ≡ key_of (some m) → n.parent ≡ m.parent
unfolding key_of
keys_parents n m e = omega (arith, e, digest_bound n.name, digest_bound m.name)

pub digest_none : (s : Octets) → length s ≡ 0 → 0 ≡ digest_of s
unfolding digest_of
digest_none [] e = refl
digest_none (c ∷ s) e = absurd (omega (arith, e))

-- ── a key among keys ──

pub has_key_at : (k : ℕ) (xs : List ℕ) (a : ℕ) → a < length xs → get_or xs a 0 ≡ k → has_key k xs ≡ true
unfolding has_key
has_key_at k [] a h e = absurd (not-suc-le-zero h)
has_key_at k (x ∷ xs) zero h e = ap (λ (b : Bool). b || has_key k xs) (eq-eqb x k e)
has_key_at k (x ∷ xs) (suc a) h e = ap (λ (b : Bool). eqb x k || b) (has_key_at k xs a (le_of_suc-le-suc h) e) ∙ or-true (eqb x k)

-- a turn of `has_key`: what is found so far, and the keys from j on, decide
pub has_key_turn : (k : ℕ) (xs : List ℕ) (j : ℕ) (found : Bool) → j < length xs → has_key k xs ≡ found || has_key k (drop j xs) →
    has_key k xs ≡ (found || eqb (get_or xs j 0) k) || has_key k (drop (j + 1) xs)
unfolding has_key
has_key_turn k xs j found h e = e ∙ rw (drop-cons xs j 0 h, add-one) (sym (or_assoc found (eqb (get_or xs j 0) k) (has_key k (drop (suc j) xs))))

pub has_key_end : (k : ℕ) (xs : List ℕ) (j : ℕ) (found : Bool) → length xs ≤ j → has_key k xs ≡ found || has_key k (drop j xs) → found ≡ has_key k xs
unfolding has_key
has_key_end k xs j found h e = sym (e ∙ rw (drop_of_length-le xs {i = j} h) (or-false found))
