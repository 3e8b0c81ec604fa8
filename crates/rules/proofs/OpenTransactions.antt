-- Open transactions: what becoming stale leaves of them, and the one that a request names.
use mathlib.Core.Path.{◌≡◌, refl, sym, ◌∙◌, ap}
use mathlib.Core.Bool.{Bool, true, false, cond}
use mathlib.Core.List.{List, [], ◌∷◌, map}
use mathlib.Core.Option.{Option, none, some}
use Prim.Native.Nat.{ℕ, zero, suc, ◌-◌}
use native.Mathlib.Numerals.{sub-one}
use lib.ListN.{length, get_or}
use lib.Dec.{eqb}
use borrow.Author.Tests.{eqb-true}
use Rattle.rules.specs.Entries.{is_empty}
use Rattle.rules.specs.Domain.{Connection}
use Rattle.rules.specs.Layout.{Transaction, Transactions}
use Rattle.rules.specs.World.{World, staled, staled_if, transaction_of}
use Rattle.rules.proofs.Places.{nothing, some_is, At}

-- ── stale ──

-- an entry that is stale after `staled` was there
pub get_or-staled : (xs : Transactions) (k : ℕ) (y : Transaction) → At (staled xs) k y
    → (x : Transaction) × At xs k x × (y.holder ≡ x.holder) × (y.stale ≡ true) × (y.changes ≡ x.changes)
unfolding staled
get_or-staled [] k y e = absurd (nothing e)
get_or-staled (none ∷ xs) zero y e = absurd (nothing e)
get_or-staled (none ∷ xs) (suc k) y e = get_or-staled xs k y e
get_or-staled (some x ∷ xs) zero y e = (
  x,
  refl,
  ap Transaction.holder (sym (some_is e)),
  ap Transaction.stale (sym (some_is e)),
  ap Transaction.changes (sym (some_is e)),
)
get_or-staled (some x ∷ xs) (suc k) y e = get_or-staled xs k y e

length-staled : (xs : Transactions) → length (staled xs) ≡ length xs
unfolding staled
length-staled [] = refl
length-staled (none ∷ xs) = ap suc (length-staled xs)
length-staled (some x ∷ xs) = ap suc (length-staled xs)

pub length-staled_if : (b : Bool) (xs : Transactions) → length (staled_if b xs) ≡ length xs
unfolding staled_if
length-staled_if false xs = refl
length-staled_if true xs = length-staled xs

-- a list has as many as it is mapped to: none, or some
pub empty_mapped : {A B : Type 0} (f : A → B) (xs : List A) → is_empty (map f xs) ≡ is_empty xs
unfolding is_empty
empty_mapped f [] = refl
empty_mapped f (x ∷ xs) = refl

-- ── the transaction that a request names ──

pub named : (w : World) (tx : ℕ) (c : Connection) (x : Transaction) → transaction_of w c tx ≡ some x →
    (get_or w.transactions (tx - 1) none ≡ some x) × (c ≡ x.holder)
unfolding transaction_of
named w zero c x e = absurd (nothing e)
named w (suc k) c x e = rw sub-one (go (get_or w.transactions k none) e)
  where
    held : (b : Bool) (y : Transaction) → eqb c y.holder ≡ b → cond b (some y) none ≡ some x → (some y ≡ some x) × (c ≡ x.holder)
    held true y p q = (q, eqb-true _ _ p ∙ ap Transaction.holder (some_is q))
    held false y p q = absurd (nothing q)

    go : (m : Option Transaction) → (elim m [ none ↦ none | some y ↦ cond (eqb c y.holder) (some y) none ]) ≡ some x → (m ≡ some x) × (c ≡ x.holder)
    go none q = absurd (nothing q)
    go (some y) q = held (eqb c y.holder) y refl q
