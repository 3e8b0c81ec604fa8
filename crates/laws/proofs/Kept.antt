-- What a request leaves of an open transaction: its holder, its stale mark with the request's change, and whether it has recorded one.
use mathlib.Core.Path.{◌≡◌, refl, sym, ◌∙◌, ap}
use mathlib.Core.Bool.{Bool, true, false, not, ◌||◌, or-false, or-true, true≢false}
use mathlib.Core.Option.{Option, none, some}
use Prim.Native.Nat.{ℕ}
use lib.ListN.{set}
use Rattle.rules.specs.Entries.{is_empty, lowest, without}
use Rattle.rules.specs.Layout.{Transaction, Transactions}
use Rattle.rules.specs.World.{staled_if}
use Rattle.rules.proofs.Places.{nothing, some_is, At, set_cases, lowest_free_lem, at_without}
use Rattle.rules.proofs.OpenTransactions.{get_or-staled}

-- ── one request's effect on the open transactions ──

-- whether it changes the store, which copies it alters, and whether it may open a transaction
pub record Effect : Type 0 where
  pub changes : Bool
  pub alters : ℕ → Bool
  pub opens : Bool

abbrev pub quiet : Effect
quiet = record { changes = false; alters = λ k. false; opens = false }

-- the transaction has recorded a change
abbrev pub has_change : Transaction → Bool
has_change x = not (is_empty x.changes)

-- transaction k before and after: the same holder, stale if it was or the store changed, with a change if it had one or its copy was altered
pub record Continues (f : Effect) (k : ℕ) (x y : Transaction) : Type 0 where
  pub holder : y.holder ≡ x.holder
  pub stale : y.stale ≡ (x.stale || f.changes)
  pub change : has_change y ≡ (has_change x || f.alters k)

pub record Kept (f : Effect) (xs ys : Transactions) : Type 0 where
  pub at : (k : ℕ) (x y : Transaction) → At xs k x → At ys k y → Continues f k x y
  pub from : f.opens ≡ false → (k : ℕ) (y : Transaction) → At ys k y → (x : Transaction) × At xs k x

-- the same effect in other words; what opens none may be said to open one
pub kept_as : (f g : Effect) (xs ys : Transactions) → f.changes ≡ g.changes → ((k : ℕ) → f.alters k ≡ g.alters k) → (g.opens ≡ false → f.opens ≡ false)
    → Kept f xs ys → Kept g xs ys
kept_as f g xs ys p q r h =
    record {
      at = λ k x y e d.
          let s = h.at k x y e d in
          record { holder = s.holder; stale = s.stale ∙ ap (λ b. x.stale || b) p; change = s.change ∙ ap (λ b. has_change x || b) (q k) };
      from = λ o. h.from (r o);
    }

-- an entry that is after the request as it was before
same-entry : (k : ℕ) (x y : Transaction) → some x ≡ some y → Continues quiet k x y
same-entry k x y e =
    let s = sym (some_is e) in
    record { holder = ap Transaction.holder s; stale = ap Transaction.stale s ∙ sym (or-false _); change = ap has_change s ∙ sym (or-false _) }

pub kept-all : (xs : Transactions) → Kept quiet xs xs
kept-all xs = record { at = λ k x y p q. same-entry k x y (sym p ∙ q); from = λ o k y q. (y, q) }

pub kept-without : (test : Transaction → Bool) (xs : Transactions) → Kept quiet xs (without test xs)
kept-without test xs =
    record { at = λ k x y p q. same-entry k x y (sym p ∙ (at_without test xs k y q).0); from = λ o k y q. (y, (at_without test xs k y q).0) }

-- an entry closed, or one written over another or into a free place, by a request that alters no other copy
pub kept_set : (f : Effect) (xs : Transactions) (j : ℕ) (e : Option Transaction) → f.changes ≡ false → ((k : ℕ) → (k ≡ j → ⊥) → f.alters k ≡ false)
    → ((x y : Transaction) → At xs j x → e ≡ some y → Continues f j x y) → (f.opens ≡ false → (y : Transaction) → e ≡ some y → (x : Transaction) × At xs j x)
    → Kept f xs (set xs j e)
kept_set f xs j e c n h s =
    record {
      at = λ k x y p q. set_cases (Continues f k x y) xs j k e y q (λ r d. rw r (h x y (rw r at p) d)) (λ r d. other k x y r (same-entry k x y (sym p ∙ d)));
      from = λ o k y q. set_cases ((x : Transaction) × At xs k x) xs j k e y q (λ r d. rw r (s o y d)) (λ r d. (y, d));
    }
  where
    other : (k : ℕ) (x y : Transaction) → (k ≡ j → ⊥) → Continues quiet k x y → Continues f k x y
    other k x y r t = record { holder = t.holder; stale = rw c t.stale; change = rw (n k r) t.change }

pub kept-closed : (xs : Transactions) (j : ℕ) → Kept quiet xs (set xs j none)
kept-closed xs j = kept_set quiet xs j none refl (λ k r. refl) (λ x y p q. absurd (nothing q)) (λ o y q. absurd (nothing q))

abbrev pub opening : Effect
opening = record { changes = false; alters = λ k. false; opens = true }

pub kept-opened : (xs : Transactions) (z : Transaction) → Kept opening xs (set xs (lowest xs) (some z))
kept-opened xs z =
    kept_set opening xs (lowest xs) (some z) refl (λ k r. refl)
    (λ x y p q. absurd (nothing (sym (lowest_free_lem xs) ∙ p)))
    (λ o y q. absurd (true≢false o))

-- a change of the store, or none
abbrev pub changing : Bool → Effect
changing b = record { changes = b; alters = λ k. false; opens = false }

pub kept-staled_if : (b : Bool) (xs ys : Transactions) → Kept quiet xs ys → Kept (changing b) xs (staled_if b ys)
unfolding staled_if
kept-staled_if false xs ys h = h
kept-staled_if true xs ys h =
    record {
      at = λ k x y p q.
          let s = get_or-staled ys k y q in
          let t = h.at k x s.0 p s.1 in
          record { holder = s.2 ∙ t.holder; stale = s.3 ∙ sym (or-true x.stale); change = ap (λ cs. not (is_empty cs)) s.4 ∙ t.change };
      from = λ o k y q. let s = get_or-staled ys k y q in h.from o k s.0 s.1;
    }
