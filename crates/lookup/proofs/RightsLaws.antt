-- Rights, entry by entry.
use mathlib.Core.Path.{◌≡◌, refl, sym, ap, ◌∙◌}
use mathlib.Core.Bool.{true, false}
use mathlib.Core.Option.{some}
use mathlib.Core.List.{List, ◌∷◌}
use Prim.Native.Nat.{ℕ, zero, suc, ◌+◌, ◌-◌, ◌≤◌, ◌<◌}
use native.Mathlib.Numerals.{add-one, sub-one}
use native.Mathlib.Omega.{arith}
use lib.ListN.{length, get_or, drop, drop_of_length-le}
use lib.Seq.{drop-cons}
use borrow.Author.Tests.{eq-eqb, ne_eqb}
use Rattle.rules.specs.Octets.{Octets}
use Rattle.rules.specs.Domain.{Domain, is_control}
use Rattle.rules.specs.Node.{Entry, Node, node_at}
use Rattle.rules.specs.Rights.{access_of, named, control, owner, entry, default}
use Rattle.rules.specs.Layout.{table_of}
use Rattle.rules.proofs.Fitting.{node_at-fits, decoded_fits}
use Rattle.slots.specs.Slot.{slot_at, entry_count, entry_of}
use Rattle.slots.proofs.Reading.{node-some}
use Rattle.slots.proofs.Canonical.{sound_canonical, used-some, entry-count_is, entry_is}
use Rattle.lookup.specs.Rights.{Asked}

-- the entries from place k on, the owner's being place 0
abbrev pub from : ℕ → List Entry → List Entry
from k es = drop (k - 1) es

module _ (d : Domain) (f : ℕ) (es : List Entry) (k : ℕ) (h : 1 ≤ k) where
  split : (x : Entry) → k ≤ length es → from k es ≡ get_or es (k - 1) x ∷ from (k + 1) es
  split x b =
      let e : suc (k - 1) ≡ k + 1 - 1 = omega arith in
      drop-cons es (k - 1) x (omega arith) ∙ ap (λ (j : ℕ). get_or es (k - 1) x ∷ drop j es) e

  pub named_here : (x : Entry) → k ≤ length es → (get_or es (k - 1) x).domain ≡ d →
      named d f k (from k es) ≡ record { access = (get_or es (k - 1) x).access; ground = entry k }
  unfolding named
  named_here x b e = rw (split x b, eq-eqb (get_or es (k - 1) x).domain d e)

  pub named-later : (x : Entry) → k ≤ length es → ((get_or es (k - 1) x).domain ≡ d → ⊥) → named d f k (from k es) ≡ named d f (k + 1) (from (k + 1) es)
  unfolding named
  named-later x b e = rw (split x b, ne_eqb (get_or es (k - 1) x).domain d e, add-one k)

  pub named_none : length es < k → named d f k (from k es) ≡ record { access = f; ground = default }
  unfolding named
  named_none b = rw (drop_of_length-le es {i = k - 1} (omega arith))

-- ── the entries of a used slot ──

module _ (t : Octets) (i : ℕ) (a : Asked t i) where
  node : (n : Node) × (slot_at t i ≡ some n)
  node = used-some (slot_at t i) a.used

  is : node_at (table_of t) i ≡ node.0
  is = node-some (table_of t) i node.0 node.1

  pub count_is : entry_count t i ≡ suc (length (node_at (table_of t) i).others)
  count_is = rw is (entry-count_is t (sound_canonical t a.sound) i a.below node.0 node.1)

  pub owner_is : entry_of t i 0 ≡ (node_at (table_of t) i).owner
  owner_is = rw is (entry_is t i a.below node.0 node.1 0 node.0.owner (omega arith))

  pub other_is : (k : ℕ) (x : Entry) → 1 ≤ k → k ≤ length (node_at (table_of t) i).others → entry_of t i k ≡ get_or (node_at (table_of t) i).others (k - 1) x
  other_is zero x h b = absurd (omega arith)
  other_is (suc k) x h b =
      let b' : suc k ≤ length node.0.others = rw is at b in
      entry_is t i a.below node.0 node.1 (suc k) x (omega arith) ∙ sym (rw (is, sub-one) refl)

  pub few : length (node_at (table_of t) i).others ≤ 3
  few = (node_at-fits (table_of t) i (decoded_fits t).all).few

  module _ (d : Domain) (f k : ℕ) (h : 1 ≤ k) (b : k ≤ length (node_at (table_of t) i).others) where
    -- entry k names the domain, or not
    pub named_by : (access domain : ℕ) → access ≡ (entry_of t i k).access → domain ≡ (entry_of t i k).domain → domain ≡ d →
        named d f k (from k (node_at (table_of t) i).others) ≡ record { access = access; ground = entry k }
    named_by access domain ea ed e =
        let is = other_is k (entry_of t i k) h b in
        named_here d f (node_at (table_of t) i).others k h (entry_of t i k) b (ap (λ (x : Entry). x.domain) (sym is) ∙ sym ed ∙ e)
        ∙ ap (λ (n : ℕ). record { access = n; ground = entry k }) (ap (λ (x : Entry). x.access) (sym is) ∙ sym ea)

    pub not_named_by : (domain : ℕ) → domain ≡ (entry_of t i k).domain → (domain ≡ d → ⊥) →
        named d f k (from k (node_at (table_of t) i).others) ≡ named d f (k + 1) (from (k + 1) (node_at (table_of t) i).others)
    not_named_by domain ed e =
        let is = other_is k (entry_of t i k) h b in
        named-later d f (node_at (table_of t) i).others k h (entry_of t i k) b (λ q. e (ed ∙ ap (λ (x : Entry). x.domain) is ∙ q))

-- ── whose access it is ──

module _ (d : Domain) (n : Node) where
  pub by_control : is_control d ≡ true → access_of d n ≡ record { access = 3; ground = control }
  unfolding access_of
  by_control e = rw e

  pub by_owner : is_control d ≡ false → d ≡ n.owner.domain → access_of d n ≡ record { access = 3; ground = owner }
  unfolding access_of
  by_owner z e = rw (z, eq-eqb d n.owner.domain e)

  pub by_others : is_control d ≡ false → (d ≡ n.owner.domain → ⊥) → access_of d n ≡ named d n.owner.access 1 n.others
  unfolding access_of
  by_others z e = rw (z, ne_eqb d n.owner.domain e)
