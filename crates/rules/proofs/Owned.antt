-- The topmost nodes that a domain owns: each is used, the domain's and not the root, none comes twice, and so they are fewer than the slots.
use mathlib.Core.Path.{◌≡◌, refl, sym, ap, ◌∙◌, subst}
use mathlib.Core.Bool.{true, cond, not, ◌&&◌, and-eq-true_iff, true≢false}
use mathlib.Core.List.{List, [], ◌∷◌, ◌++◌, flat_map}
use mathlib.Core.Option.{Option, none, some}
use Prim.Native.Nat.{ℕ, zero, suc, ◌+◌, ◌≤◌, ◌<◌}
use native.Mathlib.Nat.{zero-add, add-zero, add-suc, suc-add, not-suc-le-zero}
use native.Mathlib.Omega.{arith}
use lib.ListN.{length, get_or}
use lib.Dec.{eqb}
use borrow.Author.Tests.{eqb-true, eqb-false, eq-eqb, ne_eqb}
use Rattle.rules.specs.Size.{deepest}
use Rattle.rules.specs.Octets.{less}
use Rattle.rules.specs.Path.{Domain}
use Rattle.rules.specs.Node.{Node, Table, node_at, insert, has_parent, children_from, children, owned_below, owned_by}
use Rattle.rules.proofs.Cases.{cond_case, cond-known}
use Rattle.rules.proofs.Tables.{Each, each_map, each_append}
use Rattle.rules.proofs.Places.{some_is, At, at_below}
use Rattle.rules.proofs.GoodTables.{Good, node_at_is}

-- ── lists whose entries differ ──

abbrev Differ : ℕ → ℕ → Type 0
Differ i j = i ≡ j → ⊥

abbrev pub Distinct : List ℕ → Type 0
Distinct [] = Unit {0}
Distinct (i ∷ is) = Each (Differ i) is × Distinct is

each_both : (P Q : ℕ → Type 0) (xs : List ℕ) → Each P xs → Each Q xs → Each (λ (x : ℕ). P x × Q x) xs
each_both P Q [] p q = tt
each_both P Q (x ∷ xs) p q = ((p.0, q.0), each_both P Q xs p.1 q.1)

each_flat : (P : ℕ → Type 0) (f : ℕ → List ℕ) (is : List ℕ) → Each (λ (i : ℕ). Each P (f i)) is → Each P (flat_map f is)
unfolding flat_map
each_flat P f [] e = tt
each_flat P f (i ∷ is) e = each_append P (f i) (flat_map f is) e.0 (each_flat P f is e.1)

distinct_append : (xs ys : List ℕ) → Distinct xs → Distinct ys → Each (λ (x : ℕ). Each (Differ x) ys) xs → Distinct (xs ++ ys)
distinct_append [] ys p q e = q
distinct_append (x ∷ xs) ys p q e = (each_append (Differ x) xs ys p.0 e.0, distinct_append xs ys p.1 q e.1)

-- lists whose entries tell which list they come from
distinct_flat : (R : ℕ → ℕ → Type 0) → ((i j x : ℕ) → R i x → R j x → i ≡ j) → (f : ℕ → List ℕ) (is : List ℕ) → Distinct is
    → Each (λ (i : ℕ). Distinct (f i)) is → Each (λ (i : ℕ). Each (R i) (f i)) is → Distinct (flat_map f is)
unfolding flat_map
distinct_flat R one f [] d e r = tt
distinct_flat R one f (i ∷ is) d e r = distinct_append (f i) (flat_map f is) e.0 (distinct_flat R one f is d.1 e.1 r.1)
    (each_map (R i) _ told (f i) r.0)
  where
    told : (x : ℕ) → R i x → Each (Differ x) (flat_map f is)
    told x p = each_flat (Differ x) f is
        (each_map (λ (j : ℕ). Differ i j × Each (R j) (f j)) (λ (j : ℕ). Each (Differ x) (f j))
        (λ j q. each_map (R j) (Differ x) (λ y v e. q.0 (one i j y (subst (R i) e p) v)) (f j) q.1) is
        (each_both (Differ i) (λ (j : ℕ). Each (R j) (f j)) is d.0 r.1))

-- the numbers of a list but n
but : ℕ → List ℕ → List ℕ
but n [] = []
but n (i ∷ is) = cond (eqb n i) (but n is) (i ∷ but n is)

each_but : (P Q : ℕ → Type 0) (n : ℕ) → ((i : ℕ) → Differ n i → P i → Q i) → (is : List ℕ) → Each P is → Each Q (but n is)
unfolding but
each_but P Q n f [] e = tt
each_but P Q n f (i ∷ is) e = cond-known (Each Q) (eqb n i) _ _ (λ h. each_but P Q n f is e.1)
    (λ h. (f i (eqb-false n i h) e.0, each_but P Q n f is e.1))

distinct_but : (n : ℕ) (is : List ℕ) → Distinct is → Distinct (but n is)
unfolding but
distinct_but n [] d = tt
distinct_but n (i ∷ is) d = cond_case Distinct (eqb n i) _ _ (distinct_but n is d.1)
    (each_but (Differ i) (Differ i) n (λ j z h. h) is d.0, distinct_but n is d.1)

but_none : (n : ℕ) (is : List ℕ) → Each (Differ n) is → length is ≤ length (but n is)
unfolding but
but_none n [] e = omega arith
but_none n (i ∷ is) e = rw (ne_eqb n i e.0) (omega (arith, but_none n is e.1))

but_one : (n : ℕ) (is : List ℕ) → Distinct is → length is ≤ suc (length (but n is))
unfolding but
but_one n [] d = omega arith
but_one n (i ∷ is) d =
    cond-known (λ (l : List ℕ). length (i ∷ is) ≤ suc (length l)) (eqb n i) _ _
    (λ h. let e : i ≡ n = sym (eqb-true n i h) in omega (arith, but_none n is (subst (λ (x : ℕ). Each (Differ x) is) e d.0)))
    (λ h. omega (arith, but_one n is d.1))

-- numbers below n that differ are at most n
pub few-distinct : (n : ℕ) (is : List ℕ) → Distinct is → Each (λ (i : ℕ). i < n) is → length is ≤ n
few-distinct zero [] d e = omega arith
few-distinct zero (i ∷ is) d e = absurd (not-suc-le-zero e.0)
few-distinct (suc n) is d e =
    omega (
      arith,
      but_one n is d,
      few-distinct n (but n is) (distinct_but n is d)
          (each_but (λ (i : ℕ). i < suc n) (λ (i : ℕ). i < n) n (λ i z h. low i z h) is e),
    )
  where
    low : (i : ℕ) → Differ n i → i < suc n → i < n
    low i z h = omega (arith, z)

-- ── levels ──

-- slot j stands m levels below the root
abbrev Level : Table → ℕ → ℕ → Type 0
Level t zero j = j ≡ 0
Level t (suc m) j = (j ≡ 0 → ⊥) × (n : Node) × At t j n × Level t m n.parent

level_one : (t : Table) (m k j : ℕ) → Level t m j → Level t k j → m ≡ k
level_one t zero zero j p q = refl
level_one t zero (suc k) j p q = absurd (q.0 p)
level_one t (suc m) zero j p q = absurd (p.0 q)
level_one t (suc m) (suc k) j p q = ap suc (level_one t m k p.1.parent p.3
    (subst (λ (n : Node). Level t k n.parent) (some_is (sym q.2 ∙ p.2)) q.3))

-- the slot q levels above slot j
up : Table → ℕ → ℕ → ℕ
up t zero j = j
up t (suc q) j = (node_at t (up t q j)).parent

-- slot j stands below slot i, which stands m levels below the root
record Under (t : Table) (m i j : ℕ) : Type 0 where
  by : ℕ
  level : Level t (by + m) j
  above : up t by j ≡ i

under_one : (t : Table) (m i k j : ℕ) → Under t m i j → Under t m k j → i ≡ k
under_one t m i k j p q =
    let e : p.by ≡ q.by = omega (arith, level_one t (p.by + m) (q.by + m) j p.level q.level) in
    sym p.above ∙ ap (λ (b : ℕ). up t b j) e ∙ q.above

-- ── children ──

-- slot j is a child of slot p
abbrev pub Child : Table → ℕ → ℕ → Type 0
Child t p j = (j ≡ 0 → ⊥) × (n : Node) × At t j n × (n.parent ≡ p)

each_insert : (P : ℕ → Type 0) (t : Table) (j : ℕ) (ks : List ℕ) → P j → Each P ks → Each P (insert t j ks)
unfolding insert
each_insert P t j [] h e = (h, tt)
each_insert P t j (k ∷ ks) h e = cond_case (Each P) (less (node_at t j).name (node_at t k).name) _ _ (h, e) (e.0, each_insert P t j ks h e.1)

distinct-insert : (t : Table) (j : ℕ) (ks : List ℕ) → Each (Differ j) ks → Distinct ks → Distinct (insert t j ks)
unfolding insert
distinct-insert t j [] e d = (tt, tt)
distinct-insert t j (k ∷ ks) e d =
    cond_case Distinct (less (node_at t j).name (node_at t k).name) _ _ (e, d)
    (each_insert (Differ k) t j ks (λ h. e.0 (sym h)) d.0, distinct-insert t j ks e.1 d.1)

has-parent : (p : ℕ) (x : Option Node) → has_parent p x ≡ true → (n : Node) × (x ≡ some n) × (n.parent ≡ p)
unfolding has_parent
has-parent p none h = absurd (true≢false (sym h))
has-parent p (some n) h = (n, refl, eqb-true n.parent p h)

module _ (t : Table) (p : ℕ) where
  -- those found from slot i on
  abbrev Found : ℕ → ℕ → Type 0
  Found i j = (i ≤ j) × Child t p j

  module _ (i : ℕ) (s : Option Node) (ss : Table) (f : (j : ℕ) → get_or (s ∷ ss) j none ≡ get_or t (i + j) none)
      (rest : Each (Found (suc i)) (children_from t p (suc i) ss) × Distinct (children_from t p (suc i) ss)) where
    earlier : Each (Found i) (children_from t p (suc i) ss)
    earlier = each_map (Found (suc i)) (Found i) (λ j h. (omega (arith, h.0), h.1)) (children_from t p (suc i) ss) rest.0

    found_here : (has_parent p s && not (eqb i 0)) ≡ true → Each (Found i) (insert t i (children_from t p (suc i) ss))
        × Distinct (insert t i (children_from t p (suc i) ss))
    found_here h =
        let b = (and-eq-true_iff (has_parent p s) (not (eqb i 0))).0 h in
        let n = has-parent p s b.0 in
        let z : i ≡ 0 → ⊥ = λ e. true≢false (sym b.1 ∙ ap not (eq-eqb i 0 e)) in
        let a : At t i n.0 = ap (λ (k : ℕ). get_or t k none) (sym (add-zero i)) ∙ sym (f 0) ∙ n.1 in (
          each_insert (Found i) t i (children_from t p (suc i) ss) (omega arith, (z, n.0, a, n.2)) earlier,
          distinct-insert t i (children_from t p (suc i) ss) (each_map (Found (suc i)) (Differ i) (λ j q e. absurd (omega (arith, q.0, e)))
              (children_from t p (suc i) ss) rest.0) rest.1,
        )

    found_more : Each (Found i) (children_from t p i (s ∷ ss)) × Distinct (children_from t p i (s ∷ ss))
    unfolding children_from
    found_more = cond-known (λ (l : List ℕ). Each (Found i) l × Distinct l) (has_parent p s && not (eqb i 0)) _ _ found_here (λ h. (earlier, rest.1))

  found_from : (i : ℕ) (ss : Table) → ((j : ℕ) → get_or ss j none ≡ get_or t (i + j) none) →
      Each (Found i) (children_from t p i ss) × Distinct (children_from t p i ss)
  unfolding children_from
  found_from i [] f = (tt, tt)
  found_from i (s ∷ ss) f = found_more i s ss f (found_from (suc i) ss (λ j. f (suc j) ∙ ap (λ (k : ℕ). get_or t k none) (add-suc i j ∙ sym (suc-add i j))))

  found : Each (Found 0) (children t p) × Distinct (children t p)
  unfolding children
  found = found_from 0 t (λ j. ap (λ (k : ℕ). get_or t k none) (sym (zero-add j)))

  pub children_are : Each (Child t p) (children t p)
  children_are = each_map (Found 0) (Child t p) (λ j h. h.1) (children t p) found.0

  pub children-distinct : Distinct (children t p)
  children-distinct = found.1

-- ── the walk ──

-- slot j is one that the walk from slot i lists
abbrev Lists : Table → Domain → ℕ → ℕ → ℕ → Type 0
Lists t d m i j = Under t m i j × ((node_at t j).owner.domain ≡ d)

module _ (t : Table) (d : Domain) where
  -- what is listed below a child is listed below its parent
  higher : (m i c : ℕ) → Child t i c → (j : ℕ) → Lists t d (suc m) c j → Lists t d m i j
  unfolding up
  higher m i c s j q = (
    record {
      by = suc q.0.by;
      level = subst (λ (x : ℕ). Level t x j) (add-suc q.0.by m ∙ sym (suc-add q.0.by m)) q.0.level;
      above = ap (λ (x : ℕ). (node_at t x).parent) q.0.above ∙ ap (λ (x : Node). x.parent) (node_at_is t c s.1 s.2) ∙ s.3;
    },
    q.1,
  )

  abbrev Walked : ℕ → ℕ → List ℕ → Type 0
  Walked m i is = Each (Lists t d m i) is × Distinct is

  walk_on : (m i : ℕ) (f : ℕ → List ℕ) → ((c : ℕ) → Child t i c → Walked (suc m) c (f c)) → Walked m i (flat_map f (children t i))
  walk_on m i f below = (
    each_flat (Lists t d m i) f (children t i) (each_map (Child t i) _
        (λ c s. each_map (Lists t d (suc m) c) (Lists t d m i) (higher m i c s) (f c) (below c s).0) (children t i) (children_are t i)),
    distinct_flat (Lists t d (suc m)) (λ a b x p q. under_one t (suc m) a b x p.0 q.0) f (children t i) (children-distinct t i)
        (each_map (Child t i) _ (λ c s. (below c s).1) (children t i) (children_are t i))
        (each_map (Child t i) _ (λ c s. (below c s).0) (children t i) (children_are t i)),
  )

  walked : (k m i : ℕ) → Level t m i → Walked m i (owned_below k t d i)
  unfolding owned_below up
  walked zero m i l = (tt, tt)
  walked (suc k) m i l =
      cond-known (Walked m i) (eqb (node_at t i).owner.domain d) _ _
      (λ h. (((record { by = 0; level = rw (zero-add m) l; above = refl }, eqb-true _ d h), tt), (tt, tt)))
      (λ h. walk_on m i (owned_below k t d) (λ c s. walked k (suc m) c (s.0, s.1, s.2, rw s.3 l)))

-- a used slot that is domain d's, and not the root
pub record OwnedSlot (t : Table) (d : Domain) (j : ℕ) : Type 0 where
  pub node : Node
  pub used : At t j node
  pub owner : node.owner.domain ≡ d
  pub not_root : j ≡ 0 → ⊥

module _ (t : Table) (g : Good t) (d : Domain) (positive : 1 ≤ d) where
  slot_of : (j : ℕ) → Lists t d 0 0 j → OwnedSlot t d j
  slot_of j q = go (q.0.by + 0) q.0.level
    where
      other : j ≡ 0 → ⊥
      other e =
          let o : (node_at t j).owner.domain ≡ 0 = ap (λ (x : ℕ). (node_at t x).owner.domain) e
          ∙ ap (λ (n : Node). n.owner.domain) (node_at_is t 0 g.root g.used) ∙ g.control in
          omega (arith, q.1)

      go : (m : ℕ) → Level t m j → OwnedSlot t d j
      go zero e = absurd (other e)
      go (suc m) l = record {
        node = l.1;
        used = l.2;
        owner = ap (λ (n : Node). n.owner.domain) (sym (node_at_is t j l.1 l.2))
            ∙ q.1;
        not_root = other;
      }

  -- each is used, the domain's and not the root
  pub owned_slots : Each (OwnedSlot t d) (owned_by t d)
  unfolding owned_by
  owned_slots = each_map (Lists t d 0 0) (OwnedSlot t d) slot_of (owned_below (suc deepest) t d 0) (walked t d (suc deepest) 0 0 refl).0

  -- none comes twice
  pub owned_distinct : Distinct (owned_by t d)
  unfolding owned_by
  owned_distinct = (walked t d (suc deepest) 0 0 refl).1

  -- with the root they are at most as many as the slots
  pub owned_few : length (owned_by t d) < length t
  owned_few =
      few-distinct (length t) (0 ∷ owned_by t d) (each_map (OwnedSlot t d) (Differ 0) (λ j s e. s.not_root (sym e)) (owned_by t d) owned_slots, owned_distinct)
      (at_below t 0 g.root g.used, each_map (OwnedSlot t d) (λ (i : ℕ). i < length t) (λ j s. at_below t j s.node s.used) (owned_by t d) owned_slots)
