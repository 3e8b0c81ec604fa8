-- Good node tables, place by place; and in them each used slot's path leads back to it.
use mathlib.Core.Path.{◌≡◌, refl, sym, ◌∙◌, ap, subst}
use mathlib.Core.Bool.{Bool, true, false, cond, not, ◌&&◌, ◌||◌, false≢true, true≢false, and-eq-true_iff}
use mathlib.Core.List.{[], ◌∷◌}
use mathlib.Core.Option.{Option, none, some}
use Prim.Native.Nat.{ℕ, zero, suc, ◌+◌, ◌<◌}
use native.Mathlib.Omega.{arith}
use native.Mathlib.Nat.{add-zero, zero-add}
use lib.ListN.{length, get_or}
use lib.Dec.{eqb, eqb-suc-zero}
use borrow.Author.Tests.{eqb-true, eq-eqb}
use Rattle.rules.specs.Size.{deepest}
use Rattle.rules.specs.Octets.{same}
use Rattle.rules.specs.Entries.{has}
use Rattle.rules.specs.Path.{Name, Names, is_control, is_name}
use Rattle.rules.specs.Node.{Node, Table, node_at, is_child, child_from, child, reach_from, reach, path_up, path_of}
use Rattle.rules.specs.Sound.{good_entries, reaches_root, good_name, good_node, good_nodes, good_root, clash, distinct, good_table}
use Rattle.rules.proofs.Compare.{same_eq, eq_same}
use Rattle.rules.proofs.Places.{nothing, some_is, At, at_below, apart, related_one, one_related}
use Rattle.rules.proofs.Senders.{control-zero, zero-control}

-- a good table, place by place
pub record Good (t : Table) : Type 0 where
  pub root : Node
  pub used : At t 0 root
  pub nameless : root.name ≡ []
  pub own-parent : root.parent ≡ 0
  pub control : root.owner.domain ≡ 0
  pub named : (i : ℕ) (n : Node) → At t (suc i) n → is_name n.name ≡ true
  pub entries : (i : ℕ) (n : Node) → At t i n → good_entries (n.owner ∷ n.others) ≡ true
  pub reaches : (i : ℕ) (n : Node) → At t i n → reaches_root deepest t i ≡ true
  pub apart : (i j : ℕ) (n m : Node) → At t i n → At t j m → n.parent ≡ m.parent → n.name ≡ m.name → i ≡ j

-- ── from the test to the places ──

pub distinct_is : (t : Table) → distinct t ≡ apart clash t
unfolding distinct apart
distinct_is [] = refl
distinct_is (none ∷ t) = distinct_is t
distinct_is (some n ∷ t) = ap (λ (b : Bool). not (has (clash n) t) && b) (distinct_is t)

pub node_at_lem : (t : Table) (k : ℕ) (ss : Table) → good_nodes t k ss ≡ true → (i : ℕ) → i < length ss → good_node t (k + i) (get_or ss i none) ≡ true
unfolding good_nodes
node_at_lem t k [] h i l = absurd (omega arith)
node_at_lem t k (s ∷ ss) h zero l = rw add-zero ((and-eq-true_iff (good_node t k s) (good_nodes t (suc k) ss)).0 h).0
node_at_lem t k (s ∷ ss) h (suc i) l = rw (suc_shift k i) at (node_at_lem t (suc k) ss ((and-eq-true_iff (good_node t k s) (good_nodes t (suc k) ss)).0 h).1 i
    (omega arith))
  where
    suc_shift : (k i : ℕ) → suc k + i ≡ k + suc i
    suc_shift k i = omega arith

pub at_node : (t : Table) (k : ℕ) (ss : Table) → ((i : ℕ) → i < length ss → good_node t (k + i) (get_or ss i none) ≡ true) → good_nodes t k ss ≡ true
unfolding good_nodes
at_node t k [] h = refl
at_node t k (s ∷ ss) h =
    (and-eq-true_iff (good_node t k s) (good_nodes t (suc k) ss)).1
    (rw add-zero at (h 0 (omega arith)), at_node t (suc k) ss (λ i l. rw (suc_shift k i) (h (suc i) (omega arith))))
  where
    suc_shift : (k i : ℕ) → suc k + i ≡ k + suc i
    suc_shift k i = omega arith

pub node_at_is : (t : Table) (i : ℕ) (n : Node) → At t i n → node_at t i ≡ n
unfolding node_at
node_at_is t i n e = rw (e, node_at)

-- what is good about a used slot
record GoodAt (t : Table) (i : ℕ) (n : Node) : Type 0 where
  name : good_name i n.name ≡ true
  entries : good_entries (n.owner ∷ n.others) ≡ true
  reaches : reaches_root deepest t i ≡ true

good_at : (t : Table) → good_nodes t 0 t ≡ true → (i : ℕ) (n : Node) → At t i n → GoodAt t i n
unfolding good_node
good_at t h i n e =
    let x : good_node t i (some n) ≡ true = rw (zero-add i, e) at (node_at_lem t 0 t h i (at_below t i n e)) in
    let p = (and-eq-true_iff (good_name i n.name) (good_entries (n.owner ∷ n.others) && reaches_root deepest t i)).0 x in
    let q = (and-eq-true_iff (good_entries (n.owner ∷ n.others)) (reaches_root deepest t i)).0 p.1 in
    record { name = p.0; entries = q.0; reaches = q.1 }

clashing : (n m : Node) → n.parent ≡ m.parent → n.name ≡ m.name → clash n m ≡ true
unfolding clash
clashing n m e f = (and-eq-true_iff (eqb n.parent m.parent) (same n.name m.name)).1 (eq-eqb _ _ e, eq_same f)

clashed : (n m : Node) → clash n m ≡ true → (n.parent ≡ m.parent) × (n.name ≡ m.name)
unfolding clash
clashed n m c = let r = (and-eq-true_iff (eqb n.parent m.parent) (same n.name m.name)).0 c in (eqb-true _ _ r.0, same_eq _ _ r.1)

clash-sym : (n m : Node) → clash n m ≡ true → clash m n ≡ true
clash-sym n m c = let r = clashed n m c in clashing m n (sym r.0) (sym r.1)

-- siblings with one name are one slot
one_slot : (t : Table) → distinct t ≡ true → (i j : ℕ) (n m : Node) → At t i n → At t j m → n.parent ≡ m.parent → n.name ≡ m.name → i ≡ j
one_slot t h i j n m p q e f = related_one clash clash-sym t (sym (distinct_is t) ∙ h) i j n m p q (clashing n m e f)

pub good_of : (t : Table) → 0 < length t → good_table t ≡ true → Good t
unfolding good_table good_root good_name good_node
good_of t l h = go (get_or t 0 none) refl (rw (zero-add 0) at (node_at_lem t 0 t p.0 0 l))
  where
    p : (good_nodes t 0 t ≡ true) × ((good_root (node_at t 0) && distinct t) ≡ true)
    p = (and-eq-true_iff (good_nodes t 0 t) (good_root (node_at t 0) && distinct t)).0 h

    q : (good_root (node_at t 0) ≡ true) × (distinct t ≡ true)
    q = (and-eq-true_iff (good_root (node_at t 0)) (distinct t)).0 p.1

    go : (m : Option Node) → get_or t 0 none ≡ m → good_node t 0 m ≡ true → Good t
    go none e g = absurd (false≢true g)
    go (some r) e g =
        let x : good_root r ≡ true = rw (node_at_is t 0 r e) at q.0 in
        let y = (and-eq-true_iff (eqb r.parent 0) (is_control r.owner.domain)).0 x in
        record {
          root = r;
          used = e;
          nameless = same_eq _ _ (good_at t p.0 0 r e).name;
          own-parent = eqb-true _ _ y.0;
          control = control-zero _ y.1;
          named = λ i n a. (good_at t p.0 (suc i) n a).name;
          entries = λ i n a. (good_at t p.0 i n a).entries;
          reaches = λ i n a. (good_at t p.0 i n a).reaches;
          apart = one_slot t q.1;
        }

-- ── and back ──

pub of_good : (t : Table) → Good t → good_table t ≡ true
unfolding good_table good_root good_name good_node
of_good t g =
    (and-eq-true_iff (good_nodes t 0 t) (good_root (node_at t 0) && distinct t)).1 (
      at_node t 0 t (λ i l. rw zero-add (slot i (get_or t i none) refl)),
      (and-eq-true_iff (good_root (node_at t 0)) (distinct t)).1 (
        rooted,
        distinct_is t
            ∙ one_related clash t (λ i j n m p q c. let r = clashed n m c in g.apart i j n m p q r.0 r.1),
      ),
    )
  where
    name : (i : ℕ) (n : Node) → At t i n → good_name i n.name ≡ true
    name zero n e = eq_same (ap Node.name (some_is (sym e ∙ g.used)) ∙ g.nameless)
    name (suc i) n e = g.named i n e

    slot : (i : ℕ) (m : Option Node) → get_or t i none ≡ m → good_node t i m ≡ true
    slot zero none e = absurd (nothing (sym e ∙ g.used))
    slot (suc i) none e = rw eqb-suc-zero
    slot i (some n) e =
        (and-eq-true_iff (good_name i n.name) (good_entries (n.owner ∷ n.others) && reaches_root deepest t i)).1
        (name i n e, (and-eq-true_iff (good_entries (n.owner ∷ n.others)) (reaches_root deepest t i)).1 (g.entries i n e, g.reaches i n e))

    rooted : good_root (node_at t 0) ≡ true
    rooted = rw (node_at_is t 0 g.root g.used) ((and-eq-true_iff (eqb g.root.parent 0) (is_control g.root.owner.domain)).1
        (eq-eqb _ _ g.own-parent, zero-control _ g.control))

-- ── looking up a child ──

-- a child that is found is one, and where none is found there is none
pub record IsChild (t : Table) (p : ℕ) (name : Name) (j : ℕ) : Type 0 where
  pub node : Node
  pub used : At t j node
  pub parent : node.parent ≡ p
  pub named : node.name ≡ name

child_from_lem : (p : ℕ) (name : Name) (k : ℕ) (t : Table) (j : ℕ) → child_from p name k t ≡ some j → (i : ℕ) × (j ≡ k + i) × IsChild t p name i
unfolding child_from is_child
child_from_lem p name k [] j e = absurd (nothing e)
child_from_lem p name k (s ∷ t) j e = go s (is_child p name s) refl e (child_from_lem p name (suc k) t j)
  where
    go : (s : Option Node) (b : Bool) → is_child p name s ≡ b → cond b (some k) (child_from p name (suc k) t) ≡ some j
        → (child_from p name (suc k) t ≡ some j → (i : ℕ) × (j ≡ suc k + i) × IsChild t p name i) → (i : ℕ) × (j ≡ k + i) × IsChild (s ∷ t) p name i
    go s false h q f = let r = f q in (
      suc r.0,
      omega (arith, r.1),
      record { node = r.2.node; used = r.2.used; parent = r.2.parent; named = r.2.named },
    )
    go none true h q f = absurd (false≢true h)
    go (some n) true h q f =
        let r = (and-eq-true_iff (eqb n.parent p) (same n.name name)).0 h in
        (0, omega (arith, some_is q), record { node = n; used = refl; parent = eqb-true _ _ r.0; named = same_eq _ _ r.1 })

pub child-some : (t : Table) (p : ℕ) (name : Name) (j : ℕ) → child t p name ≡ some j → IsChild t p name j
unfolding child
child-some t p name j e =
    let r = child_from_lem p name 0 t j e in
    subst (IsChild t p name) (sym (r.1 ∙ zero-add r.0)) r.2

child_no : (p : ℕ) (name : Name) (k : ℕ) (t : Table) → child_from p name k t ≡ none → (i : ℕ) (n : Node) → At t i n → n.parent ≡ p → n.name ≡ name → ⊥
unfolding child_from is_child
child_no p name k [] e i n a x y = nothing a
child_no p name k (s ∷ t) e zero n a x y = go (is_child p name s) refl e
  where
    go : (b : Bool) → is_child p name s ≡ b → cond b (some k) (child_from p name (suc k) t) ≡ none → ⊥
    go true h q = nothing (sym q)
    go false h q = true≢false (sym ((and-eq-true_iff (eqb n.parent p) (same n.name name)).1 (eq-eqb _ _ x, eq_same y)) ∙ (ap (is_child p name) (sym a) ∙ h))
child_no p name k (s ∷ t) e (suc i) n a x y = go (is_child p name s) e (λ q. child_no p name (suc k) t q i n a x y)
  where
    go : (b : Bool) → cond b (some k) (child_from p name (suc k) t) ≡ none → (child_from p name (suc k) t ≡ none → ⊥) → ⊥
    go true q f = nothing (sym q)
    go false q f = f q

pub child-none : (t : Table) (p : ℕ) (name : Name) → child t p name ≡ none → (i : ℕ) (n : Node) → At t i n → n.parent ≡ p → n.name ≡ name → ⊥
unfolding child
child-none t p name e = child_no p name 0 t e

-- ── paths ──

module _ (t : Table) (g : Good t) where
  -- a used slot is found below its parent by its name
  pub child_back : (i : ℕ) (n : Node) → At t i n → child t n.parent n.name ≡ some i
  child_back i n e = go (child t n.parent n.name) refl
    where
      go : (m : Option ℕ) → child t n.parent n.name ≡ m → m ≡ some i
      go none h = absurd (child-none t n.parent n.name h i n e refl refl)
      go (some j) h =
          let c = child-some t n.parent n.name j h in
          ap some (g.apart j i c.node n c.used e c.parent c.named)

  -- a path that goes up k levels leads down again
  up_and_down : (k i : ℕ) (ns : Names) → reaches_root k t i ≡ true → reach_from (path_up k t i ns) t 0 ≡ reach_from ns t i
  unfolding reaches_root path_up reach_from
  up_and_down zero i ns h = ap (reach_from ns t) (sym (eqb-true i 0 h))
  up_and_down (suc k) i ns h = go (eqb i 0) refl h (up_and_down k)
    where
      node : (m : Option Node) → get_or t i none ≡ m → (elim m [ none ↦ false | some n ↦ reaches_root k t n.parent ]) ≡ true
          → ((p : ℕ) (ms : Names) → reaches_root k t p ≡ true → reach_from (path_up k t p ms) t 0 ≡ reach_from ms t p)
          → reach_from (path_up k t (node_at t i).parent ((node_at t i).name ∷ ns)) t 0 ≡ reach_from ns t i
      node none e h f = absurd (false≢true h)
      node (some n) e h f = rw (node_at_is t i n e) (f n.parent (n.name ∷ ns) h ∙ rw (child_back i n e, reach_from))

      go : (b : Bool) → eqb i 0 ≡ b → (b || elim (get_or t i none) [ none ↦ false | some n ↦ reaches_root k t n.parent ]) ≡ true
          → ((p : ℕ) (ms : Names) → reaches_root k t p ≡ true → reach_from (path_up k t p ms) t 0 ≡ reach_from ms t p)
          → reach_from (cond b ns (path_up k t (node_at t i).parent ((node_at t i).name ∷ ns))) t 0 ≡ reach_from ns t i
      go true e q f = ap (reach_from ns t) (sym (eqb-true i 0 e))
      go false e q f = node (get_or t i none) refl q f

  -- the path of a used slot leads to it
  pub path_back : (i : ℕ) (n : Node) → At t i n → reach t (path_of t i) ≡ record { slot = i; left = [] }
  unfolding reach path_of reach_from
  path_back i n e = up_and_down deepest i [] (g.reaches i n e)
