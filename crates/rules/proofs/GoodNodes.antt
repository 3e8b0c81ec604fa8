-- A good table stays good: written, made and removed nodes.
use mathlib.Core.Path.{◌≡◌, refl, sym, ◌∙◌, ap}
use mathlib.Core.Bool.{Bool, true, false, cond, not, ◌&&◌, ◌||◌, true≢false, and-eq-true_iff, or-false}
use mathlib.Core.List.{List, [], ◌∷◌}
use mathlib.Core.Option.{none, some}
use Prim.Native.Nat.{ℕ, zero, suc, ◌+◌, ◌-◌, ◌<◌, ◌≤◌}
use native.Mathlib.Omega.{arith}
use native.Mathlib.Nat.{add-zero, zero-add, suc-add, add-suc}
use native.Mathlib.Decide.{ℕ_discrete}
use lib.ListN.{length, get_or, set}
use lib.Seq.{get_or-set_same, get_or-set_other}
use lib.Dec.{eqb, leb}
use borrow.Author.Tests.{eq-eqb, ne_eqb, le-leb}
use Rattle.rules.specs.Size.{deepest, last_domain}
use Rattle.rules.specs.Octets.{Octets}
use Rattle.rules.specs.Entries.{lowest, free_count}
use Rattle.rules.specs.Path.{Domain, Name, Names, is_control, is_name, all_names}
use Rattle.rules.specs.Node.{Entry, Node, Table, node_at, heir, new_node, last_value, made, within, cleared_from, removed, without_all}
use Rattle.rules.specs.Sound.{good_entries, reaches_root}
use Rattle.rules.proofs.Cases.{cond_case}
use Rattle.rules.proofs.Places.{nothing, some_is, At, at_below, set_cases, lowest_free_lem}
use Rattle.rules.proofs.Tables.{Each}
use Rattle.rules.proofs.Fitting.{lowest-below, free_fewer}
use Rattle.rules.proofs.GoodTables.{Good, node_at_is}
use Rattle.rules.proofs.RootWays.{node_reaches, root_reaches, reaches_cases, reaches_zero, reaches_up, reaches_kept, parent-used}

-- ── a node written over another ──

-- slot i with other contents: its parent and name stay, and the root stays domain 0's
pub rewritten : (t : Table) (i : ℕ) (n m : Node) → Good t → At t i n → m.parent ≡ n.parent → m.name ≡ n.name → good_entries (m.owner ∷ m.others) ≡ true
    → (i ≡ 0 → m.owner.domain ≡ 0) → Good (set t i (some m))
rewritten t i n m g e hp hn he hr =
    record {
      root = (top (ℕ_discrete 0 i)).0;
      used = (top (ℕ_discrete 0 i)).1;
      nameless = (top (ℕ_discrete 0 i)).2;
      own-parent = (top (ℕ_discrete 0 i)).3;
      control = (top (ℕ_discrete 0 i)).4;
      named = λ j x q. set_cases (is_name x.name ≡ true) t i (suc j) (some m) x q (λ r p. named j x r p) (λ r p. g.named j x p);
      entries = λ j x q. set_cases (good_entries (x.owner ∷ x.others) ≡ true) t i j (some m) x q (λ r p. rw (← some_is p) he) (λ r p. g.entries j x p);
      reaches = λ j x q. reaches_kept deepest t u j keep (let w = was j x q in g.reaches j w.0 w.1);
      apart = λ j k x y p q a b. let v = was j x p in let w = was k y q in g.apart j k v.0 w.0 v.1 w.1 (sym v.2 ∙ (a ∙ w.2))
          (sym v.3 ∙ (b ∙ w.3));
    }
  where
    u : Table
    u = set t i (some m)

    same-slot : At u i m
    same-slot = get_or-set_same t i (some m) none (at_below t i n e)

    -- each slot of the new table was in the old one, with its parent and name
    was : (j : ℕ) (x : Node) → At u j x → (y : Node) × At t j y × (x.parent ≡ y.parent) × (x.name ≡ y.name)
    was j x q =
        set_cases ((y : Node) × At t j y × (x.parent ≡ y.parent) × (x.name ≡ y.name)) t i j (some m) x q
        (λ r p. (n, rw r e, ap Node.parent (sym (some_is p)) ∙ hp, ap Node.name (sym (some_is p)) ∙ hn))
        (λ r p. (x, p, refl, refl))

    keep : (j : ℕ) (x : Node) → At t j x → (y : Node) × At u j y × (y.parent ≡ x.parent)
    keep j x q = by (ℕ_discrete j i)
      where
        by : Dec (j ≡ i) → (y : Node) × At u j y × (y.parent ≡ x.parent)
        by (yes r) = (m, rw r same-slot, hp ∙ ap Node.parent (some_is (sym e ∙ (ap (λ (k : ℕ). get_or t k none) (sym r) ∙ q))))
        by (no r) = (x, get_or-set_other t i j (some m) none r ∙ q, refl)

    named : (j : ℕ) (x : Node) → suc j ≡ i → some m ≡ some x → is_name x.name ≡ true
    named j x r p = rw (← some_is p, hn) (g.named j n (rw r e))

    top : Dec (0 ≡ i) → (r : Node) × At u 0 r × (r.name ≡ []) × (r.parent ≡ 0) × (r.owner.domain ≡ 0)
    top (yes z) =
        let old : n ≡ g.root = some_is (sym e ∙ (ap (λ (k : ℕ). get_or t k none) (sym z) ∙ g.used)) in
        (m, rw z same-slot, hn ∙ (ap Node.name old ∙ g.nameless), hp ∙ (ap Node.parent old ∙ g.own-parent), hr (sym z))
    top (no z) = (g.root, get_or-set_other t i 0 (some m) none z ∙ g.used, g.nameless, g.own-parent, g.control)

-- ── a node made in a free slot ──

-- no child of slot p has the name
abbrev pub NoChild : Table → ℕ → Name → Type 0
NoChild t p name = (i : ℕ) (n : Node) → At t i n → n.parent ≡ p → n.name ≡ name → ⊥

-- a new node below a used slot that is at most seven levels down
added : (t : Table) (j k : ℕ) (n parent : Node) → Good t → get_or t j none ≡ none → j < length t → At t n.parent parent → is_name n.name ≡ true
    → good_entries (n.owner ∷ n.others) ≡ true → reaches_root k t n.parent ≡ true → k < deepest → NoChild t n.parent n.name
    → Good (set t j (some n)) × (reaches_root (suc k) (set t j (some n)) j ≡ true)
added t j k n parent g free l hp hn he hr hk alone = (
  record {
    root = g.root;
    used = kept 0 g.root g.used;
    nameless = g.nameless;
    own-parent = g.own-parent;
    control = g.control;
    named = λ i x q. set_cases (is_name x.name ≡ true) t j (suc i) (some n) x q (λ r p. rw (← some_is p) hn) (λ r p. g.named i x p);
    entries = λ i x q. set_cases (good_entries (x.owner ∷ x.others) ≡ true) t j i (some n) x q (λ r p. rw (← some_is p) he) (λ r p. g.entries i x p);
    reaches = λ i x q. set_cases (reaches_root deepest u i ≡ true) t j i (some n) x q (λ r p. rw r deep)
        (λ r p. reaches_kept deepest t u i keep (g.reaches i x p));
    apart = λ i i' x y p q a b.
        set_cases (i ≡ i') t j i (some n) x p
        (λ r f. set_cases (i ≡ i') t j i' (some n) y q (λ v h. r ∙ sym v)
        (λ v h. absurd (alone i' y h (sym a ∙ ap Node.parent (sym (some_is f))) (sym b ∙ ap Node.name (sym (some_is f))))))
        (λ r f. set_cases (i ≡ i') t j i' (some n) y q (λ v h. absurd (alone i x f (a ∙ ap Node.parent (sym (some_is h))) (b ∙ ap Node.name (sym (some_is h)))))
        (λ v h. g.apart i i' x y f h a b));
  },
  reached,
)
  where
    u : Table
    u = set t j (some n)

    kept : (i : ℕ) (x : Node) → At t i x → At u i x
    kept i x q = get_or-set_other t j i (some n) none (λ r. nothing (sym free ∙ (ap (λ (m : ℕ). get_or t m none) (sym r) ∙ q))) ∙ q

    keep : (i : ℕ) (x : Node) → At t i x → (y : Node) × At u i y × (y.parent ≡ x.parent)
    keep i x q = (x, kept i x q, refl)

    reached : reaches_root (suc k) u j ≡ true
    reached = node_reaches k u j n (get_or-set_same t j (some n) none l) (reaches_kept k t u n.parent keep hr)

    deep : reaches_root deepest u j ≡ true
    deep = rw (more k hk) at (reaches_up (7 - k) (suc k) u j reached)
      where
        more : (k : ℕ) → k < 8 → 7 - k + suc k ≡ 8
        more k h = omega arith

heir-good : (d : Domain) (e : Entry) → d ≤ last_domain → leb e.domain last_domain ≡ true → leb (heir d e).domain last_domain ≡ true
unfolding heir
heir-good d e h q = cond_case (λ (x : Entry). leb x.domain last_domain ≡ true) (is_control d) _ _ q (le-leb d last_domain h)

new_good : (d : Domain) (t : Table) (p : ℕ) (name : Name) (v : Octets) (m : Node) → Good t → d ≤ last_domain → At t p m
    → let n = new_node d t p name v in good_entries (n.owner ∷ n.others) ≡ true
unfolding new_node good_entries
new_good d t p name v m g h e =
    rw (node_at_is t p m e)
    (let q = (and-eq-true_iff (leb m.owner.domain last_domain) (good_entries m.others)).0 (g.entries p m e) in
    (and-eq-true_iff (leb (heir d m.owner).domain last_domain) (good_entries m.others)).1 (heir-good d m.owner h q.0, q.1))

-- a slot that was free has no children
fresh_slot : (t : Table) → Good t → (j : ℕ) (n : Node) (i : ℕ) (y : Node) → get_or t j none ≡ none → (n.parent ≡ j → ⊥) → At (set t j (some n)) i y →
    y.parent ≡ j → ⊥
fresh_slot t g j n i y free h w u =
    set_cases ⊥ t j i (some n) y w (λ r p. h (ap Node.parent (some_is p) ∙ u))
    (λ r p. let m = parent-used t g i y p in nothing (sym free ∙ (ap (λ (k : ℕ). get_or t k none) (sym u) ∙ m.1)))

-- names made one below the other
pub made-good : (ns : Names) (p k : ℕ) (d : Domain) (v : Octets) (t : Table) (m : Node) → Good t → d ≤ last_domain → At t p m → reaches_root k t p ≡ true
    → k + length ns ≤ deepest → all_names ns ≡ true → length ns ≤ free_count t → ((name : Name) (rest : Names) → ns ≡ name ∷ rest → NoChild t p name) → Good
    (made ns p d v t)
unfolding made all_names new_node
made-good [] p k d v t m g hd e hr hk hn hf alone = g
made-good (name ∷ ns) p k d v t m g hd e hr hk hn hf alone =
    let free : 0 < free_count t = omega arith in
    let n = new_node d t p name (last_value ns v) in
    let j = lowest t in
    let q = (and-eq-true_iff (is_name name) (all_names ns)).0 hn in
    let a = added t j k n m g (lowest_free_lem t) (lowest-below t free) e q.0 (new_good d t p name (last_value ns v) m g hd e) hr (omega arith)
    (alone name ns refl) in
    made-good ns j (suc k) d v (set t j (some n)) n a.0 hd (get_or-set_same t j (some n) none (lowest-below t free)) a.1 (omega arith) q.1
    (omega (arith, free_fewer t n free)) (λ x rest r i y w u z. fresh_slot t g j n i y (lowest_free_lem t)
    (λ b. nothing (sym (lowest_free_lem t) ∙ (ap (λ (x : ℕ). get_or t x none) (sym b) ∙ e))) w u)

-- ── removed nodes ──

cleared_at : (t : Table) (i k : ℕ) (ss : Table) (j : ℕ) (n : Node) → At (cleared_from t i k ss) j n → At ss j n × (within deepest t i (k + j) ≡ false)
unfolding cleared_from
cleared_at t i k [] j n e = absurd (nothing e)
cleared_at t i k (s ∷ ss) zero n e = rw add-zero (go (within deepest t i k) refl e)
  where
    go : (b : Bool) → within deepest t i k ≡ b → cond b none s ≡ some n → (s ≡ some n) × (within deepest t i k ≡ false)
    go true h q = absurd (nothing q)
    go false h q = (q, h)
cleared_at t i k (s ∷ ss) (suc j) n e = rw (add-suc, ← suc-add k j) (cleared_at t i (suc k) ss j n e)

at_cleared : (t : Table) (i k : ℕ) (ss : Table) (j : ℕ) (n : Node) → At ss j n → within deepest t i (k + j) ≡ false → At (cleared_from t i k ss) j n
unfolding cleared_from
at_cleared t i k [] j n e h = absurd (nothing e)
at_cleared t i k (s ∷ ss) zero n e h = rw (rw add-zero at h) e
at_cleared t i k (s ∷ ss) (suc j) n e h = at_cleared t i (suc k) ss j n e (rw (add-suc, ← suc-add k j) at h)

-- a slot's own removal, or its parent's
pub within_cases : (k : ℕ) (t : Table) (i j : ℕ) (n : Node) → At t j n → (j ≡ 0 → ⊥) → within (suc k) t i j ≡ false →
    (eqb i j ≡ false) × (within k t i n.parent ≡ false)
unfolding within
within_cases k t i j n e z h = go (eqb i j) (rw (ne_eqb j 0 z, node_at_is t j n e) at h)
  where
    go : (b : Bool) → (b || within k t i n.parent) ≡ false → (b ≡ false) × (within k t i n.parent ≡ false)
    go true q = absurd (true≢false q)
    go false q = (refl, q)

root_out : (t : Table) (i : ℕ) → (i ≡ 0 → ⊥) → within 0 t i 0 ≡ false
unfolding within
root_out t i z = ne_eqb i 0 z

-- no slot lies further below than its own way to the root
within_more : (k : ℕ) (t : Table) (i j : ℕ) → reaches_root k t j ≡ true → within (suc k) t i j ≡ within k t i j
unfolding within
within_more zero t i j h = rw (reaches_zero t j h) (or-false (eqb i 0))
within_more (suc k) t i j h =
    reaches_cases (within (suc (suc k)) t i j ≡ within (suc k) t i j) k t j h (λ z. rw (eq-eqb j 0 z))
    (λ z n e r. ap (λ (b : Bool). eqb i j || (not (eqb j 0) && b)) (within_more k t i (node_at t j).parent (rw (node_at_is t j n e) r)))

within_all : (m k : ℕ) (t : Table) (i j : ℕ) → reaches_root k t j ≡ true → within (m + k) t i j ≡ within k t i j
within_all zero k t i j h = rw zero-add
within_all (suc m) k t i j h = rw suc-add (within_more (m + k) t i j (reaches_up m k t j h) ∙ within_all m k t i j h)

module _ (t : Table) (g : Good t) (i : ℕ) where
  -- a slot stays if it doesn't lie within the removed one, as far as its way to the root goes
  stays : (k j : ℕ) (n : Node) → k ≤ deepest → At t j n → reaches_root k t j ≡ true → within k t i j ≡ false → At (removed t i) j n
  unfolding removed
  stays k j n l e h w = at_cleared t i 0 t j n e (rw (zero-add j, sub_split k l) (within_all (8 - k) k t i j h ∙ w))
    where
      sub_split : (k : ℕ) → k ≤ 8 → 8 ≡ 8 - k + k
      sub_split k h = omega arith

  pub stayed : (j : ℕ) (n : Node) → At (removed t i) j n → At t j n × (within deepest t i j ≡ false)
  unfolding removed
  stayed j n e = rw zero-add at (cleared_at t i 0 t j n e)

  way_stays : (k j : ℕ) → k ≤ deepest → reaches_root k t j ≡ true → within k t i j ≡ false → reaches_root k (removed t i) j ≡ true
  way_stays zero j l h w = root_reaches 0 (removed t i) j (reaches_zero t j h)
  way_stays (suc k) j l h w =
      reaches_cases (reaches_root (suc k) (removed t i) j ≡ true) k t j h (root_reaches (suc k) (removed t i) j)
      (λ z n e r. node_reaches k (removed t i) j n (stays (suc k) j n l e h w) (way_stays k n.parent (omega arith) r (within_cases k t i j n e z w).1))

  pub removed-good : (i ≡ 0 → ⊥) → Good (removed t i)
  removed-good z =
      record {
        root = g.root;
        used = stays 0 0 g.root (omega arith) g.used (root_reaches 0 t 0 refl) (root_out t i z);
        nameless = g.nameless;
        own-parent = g.own-parent;
        control = g.control;
        named = λ j n e. g.named j n (stayed (suc j) n e).0;
        entries = λ j n e. g.entries j n (stayed j n e).0;
        reaches = λ j n e. let s = stayed j n e in way_stays deepest j (omega arith) (g.reaches j n s.0) s.1;
        apart = λ j k n m e f. g.apart j k n m (stayed j n e).0 (stayed k m f).0;
      }

-- several removed, none of them the root
pub without_all-good : (is : List ℕ) (t : Table) → Good t → Each (λ (i : ℕ). i ≡ 0 → ⊥) is → Good (without_all t is)
unfolding without_all
without_all-good [] t g h = g
without_all-good (i ∷ is) t g h = without_all-good is (removed t i) (removed-good t g i h.0) h.1
