-- What a request creates: each new slot lies on the named path, and a slot has one path; so what is new is at or above the named path.
use mathlib.Core.Path.{◌≡◌, refl, sym, ◌∙◌, ap, subst}
use mathlib.Core.Bool.{true, false, false≢true, true≢false, and-eq-true_iff}
use mathlib.Core.List.{[], ◌∷◌, ◌++◌, cons≢nil, append_assoc, append-nil}
use mathlib.Core.Option.{Option, none, some}
use Prim.Native.Nat.{ℕ, zero, suc, ◌+◌, ◌-◌, ◌≤◌, ◌<◌}
use native.Mathlib.Nat.{zero-add}
use native.Mathlib.Omega.{arith}
use lib.ListN.{length, get_or, set}
use lib.Dec.{leb}
use borrow.Author.Tests.{ne_eqb}
use Rattle.rules.specs.Size.{longest_value, last_domain}
use Rattle.rules.specs.Octets.{Octets}
use Rattle.rules.specs.Entries.{is_empty, lowest, free_count}
use Rattle.rules.specs.Path.{Domain, Name, Names, is_name, all_names}
use Rattle.rules.specs.Node.{Node, Table, Reached, node_at, child, reach_from, reach, new_node, last_value, made, valued, with_value, path_up}
use Rattle.rules.specs.Rights.{may_write}
use Rattle.rules.specs.Payload.{Ask, directory, read, get_perms, write, mkdir, rm, set_perms}
use Rattle.rules.specs.Answer.{Answer, unchanged, changed, room, created, written, directory_made, answered, answer}
use Rattle.rules.proofs.Cases.{cond_case, cond-known}
use Rattle.rules.proofs.Places.{At, at_below, some_is, set_cases}
use Rattle.rules.proofs.Fitting.{roomy, free_fewer}
use Rattle.rules.proofs.GoodTables.{Good, node_at_is, IsChild, child-some, child_back}
use Rattle.rules.proofs.RootWays.{parent-used}
use Rattle.rules.proofs.GoodAnswers.{answer-good}
use Rattle.rules.proofs.GoodRequests.{AskedGood}
use Rattle.laws.specs.History.{succeeds, is_there}
use Rattle.laws.specs.Heard.{creates}
use Rattle.laws.proofs.Making.{found, Keeps, Front, front, made_keeps, made_step, value_keeps}

-- ── one path a slot ──

-- the names lead from slot i to slot j
abbrev Leads : Table → ℕ → Names → ℕ → Type 0
Leads t i ns j = reach_from ns t i ≡ record { slot = j; left = [] }

-- by way of a child
leads_by : (t : Table) (i : ℕ) (n : Name) (ns : Names) (j : ℕ) → Leads t i (n ∷ ns) j → (k : ℕ) × IsChild t i n k × Leads t k ns j
unfolding reach_from
leads_by t i n ns j = go (child t i n) refl
  where
    go : (m : Option ℕ) → child t i n ≡ m
        → ◌≡◌ {A = Reached} (elim m [ none ↦ record { slot = i; left = n ∷ ns } | some k ↦ reach_from ns t k ]) (record { slot = j; left = [] })
        → (k : ℕ) × IsChild t i n k × Leads t k ns j
    go none x e = absurd (cons≢nil (ap Reached.left e))
    go (some k) x e = (k, child-some t i n k x, e)

leads_here : (t : Table) (i j : ℕ) → Leads t i [] j → i ≡ j
unfolding reach_from
leads_here t i j e = ap Reached.slot e

at_once : (t : Table) (i j : ℕ) → i ≡ j → Leads t i [] j
unfolding reach_from
at_once t i j e = ap (λ (k : ℕ). record { slot = k; left = [] }) e

leads_used : (t : Table) (ns : Names) (i j : ℕ) (n : Node) → At t i n → Leads t i ns j → (m : Node) × At t j m
leads_used t [] i j n e l = (n, rw (leads_here t i j l) at e)
leads_used t (name ∷ ns) i j n e l = let c = leads_by t i name ns j l in leads_used t ns c.0 j c.1.node c.1.used c.2

module _ (t : Table) (g : Good t) where
  -- the root is nobody's child
  not_root : (i : ℕ) (n : Name) (j : ℕ) → is_name n ≡ true → IsChild t i n j → j ≡ 0 → ⊥
  unfolding is_name
  not_root i n j h c z =
      let old : c.node ≡ g.root = some_is (sym c.used ∙ (ap (λ (k : ℕ). get_or t k none) z ∙ g.used)) in
      false≢true (ap is_name (sym g.nameless ∙ (ap Node.name (sym old) ∙ c.named)) ∙ h)

  -- going up as many levels gives the names back
  up_again : (a : Names) (i j m : ℕ) (ns : Names) → all_names a ≡ true → Leads t i a j → path_up (length a + m) t j ns ≡ path_up m t i (a ++ ns)
  unfolding all_names path_up
  up_again [] i j m ns h l = rw (zero-add m, leads_here t i j l) refl
  up_again (n ∷ a) i j m ns h l =
      let q = (and-eq-true_iff (is_name n) (all_names a)).0 h in
      let c = leads_by t i n a j l in
      let k = c.0 in
      let node = node_at_is t k c.1.node c.1.used in
      let more : suc (length a) + m ≡ length a + suc m = omega arith in
      let one : path_up (suc m) t k (a ++ ns) ≡ path_up m t i (n ∷ a ++ ns) =
      rw (ne_eqb k 0 (not_root i n k q.0 c.1), node, c.1.parent, c.1.named) refl in
      ap (λ (s : ℕ). path_up s t j ns) more ∙ (up_again a k j (suc m) ns q.1 c.2 ∙ one)

  -- two paths to a slot are one
  one_path : (a b : Names) (j : ℕ) → all_names a ≡ true → all_names b ≡ true → Leads t 0 a j → Leads t 0 b j → a ≡ b
  unfolding path_up
  one_path a b j ha hb la lb =
      let both : length a + length b ≡ length b + length a = omega arith in
      sym (whole a (length b) ha la) ∙ (ap (λ (s : ℕ). path_up s t j []) both ∙ whole b (length a) hb lb)
    where
      at_top : (m : ℕ) (ns : Names) → path_up m t 0 ns ≡ ns
      at_top zero ns = refl
      at_top (suc m) ns = refl

      whole : (a : Names) (m : ℕ) → all_names a ≡ true → Leads t 0 a j → path_up (length a + m) t j [] ≡ a
      whole a m h l = up_again a 0 j m [] h l ∙ (at_top m (a ++ []) ∙ append-nil a)

-- ── the slots afterwards ──

module _ (t u : Table) (g : Good t) (k : Keeps t u) where
  -- a child in u that is a slot of t is the same child in t
  child-before : (i : ℕ) (n : Name) (j : ℕ) (x : Node) → IsChild u i n j → At t j x → (m : Node) × At t i m × (child t i n ≡ some j)
  child-before i n j x c e =
      let w = k j x e in
      let same : w.0 ≡ c.node = some_is (sym w.1 ∙ c.used) in
      let parent : x.parent ≡ i = sym w.2 ∙ (ap Node.parent same ∙ c.parent) in
      let named : x.name ≡ n = sym w.3 ∙ (ap Node.name same ∙ c.named) in
      let up = parent-used t g j x e in
      (up.0, subst (λ (s : ℕ). At t s up.0) parent up.1, rw (parent, named) at (child_back t g j x e))

  -- so a path that leads in u to a slot of t leads to it in t
  leads_before : (ns : Names) (i j : ℕ) (n : Node) → At t j n → Leads u i ns j → (m : Node) × At t i m × Leads t i ns j
  leads_before [] i j n e l = let here = leads_here u i j l in (n, rw here e, at_once t i j here)
  leads_before (name ∷ ns) i j n e l = let c = leads_by u i name ns j l in go c.0 c.1 (leads_before ns c.0 j n e c.2)
    where
      go : (s : ℕ) → IsChild u i name s → (m : Node) × At t s m × Leads t s ns j → (m : Node) × At t i m × Leads t i (name ∷ ns) j
      go s c r = let b = child-before i name s r.0 c r.1 in (b.0, b.1, found t name ns i s b.2 ∙ r.2)

-- a slot of what was made was there before, or a front of the made names leads to it
made_cases : (P : Type 0) (ns : Names) (p : ℕ) (d : Domain) (v : Octets) (t : Table) → length ns ≤ free_count t → Good (made ns p d v t)
    → (k : ℕ) (x : Node) → At (made ns p d v t) k x → (At t k x → P)
    → ((a below : Names) → ns ≡ a ++ below → length below < length ns → Leads (made ns p d v t) p a k → P) → P
unfolding made
made_cases P [] p d v t h g k x e old new = old e
made_cases P (name ∷ ns) p d v t h g k x e old new =
    let free : 0 < free_count t = omega arith in
    let n = new_node d t p name (last_value ns v) in
    made_cases P ns (lowest t) d v (set t (lowest t) (some n)) (omega (arith, free_fewer t n free)) g k x e
    (λ q. set_cases P t (lowest t) k (some n) x q
    (λ r s. new (name ∷ []) ns refl (omega arith) (made_step name ns [] p d v t free g ∙ at_once _ (lowest t) k (sym r)))
    (λ r s. old s))
    (λ a below r f l. new (name ∷ a) below (ap (λ (m : Names). name ∷ m) r) (omega arith) (made_step name ns a p d v t free g ∙ l))

-- ── what is new ──

there_leads : (t : Table) (p : Names) → is_there t p ≡ true → Leads t 0 p (reach t p).slot
unfolding is_there is_empty reach
there_leads t p h = go (reach_from p t 0).left refl h
  where
    go : (l : Names) → (reach_from p t 0).left ≡ l → is_empty l ≡ true → Leads t 0 p (reach_from p t 0).slot
    go [] e q = ap (λ (l : Names). record { slot = (reach_from p t 0).slot; left = l }) e
    go (n ∷ l) e q = absurd (false≢true q)

leads_there : (t : Table) (p : Names) (j : ℕ) → Leads t 0 p j → is_there t p ≡ true
unfolding is_there is_empty reach
leads_there t p j l = ap (λ (r : Reached). is_empty r.left) l

names_above : (a b : Names) → all_names (a ++ b) ≡ true → all_names a ≡ true
unfolding all_names
names_above [] b h = refl
names_above (n ∷ a) b h =
    let q = (and-eq-true_iff (is_name n) (all_names (a ++ b))).0 h in
    (and-eq-true_iff (is_name n) (all_names a)).1 (q.0, names_above a b q.1)

-- the path p is at ns or above it, and some of the names l, which were left of ns, are its own
pub record Above (ns l p : Names) : Type 0 where
  pub below : Names
  pub parts : ns ≡ p ++ below
  pub fewer : length below < length l

-- so is each path that is there in u and not in t
abbrev NewAbove : Names → Table → Names → Table → Type 0
NewAbove ns t l u = (p : Names) → all_names p ≡ true → is_there t p ≡ false → is_there u p ≡ true → Above ns l p

-- what a WRITE or MKDIR of ns that succeeds has created on the table t, where the names l were left of the path
pub record Created (ns : Names) (t : Table) (l : Names) (a : Answer) : Type 0 where
  pub change : 0 < length l → a.change ≡ some (record { removal = false; parents = length l - 1; names = ns })
  pub above : NewAbove ns t l a.table

module _ (d : Domain) (ns : Names) (t : Table) (g : Good t) (names : all_names ns ≡ true) where
  -- a path to a slot of t is not new
  not_new : (u : Table) → Keeps t u → (p : Names) (j : ℕ) (n : Node) → is_there t p ≡ false → Leads u 0 p j → At t j n → ⊥
  not_new u k p j n h l e = true≢false (sym (leads_there t p j (leads_before t u g k p 0 j n e l).2) ∙ h)

  made_above : (name : Name) (rest : Names) (i : ℕ) (v : Octets) → reach t ns ≡ record { slot = i; left = name ∷ rest } → suc (length rest) ≤ free_count t
      → Good (made (name ∷ rest) i d v t) → NewAbove ns t (name ∷ rest) (made (name ∷ rest) i d v t)
  unfolding reach
  made_above name rest i v e h gu p hp n q =
      let u = made (name ∷ rest) i d v t in
      let k : Keeps t u = λ j m a. (m, made_keeps (name ∷ rest) i d v t j m a, refl, refl) in
      let f = subst (Front u ns 0) e (front t u gu k ns 0) in
      let l = there_leads u p q in
      let x = leads_used u p 0 (reach u p).slot gu.root gu.used l in
      made_cases (Above ns (name ∷ rest) p) (name ∷ rest) i d v t h gu (reach u p).slot x.0 x.1 (λ o. absurd (not_new u k p _ x.0 n l o))
      (λ a below r s b.
      let parts : ns ≡ (f.names ++ a) ++ below = f.parts ∙ (ap (λ (m : Names). f.names ++ m) r ∙ sym (append_assoc f.names a below)) in
      let same : f.names ++ a ≡ p = one_path u gu (f.names ++ a) p _ (names_above (f.names ++ a) below (rw parts at names)) hp (f.leads a ∙ b) l in
      record { below = below; parts = parts ∙ ap (λ (m : Names). m ++ below) same; fewer = s })

  -- another value makes no path
  value_above : (i : ℕ) (v : Octets) → reach t ns ≡ record { slot = i; left = [] } → Good (with_value t i v) → NewAbove ns t [] (with_value t i v)
  unfolding reach with_value
  value_above i v e gu p hp n q =
      let u = with_value t i v in
      let l = there_leads u p q in
      let o = leads_used t ns 0 i g.root g.used e in
      let x = leads_used u p 0 (reach u p).slot gu.root gu.used l in
      let k = value_keeps t i v (at_below t i o.0 o.1) in
      absurd (set_cases ⊥ t i (reach u p).slot (some (valued (node_at t i) v)) x.0 x.1
      (λ r s. not_new u k p _ o.0 n l (ap (λ (j : ℕ). get_or t j none) r ∙ o.1))
      (λ r s. not_new u k p _ x.0 n l s))

  -- an answer that has created so much if it succeeds
  abbrev Creating : Names → Answer → Type 0
  Creating l a = Good a.table → succeeds a.reply ≡ true → Created ns t l a

  made-created : (name : Name) (rest : Names) (i : ℕ) (v : Octets) → let r : Reached = record { slot = i; left = name ∷ rest } in
      reach t ns ≡ r → Creating (name ∷ rest) (created d ns t r v)
  unfolding created changed unchanged succeeds
  made-created name rest i v e =
      let l = name ∷ rest in
      cond_case (Creating l) (may_write d (node_at t i)) _ _
      (cond-known (Creating l) (room d ns t l v) _ _
      (λ h gu s. record { change = λ k. refl; above = made_above name rest i v e (roomy d ns t l v h).2 gu })
      (λ h gu s. absurd (false≢true s)))
      (λ gu s. absurd (false≢true s))

  value-created : (i : ℕ) (v : Octets) → let r : Reached = record { slot = i; left = [] } in reach t ns ≡ r → Creating [] (written d ns t v r)
  unfolding written changed unchanged succeeds
  value-created i v e =
      cond_case (Creating []) (may_write d (node_at t i)) _ _
      (cond_case (Creating []) (leb (length v) longest_value) _ _
      (λ gu s. record { change = λ k. absurd (omega arith); above = value_above i v e gu })
      (λ gu s. absurd (false≢true s)))
      (λ gu s. absurd (false≢true s))

  answered-created : (a : Ask) → creates a ≡ true → (l : Names) (i : ℕ) → let r : Reached = record { slot = i; left = l } in
      reach t ns ≡ r → Creating l (answered d ns t a r)
  unfolding answered written directory_made unchanged creates
  answered-created directory c l i e = absurd (false≢true c)
  answered-created read c l i e = absurd (false≢true c)
  answered-created get_perms c l i e = absurd (false≢true c)
  answered-created (write v) c [] i e = value-created i v e
  answered-created (write v) c (n ∷ l) i e = made-created n l i v e
  answered-created mkdir c [] i e = λ gu s. record { change = λ k. absurd (omega arith); above = λ p hp n q. absurd (false≢true (sym n ∙ q)) }
  answered-created mkdir c (n ∷ l) i e = made-created n l i [] e
  answered-created rm c l i e = absurd (false≢true c)
  answered-created (set_perms o es) c l i e = absurd (false≢true c)

pub answer-created : (d : Domain) (a : Ask) (ns : Names) (t : Table) → d ≤ last_domain → AskedGood a ns → Good t → creates a ≡ true
    → let x = answer d a ns t in succeeds x.reply ≡ true → Created ns t (reach t ns).left x
unfolding answer
answer-created d a ns t hd h g c s =
    answered-created d ns t g h.names a c (reach t ns).left (reach t ns).slot refl (answer-good d a ns t hd h.entries h.names h.proper g) s
