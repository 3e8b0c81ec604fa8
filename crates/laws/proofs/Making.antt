-- Making: the proofs.
use mathlib.Core.Path.{◌≡◌, refl, sym, ap, ◌∙◌}
use mathlib.Core.Bool.{true, false≢true}
use mathlib.Core.List.{[], ◌∷◌, ◌++◌}
use mathlib.Core.Option.{Option, none, some}
use Prim.Native.Nat.{ℕ, suc, ◌<◌, ◌≤◌}
use native.Mathlib.Decide.{ℕ_discrete}
use native.Mathlib.Omega.{arith}
use lib.ListN.{length, get_or, set}
use lib.Seq.{get_or-set_same, get_or-set_other}
use lib.Dec.{leb}
use Rattle.rules.specs.Size.{longest_value}
use Rattle.rules.specs.Octets.{Octets}
use Rattle.rules.specs.Entries.{is_empty, lowest, free_count}
use Rattle.rules.specs.Path.{Name, Domain, Names}
use Rattle.rules.specs.Node.{Node, Table, Reached, node_at, child, reach_from, reach, new_node, last_value, made, valued, with_value}
use Rattle.rules.specs.Payload.{write, mkdir, on_root}
use Rattle.rules.specs.Rights.{may_write}
use Rattle.rules.specs.Answer.{Answer, answer, answered, created, changed, unchanged, room, written, directory_made}
use Rattle.rules.proofs.Cases.{cond_case, cond-known}
use Rattle.rules.proofs.Places.{At, nothing, lowest_free_lem}
use Rattle.rules.proofs.Fitting.{roomy, lowest-below, free_fewer, reach-below}
use Rattle.rules.proofs.GoodTables.{Good, good_of, node_at_is, child-some, child_back}
use Rattle.rules.proofs.GoodAnswers.{answer-good}
use Rattle.rules.proofs.GoodRequests.{proper_open}
use Rattle.laws.specs.History.{succeeds, is_there}
use Rattle.laws.specs.Making.{WithParents, WrittenIsThere, MadeIsThere}
use Rattle.laws.proofs.Parents.{parents_are_there}

-- ── what is there stays ──

pub found : (u : Table) (n : Name) (ns : Names) (i j : ℕ) → child u i n ≡ some j → reach_from (n ∷ ns) u i ≡ reach_from ns u j
unfolding reach_from
found u n ns i j e = ap (λ (m : Option ℕ). elim m as (λ m. Reached) [ none ↦ record { slot = i; left = n ∷ ns } | some k ↦ reach_from ns u k ]) e

-- each slot of t is in u, with its parent and name
abbrev pub Keeps : Table → Table → Type 0
Keeps t u = (j : ℕ) (n : Node) → At t j n → (m : Node) × At u j m × (m.parent ≡ n.parent) × (m.name ≡ n.name)

-- the names before those that are left, which lead in u to the slot that was reached
pub record Front (u : Table) (ns : Names) (i : ℕ) (r : Reached) : Type 0 where
  pub names : Names
  pub parts : ns ≡ names ++ r.left
  pub leads : (more : Names) → reach_from (names ++ more) u i ≡ reach_from more u r.slot

pub front : (t u : Table) → Good u → Keeps t u → (ns : Names) (i : ℕ) → Front u ns i (reach_from ns t i)
unfolding reach_from
front t u g k [] i = record { names = []; parts = refl; leads = λ more. refl }
front t u g k (n ∷ ns) i = go (child t i n) refl (front t u g k ns)
  where
    go : (m : Option ℕ) → child t i n ≡ m → ((j : ℕ) → Front u ns j (reach_from ns t j))
        → Front u (n ∷ ns) i (elim m [ none ↦ record { slot = i; left = n ∷ ns } | some j ↦ reach_from ns t j ])
    go none x f = record { names = []; parts = refl; leads = λ more. refl }
    go (some j) x f =
        let c = child-some t i n j x in
        let w = k j c.node c.used in
        let there : child u i n ≡ some j = rw (w.2 ∙ c.parent, w.3 ∙ c.named) at (child_back u g j w.0 w.1) in
        let rest = f j in
        record {
          names = n ∷ rest.names;
          parts = ap (λ (l : Names). n ∷ l) rest.parts;
          leads = λ more. found u n (rest.names ++ more) i j there ∙ rest.leads more;
        }

-- a path leads in u as far as in t, and then on
along : (t u : Table) → Good u → Keeps t u → (ns : Names) (i : ℕ) → reach_from ns u i ≡ reach_from (reach_from ns t i).left u (reach_from ns t i).slot
along t u g k ns i = let f = front t u g k ns i in ap (λ (l : Names). reach_from l u i) f.parts ∙ f.leads (reach_from ns t i).left

-- ── what is made ──

pub made_keeps : (ns : Names) (p : ℕ) (d : Domain) (v : Octets) (t : Table) (j : ℕ) (n : Node) → At t j n → At (made ns p d v t) j n
unfolding made
made_keeps [] p d v t j n e = e
made_keeps (name ∷ ns) p d v t j n e =
    made_keeps ns (lowest t) d v (set t (lowest t) (some (new_node d t p name (last_value ns v)))) j n
    (get_or-set_other t (lowest t) j (some (new_node d t p name (last_value ns v))) none
    (λ r. nothing (sym (lowest_free_lem t) ∙ (ap (λ (m : ℕ). get_or t m none) (sym r) ∙ e))) ∙ e)

-- a slot with another value keeps its parent and name
pub value_keeps : (t : Table) (i : ℕ) (v : Octets) → i < length t → Keeps t (with_value t i v)
unfolding with_value
value_keeps t i v l j n a = go (ℕ_discrete j i)
  where
    m : Node
    m = valued (node_at t i) v

    go : Dec (j ≡ i) → (x : Node) × At (set t i (some m)) j x × (x.parent ≡ n.parent) × (x.name ≡ n.name)
    go (yes q) =
        let same : node_at t i ≡ n = node_at_is t i n (rw q at a) in
        (m, rw q (get_or-set_same t i (some m) none l), ap Node.parent same, ap Node.name same)
    go (no q) = (n, get_or-set_other t i j (some m) none q ∙ a, refl, refl)

-- the names lead from slot p to a slot with the value
record End (u : Table) (ns : Names) (p : ℕ) (v : Octets) : Type 0 where
  left : (reach_from ns u p).left ≡ []
  value : (node_at u (reach_from ns u p).slot).value ≡ v

end_at : (u : Table) (ns ms : Names) (p j : ℕ) (v : Octets) → reach_from ns u p ≡ reach_from ms u j → End u ms j v → End u ns p v
end_at u ns ms p j v e h = record { left = ap Reached.left e ∙ h.left; value = ap (λ (r : Reached). (node_at u r.slot).value) e ∙ h.value }

-- the first of the names that are made is found below slot p, in the slot that was the lowest free one
made-first : (name : Name) (ns : Names) (p : ℕ) (d : Domain) (v : Octets) (t : Table) → 0 < free_count t
    → At (made (name ∷ ns) p d v t) (lowest t) (new_node d t p name (last_value ns v))
unfolding made
made-first name ns p d v t h =
    let n = new_node d t p name (last_value ns v) in
    made_keeps ns (lowest t) d v (set t (lowest t) (some n)) (lowest t) n (get_or-set_same t (lowest t) (some n) none (lowest-below t h))

pub made_step : (name : Name) (ns ms : Names) (p : ℕ) (d : Domain) (v : Octets) (t : Table) → 0 < free_count t → Good (made (name ∷ ns) p d v t)
    → let u = made (name ∷ ns) p d v t in reach_from (name ∷ ms) u p ≡ reach_from ms u (lowest t)
unfolding new_node
made_step name ns ms p d v t h g =
    let u = made (name ∷ ns) p d v t in
    found u name ms p (lowest t) (child_back u g (lowest t) (new_node d t p name (last_value ns v)) (made-first name ns p d v t h))

made-there : (ns : Names) (name : Name) (p : ℕ) (d : Domain) (v : Octets) (t : Table) → suc (length ns) ≤ free_count t → Good (made (name ∷ ns) p d v t)
    → End (made (name ∷ ns) p d v t) (name ∷ ns) p v
unfolding made new_node last_value reach_from
made-there [] name p d v t h g =
    let u = made (name ∷ []) p d v t in
    let free : 0 < free_count t = omega arith in
    end_at u (name ∷ []) [] p (lowest t) v (made_step name [] [] p d v t free g)
    (record { left = refl; value = ap Node.value (node_at_is u (lowest t) (new_node d t p name v) (made-first name [] p d v t free)) })
made-there (next ∷ ns) name p d v t h g =
    let free : 0 < free_count t = omega arith in
    let n = new_node d t p name [] in
    end_at (made (name ∷ next ∷ ns) p d v t) (name ∷ next ∷ ns) (next ∷ ns) p (lowest t) v (made_step name (next ∷ ns) (next ∷ ns) p d v t free g)
    (made-there ns next (lowest t) d v (set t (lowest t) (some n)) (omega (arith, free_fewer t n free)) g)

module _ (d : Domain) (ns : Names) (t : Table) (v : Octets) where
  -- where a path leads in a table that keeps the slots
  on_from : (u : Table) (l : Names) (i : ℕ) → Good u → Keeps t u → reach t ns ≡ record { slot = i; left = l } → End u l i v → End u ns 0 v
  unfolding reach
  on_from u l i g k e h = end_at u ns l 0 i v (along t u g k ns 0 ∙ ap (λ (r : Reached). reach_from r.left u r.slot) e) h

  -- an answer that succeeds leaves the path there
  abbrev There : Answer → Type 0
  There a = Good a.table → succeeds a.reply ≡ true → End a.table ns 0 v

  created-there : (name : Name) (rest : Names) (i : ℕ) → reach t ns ≡ record { slot = i; left = name ∷ rest } →
      There (created d ns t (record { slot = i; left = name ∷ rest }) v)
  unfolding created changed unchanged succeeds
  created-there name rest i e =
      cond_case There (may_write d (node_at t i)) _ _
      (cond-known There (room d ns t (name ∷ rest) v) _ _
      (λ h g s.
      on_from (made (name ∷ rest) i d v t) (name ∷ rest) i g (λ j n a. (n, made_keeps (name ∷ rest) i d v t j n a, refl, refl)) e
      (made-there rest name i d v t (roomy d ns t (name ∷ rest) v h).2 g))
      (λ h g s. absurd (false≢true s)))
      (λ g s. absurd (false≢true s))

  written_over : (i : ℕ) → i < length t → reach t ns ≡ record { slot = i; left = [] } → Good (with_value t i v) → End (with_value t i v) ns 0 v
  unfolding with_value reach_from
  written_over i l e g =
      let m = valued (node_at t i) v in
      on_from (with_value t i v) [] i g (value_keeps t i v l) e
      (record { left = refl; value = ap Node.value (node_at_is (set t i (some m)) i m (get_or-set_same t i (some m) none l)) })

  written-there : (l : Names) (i : ℕ) → i < length t → reach t ns ≡ record { slot = i; left = l } →
      There (answered d ns t (write v) (record { slot = i; left = l }))
  unfolding answered written changed unchanged succeeds
  written-there [] i h e =
      cond_case There (may_write d (node_at t i)) _ _
      (cond_case There (leb (length v) longest_value) _ _ (λ g s. written_over i h e g) (λ g s. absurd (false≢true s)))
      (λ g s. absurd (false≢true s))
  written-there (name ∷ rest) i h e = created-there name rest i e

with_parents : (t : Table) (ns : Names) → is_there t ns ≡ true → WithParents t ns
with_parents t ns h = record { path = h; parents = λ above below e. parents_are_there t above below (ap (is_there t) (sym e) ∙ h) }

-- the table after is good, and the path leads to a slot of the table
pub written_is_there : WrittenIsThere
unfolding answer is_there is_empty reach on_root
written_is_there d ns v t h =
    let g = good_of t (omega (arith, h.long)) h.good in
    let good = answer-good d (write v) ns t h.domain tt h.names (proper_open (write v) ns refl) g in
    let end = written-there d ns t v (reach t ns).left (reach t ns).slot (reach-below ns t 0 (omega (arith, h.long))) refl good h.answered in
    (with_parents (answer d (write v) ns t).table ns (ap is_empty end.left), end.value)

pub made_is_there : MadeIsThere
unfolding answer answered directory_made unchanged is_there is_empty reach on_root
made_is_there d ns t h =
    let g = good_of t (omega (arith, h.long)) h.good in
    let good = answer-good d mkdir ns t h.domain tt h.names (proper_open mkdir ns refl) g in
    with_parents (answer d mkdir ns t).table ns (go (reach t ns).left (reach t ns).slot refl good h.answered)
  where
    go : (l : Names) (i : ℕ) → reach t ns ≡ record { slot = i; left = l } → let a = answered d ns t mkdir (record { slot = i; left = l }) in
        Good a.table → succeeds a.reply ≡ true → is_empty (reach_from ns a.table 0).left ≡ true
    go [] i e g s = ap (λ (r : Reached). is_empty r.left) e
    go (name ∷ rest) i e g s = ap is_empty (created-there d ns t [] name rest i e g s).left
