-- What a walk to the root finds and leaves, step by step.
use mathlib.Core.Path.{◌≡◌, refl, sym, ap, ◌∙◌}
use mathlib.Core.Bool.{Bool, true, false, true≢false, cond}
use mathlib.Core.List.{[], ◌∷◌, ◌++◌, append-nil, append_assoc}
use mathlib.Core.Option.{Option, none, some}
use Prim.Native.Nat.{ℕ, zero, suc, ◌+◌, ◌*◌, ◌-◌, ◌≤◌, ◌<◌}
use native.Mathlib.Omega.{arith}
use native.Mathlib.Decide.{ℕ_discrete}
use lib.ListN.{length, get_or, set, replicate, length-append}
use lib.Dec.{eqb}
use borrow.Author.Tests.{eq-eqb, ne_eqb}
use Rattle.std.specs.Prelude.{Some, None}
use Rattle.std.specs.Prelude as std
use Rattle.rules.specs.Size.{slots, longest_name, longest_path, deepest}
use Rattle.rules.specs.Octets.{Octets, paste}
use Rattle.rules.specs.Path.{Names, slashed}
use Rattle.rules.specs.Node.{Node, Table, node_at, path_up}
use Rattle.rules.specs.Layout.{table_of}
use Rattle.rules.specs.Sound.{reaches_root}
use Rattle.rules.proofs.Paste.{paste_nil}
use Rattle.rules.proofs.Joined.{paste-behind, set-paste}
use Rattle.rules.proofs.Fitting.{node_at-fits, decoded_fits}
use Rattle.rules.proofs.RelativeLaws.{slashed_append}
use Rattle.rules.proofs.RootWays.{root_reaches, reaches_node, reaches_zero}
use Rattle.slots.proofs.Canonical.{used-some}
use Rattle.slots.specs.Slot.{slot_at, is_used}
use Rattle.slots.proofs.Reading.{node-some}
use Rattle.soundness.specs.declared.answer.Way.{Way}
use Rattle.soundness.specs.Walks.{steps_to, text_to, taken, Walked, Lent}

pub name-short : (t : Octets) (i : ℕ) → length (node_at (table_of t) i).name ≤ longest_name
name-short t i = (node_at-fits (table_of t) i (decoded_fits t).all).name

-- ── the names on the way ──

pub up_append : (k : ℕ) (ts : Table) (i : ℕ) (ns : Names) → path_up k ts i ns ≡ path_up k ts i [] ++ ns
unfolding path_up
up_append zero ts i ns = refl
up_append (suc k) ts i ns = by (eqb i 0) (up_append k ts p (n ∷ ns)) (up_append k ts p (n ∷ []))
  where
    p : ℕ
    p = (node_at ts i).parent

    n : Octets
    n = (node_at ts i).name

    by : (b : Bool) → path_up k ts p (n ∷ ns) ≡ path_up k ts p [] ++ (n ∷ ns) → path_up k ts p (n ∷ []) ≡ path_up k ts p [] ++ (n ∷ [])
        → cond b ns (path_up k ts p (n ∷ ns)) ≡ cond b [] (path_up k ts p (n ∷ [])) ++ ns
    by true e f = refl
    by false e f = e ∙ sym (ap (λ (l : Names). l ++ ns) f ∙ append_assoc (path_up k ts p []) (n ∷ []) ns)

-- a step adds the slot's name behind its parent's text
text_step : (k : ℕ) (t : Octets) (i : ℕ) → (i ≡ 0 → ⊥) → text_to (suc k) t i
    ≡ text_to k t (node_at (table_of t) i).parent ++ (47 ∷ (node_at (table_of t) i).name)
unfolding text_to path_up slashed
text_step k t i n =
    rw (ne_eqb i 0 n)
    (ap slashed (up_append k (table_of t) (node_at (table_of t) i).parent ((node_at (table_of t) i).name ∷ []))
    ∙ slashed_append (path_up k (table_of t) (node_at (table_of t) i).parent []) ((node_at (table_of t) i).name ∷ [])
    ∙ rw append-nil refl)

root-text : (k : ℕ) (t : Octets) → text_to k t 0 ≡ []
unfolding text_to path_up slashed
root-text zero t = refl
root-text (suc k) t = refl

pub text_bound : (k : ℕ) (t : Octets) (i : ℕ) → length (text_to k t i) ≤ k * 33
unfolding text_to path_up slashed
text_bound zero t i = omega arith
text_bound (suc k) t zero = omega arith
text_bound (suc k) t (suc i) =
    let n = node_at (table_of t) (suc i) in
    let e : length (text_to (suc k) t (suc i)) ≡ length (text_to k t n.parent) + suc (length n.name) =
    ap length (text_step k t (suc i) (λ z. omega arith)) ∙ length-append (text_to k t n.parent) (47 ∷ n.name) in
    omega (arith, e, name-short t (suc i), text_bound k t n.parent)

-- ── the steps on the way ──

steps_step : (k : ℕ) (t : Octets) (i : ℕ) → (i ≡ 0 → ⊥) → steps_to (suc k) t i ≡ suc (steps_to k t (node_at (table_of t) i).parent)
unfolding steps_to path_up
steps_step k t i n =
    let p = (node_at (table_of t) i).parent in
    let ns = (node_at (table_of t) i).name ∷ [] in
    rw (ne_eqb i 0 n) (ap length (up_append k (table_of t) p ns) ∙ length-append (path_up k (table_of t) p []) ns ∙ omega arith)

root-steps : (k : ℕ) (t : Octets) → steps_to k t 0 ≡ 0
unfolding steps_to path_up
root-steps zero t = refl
root-steps (suc k) t = refl

pub steps_bound : (k : ℕ) (t : Octets) (i : ℕ) → steps_to k t i ≤ k
unfolding steps_to path_up
steps_bound zero t i = omega arith
steps_bound (suc k) t zero = omega arith
steps_bound (suc k) t (suc i) = omega (arith, steps_step k t (suc i) (λ z. omega arith), steps_bound k t (node_at (table_of t) (suc i)).parent)

-- ── whether the root is reached ──

-- a slot that is not the root reaches it by its parent
reaches_up : (k : ℕ) (ts : Table) (i : ℕ) (n : Node) → (i ≡ 0 → ⊥) → get_or ts i none ≡ some n → reaches_root (suc k) ts i
    ≡ reaches_root k ts (node_at ts i).parent
unfolding reaches_root
reaches_up k ts i n h e = rw (ne_eqb i 0 h, e, node-some ts i n e) refl

none_up : (k : ℕ) (ts : Table) (i : ℕ) → (i ≡ 0 → ⊥) → get_or ts i none ≡ none → reaches_root k ts i ≡ false
unfolding reaches_root
none_up zero ts i n e = ne_eqb i 0 n
none_up (suc k) ts i n e = rw (ne_eqb i 0 n, e) refl

no_steps : (ts : Table) (i : ℕ) → (i ≡ 0 → ⊥) → reaches_root 0 ts i ≡ false
unfolding reaches_root
no_steps ts i n = ne_eqb i 0 n

-- the way of slot i that n steps find is found in m steps too, and takes as many
abbrev Found : Octets → ℕ → ℕ → ℕ → Type 0
Found t n m i = (reaches_root m (table_of t) i ≡ true) × (steps_to m t i ≡ steps_to n t i)

root-found : (t : Octets) (n m : ℕ) → Found t n m 0
root-found t n m = (root_reaches m (table_of t) 0 refl, root-steps m t ∙ sym (root-steps n t))

-- as many steps as a way takes are enough to find it
steps-same : (n m : ℕ) (t : Octets) (i : ℕ) → reaches_root n (table_of t) i ≡ true → steps_to n t i ≤ m → Found t n m i
steps-same zero m t i r h = rw (reaches_zero (table_of t) i r) (root-found t 0 m)
steps-same (suc n) m t i r h = by m i r h (λ k p. steps-same n k t p)
  where
    by : (m i : ℕ) → reaches_root (suc n) (table_of t) i ≡ true → steps_to (suc n) t i ≤ m
        → ((k p : ℕ) → reaches_root n (table_of t) p ≡ true → steps_to n t p ≤ k → Found t n k p) → Found t (suc n) m i
    by m zero r h f = root-found t (suc n) m
    by zero (suc i) r h f = absurd (omega (arith, steps_step n t (suc i) (λ z. omega arith)))
    by (suc m) (suc i) r h f =
        let q : suc i ≡ 0 → ⊥ = λ z. omega arith in
        let p = (node_at (table_of t) (suc i)).parent in
        let x = reaches_node n (table_of t) (suc i) r q in
        let a : (k : ℕ) → reaches_root (suc k) (table_of t) (suc i) ≡ reaches_root k (table_of t) p = λ k. reaches_up k (table_of t) (suc i) x.0 q x.1 in
        let w = f m p (sym (a n) ∙ r) (omega (arith, steps_step n t (suc i) q)) in
        (a m ∙ w.0, steps_step m t (suc i) q ∙ ap suc w.1 ∙ sym (steps_step n t (suc i) q))

-- ── the walk ──

-- the root is reached in x steps, with a text of y bytes in the buffer
abbrev pub way : ℕ → ℕ → std.Option Way
way x y = Some (record { steps = x; length = y })

pub lost_case : {up : std.Option Way} (b : Bool) (x y : ℕ) → up ≡ cond b (way x y) None → up ≡ None → b ≡ false
lost_case true x y p q = let z : ◌≡◌ {A = ℕ} 0 1 = cc in absurd (omega arith)
lost_case false x y p q = refl

pub root_case : {up : std.Option Way} (b : Bool) (x y m at : ℕ) → up ≡ cond b (way x y) None → up ≡ way m at → (b ≡ true) × (m ≡ x) × (at ≡ y)
root_case true x y m at p q =
    let e : ◌≡◌ {A = Way} (record { steps = m; length = at }) (record { steps = x; length = y }) = cc in
    (refl, ap (λ (w : Way). w.steps) e, ap (λ (w : Way). w.length) e)
root_case false x y m at p q = let z : ◌≡◌ {A = ℕ} 0 1 = cc in absurd (omega arith)

unused_none : (x : Option Node) → is_used x ≡ false → x ≡ none
unused_none none e = refl
unused_none (some n) e = absurd (true≢false e)

none-taken : (ys into : Octets) → length into ≡ 0 → taken ys into ≡ []
unfolding taken
none-taken ys into e = rw (eq-eqb (length into) 0 e) refl

pub all-taken : (ys into : Octets) → (length into ≡ 0 → ⊥) → taken ys into ≡ ys
unfolding taken
all-taken ys into n = rw (ne_eqb (length into) 0 n) refl

nil_taken : (into : Octets) → taken [] into ≡ []
unfolding taken
nil_taken into = by (eqb (length into) 0)
  where
    by : (b : Bool) → ◌≡◌ {A = Octets} (cond b [] []) []
    by true = refl
    by false = refl

-- where every level is 0, nothing is known of any slot
pub none-known : (n j : ℕ) → get_or {A = ℕ} (replicate n 0) j 0 ≡ 0
none-known zero j = refl
none-known (suc n) zero = refl
none-known (suc n) (suc j) = none-known n j

-- slot i is used and not the root, k steps are left, and p is its parent
pub record Step (t : Octets) (k i p : ℕ) : Type 0 where
  pub below : 0 < i
  pub left : 0 < k
  pub used : is_used (slot_at t i) ≡ true
  pub parent : p ≡ (node_at (table_of t) i).parent

-- what a walk up is lent makes a step
pub step_up : {t known into : Octets} {k i p : ℕ} →
    (0 < i) × (i < slots) × (is_used (slot_at t i) ≡ true) × (0 < k) × (k ≤ deepest) × Lent t known into →
    p ≡ (node_at (table_of t) i).parent → Step t k i p
step_up h e = record { below = h.0; left = h.3; used = h.2; parent = e }

module _ (t into : Octets) where
  not_reached : (k i : ℕ) → reaches_root k (table_of t) i ≡ false → Walked k t i into into None
  not_reached k i e = record { found = rw e refl; left = rw e refl }

  -- the root is reached, and nothing is put
  bare : (k i m : ℕ) → reaches_root k (table_of t) i ≡ true → steps_to k t i ≡ m → taken (text_to k t i) into ≡ [] → Walked k t i into into (way m 0)
  bare k i m r s e = record { found = rw (r, s, e) refl; left = rw (r, e) (sym (paste_nil 0 into)) }

  pub walked_root : (k i : ℕ) → i ≡ 0 → Walked k t i into into (way 0 0)
  walked_root k i e = rw e (bare k 0 0 (root_reaches k (table_of t) 0 refl) (root-steps k t) (rw (root-text k t) (nil_taken into)))

  pub walked_none : (k i : ℕ) → (i ≡ 0 → ⊥) → k ≡ 0 → Walked k t i into into None
  walked_none k i n e = not_reached k i (rw e (no_steps (table_of t) i n))

  pub walked_unused : (k i : ℕ) → (i ≡ 0 → ⊥) → is_used (slot_at t i) ≡ false → Walked k t i into into None
  walked_unused k i n u = not_reached k i (none_up k (table_of t) i n (unused_none (slot_at t i) u))

  module _ (k i p : ℕ) (g : Step t k i p) where
    not_root : i ≡ 0 → ⊥
    not_root e = omega (arith, e, g.below)

    one_more : k ≡ suc (k - 1)
    one_more = omega (arith, g.left)

    reaches : reaches_root k (table_of t) i ≡ reaches_root (k - 1) (table_of t) p
    reaches =
        let x = used-some (slot_at t i) g.used in
        ap (λ (m : ℕ). reaches_root m (table_of t) i) one_more ∙ reaches_up (k - 1) (table_of t) i x.0 not_root x.1
        ∙ ap (reaches_root (k - 1) (table_of t)) (sym g.parent)

    steps : steps_to k t i ≡ suc (steps_to (k - 1) t p)
    steps = ap (λ (m : ℕ). steps_to m t i) one_more ∙ steps_step (k - 1) t i not_root ∙ ap (λ (q : ℕ). suc (steps_to (k - 1) t q)) (sym g.parent)

    text : text_to k t i ≡ text_to (k - 1) t p ++ (47 ∷ (node_at (table_of t) i).name)
    text = ap (λ (m : ℕ). text_to m t i) one_more ∙ text_step (k - 1) t i not_root
        ∙ ap (λ (q : ℕ). text_to (k - 1) t q ++ (47 ∷ (node_at (table_of t) i).name)) (sym g.parent)

    -- the parent's way is known
    module _ (b : k ≤ deepest) (known : Octets) (o : Lent t known into) (z : get_or known p 0 ≡ 0 → ⊥) where
      pub walked_far : k < get_or known p 0 → Walked k t i into into None
      walked_far h = not_reached k i (reaches ∙ by (reaches_root (k - 1) (table_of t) p) refl)
        where
          by : (r : Bool) → reaches_root (k - 1) (table_of t) p ≡ r → r ≡ false
          by false q = refl
          by true q = absurd (omega (
            arith,
            b,
            h,
            (o.levels p z).1,
            steps_bound (k - 1) t p,
            (steps-same (k - 1) 8 t p q (omega (arith, b, steps_bound (k - 1) t p))).1,
          ))

      pub walked_near : get_or known p 0 ≤ k → Walked k t i into into (way (get_or known p 0) 0)
      walked_near h =
          let l = o.levels p z in
          let w = steps-same 8 (k - 1) t p l.0 (omega (arith, h, l.1)) in
          bare k i (get_or known p 0) (reaches ∙ w.0) (steps ∙ omega (arith, l.1, w.1)) (none-taken (text_to k t i) into (by (ℕ_discrete (length into) 0)))
        where
          by : Dec (length into ≡ 0) → length into ≡ 0
          by (yes e) = e
          by (no n) = absurd (z (o.alone n p))

    -- the parent's way is walked
    module _ (mid : Octets) (up : std.Option Way) (w : Walked (k - 1) t p into mid up) where
      pub walked_lost : up ≡ None → Walked k t i into mid None
      walked_lost l =
          let b = lost_case (reaches_root (k - 1) (table_of t) p) _ _ w.found l in
          record { found = rw (reaches, b) refl; left = rw (reaches, b) (w.left ∙ rw b refl) }

      module _ (m at : ℕ) (l : up ≡ way m at) where
        reached : (reaches_root (k - 1) (table_of t) p ≡ true) × (m ≡ steps_to (k - 1) t p) × (at ≡ length (taken (text_to (k - 1) t p) into))
        reached = root_case (reaches_root (k - 1) (table_of t) p) _ _ m at w.found l

        here : mid ≡ paste 0 (taken (text_to (k - 1) t p) into) into
        here = w.left ∙ rw reached.0 refl

        count : m + 1 ≡ steps_to k t i
        count = omega (arith, steps, reached.1)

        pub walked_count : m < k
        walked_count = omega (arith, count, steps_bound k t i)

        pub walked_bare : length into ≡ 0 → Walked k t i into mid (way (m + 1) 0)
        walked_bare o =
            let same : mid ≡ into = here ∙ rw (none-taken (text_to (k - 1) t p) into o) (paste_nil 0 into) in
            rw same (bare k i (m + 1) (reaches ∙ reached.0) (sym count) (none-taken (text_to k t i) into o))

        module _ (o : length into ≡ 0 → ⊥) where
          place : at ≡ length (text_to (k - 1) t p)
          place = reached.2 ∙ ap length (all-taken (text_to (k - 1) t p) into o)

          -- a slash and the name have room behind the parent's text
          pub walked_place : k ≤ deepest → at + 1 + longest_name ≤ longest_path
          walked_place b = omega (arith, b, g.left, place, text_bound (k - 1) t p)

          pub walked_up : length mid ≡ length into → at < length into → (s : Octets) → s ≡ (node_at (table_of t) i).name → (after : Octets) →
              after ≡ paste (at + 1) s (set mid at 47)
              → Walked k t i into after (way (m + 1) (at + 1 + length s))
          walked_up len h s f after q =
              let name = (node_at (table_of t) i).name in
              let before = text_to (k - 1) t p in
              let long : at + 1 + length s ≡ length (before ++ (47 ∷ name)) = omega (arith, ap length f, place, length-append before (47 ∷ name)) in
              let whole : taken (text_to k t i) into ≡ before ++ (47 ∷ name) = all-taken (text_to k t i) into o ∙ text in
              let put : mid ≡ paste 0 before into = here ∙ rw (all-taken before into o) refl in
              let named : after ≡ paste at (47 ∷ name) mid = q ∙ rw (set-paste mid at 47 (omega (arith, len)), f)
              (paste-behind at (at + 1) (47 ∷ []) name mid (omega (arith, len)) refl) in
              let behind : after ≡ paste (length before) (47 ∷ name) (paste 0 before into) = named ∙ rw (place, put) refl in
              record {
                found = rw (reaches, reached.0, whole) (ap (λ (x : ℕ). way x (at + 1 + length s)) count ∙ ap (way (steps_to k t i)) long);
                left = rw (reaches, reached.0, whole) (behind ∙ paste-behind 0 (length before) before (47 ∷ name) into (omega arith) (omega arith));
              }
