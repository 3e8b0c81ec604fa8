-- What is kept of a request is answered as the whole request is, and what is asked of a node has good entries.
use mathlib.Core.Path.{◌≡◌, refl, ap, ◌∙◌}
use mathlib.Core.Bool.{Bool, true, false, cond, and-eq-true_iff}
use mathlib.Core.List.{List, [], ◌∷◌}
use mathlib.Core.Option.{none, some}
use Prim.Native.Nat.{ℕ, zero, suc, ◌-◌, ◌≤◌, ◌<◌}
use native.Mathlib.Omega.{arith}
use lib.Dec.{eqb, leb}
use lib.ListN.{length, take, replicate, length-append, length-replicate, length-take}
use borrow.Author.Tests.{leb-true, le-leb}
use Rattle.rules.specs.Size.{last_domain, most_entries}
use Rattle.rules.specs.Octets.{Octets}
use Rattle.rules.specs.Path.{Domain, Connection, domain_of, Names}
use Rattle.rules.specs.Node as nodes
use Rattle.rules.specs.Node.{Table, node_at, reach, with_entries}
use Rattle.rules.specs.Payload as rules
use Rattle.rules.specs.Payload.{Parsed, unknown, invalid, request}
use Rattle.rules.specs.Answer.{EACCES, ENOENT, ENOSPC, refused, Answer, unchanged, changed, may_set, permitted, answered, answer}
use Rattle.rules.specs.Sound.{good_entries}
use Rattle.rules.specs.World as world
use Rattle.rules.specs.World.{World, Outcome, left, transaction_of, copy_of, handle}
use Rattle.rules.specs.Call.{outcome_of}
use Rattle.rules.proofs.Tables.{Each, each_append}
use Rattle.rules.proofs.Slots.{EntryFits}
use Rattle.rules.proofs.Fitting.{AskFits, take_each}
use Rattle.rules.proofs.GoodAnswers.{AskGood}
use Rattle.payload.specs.Meaning.{entry_meant, kept_at, blank, others_meant, first_others, ask_meant, kept, request_kept, ask_kept, EntrySound, EntriesSound}
use Rattle.payload.specs.Meaning.{AskSound}
use Rattle.payload.specs.declared.answer.Entry.{Entry}
use Rattle.payload.specs.declared.answer.Entries.{Entries}
use Rattle.payload.specs.declared.answer.Ask.{Ask}
use Rattle.payload.specs.declared.answer.Ask.TheVariants as ask

-- ── numbers of entries ──

length-first : (es : List nodes.Entry) → length (first_others es) ≡ length es
unfolding first_others
length-first [] = refl
length-first (a ∷ []) = refl
length-first (a ∷ b ∷ []) = refl
length-first (a ∷ b ∷ c ∷ es) =
    let r = length-replicate (suc (suc (suc (length es))) - 3) blank in
    omega arith

first-few : (es : List nodes.Entry) → suc (length es) ≤ most_entries → first_others es ≡ es
unfolding first_others
first-few [] h = refl
first-few (a ∷ []) h = refl
first-few (a ∷ b ∷ []) h = refl
first-few (a ∷ b ∷ c ∷ []) h = refl
first-few (a ∷ b ∷ c ∷ d ∷ es) h = absurd (omega arith)

-- the entries that a SET_PERMS means are as many as were counted
pub length-others : (k : Entries) → 1 ≤ k.count → suc (length (others_meant k)) ≡ k.count
unfolding others_meant
length-others k h =
    let xs : List nodes.Entry = entry_meant (kept_at k 1) ∷ entry_meant (kept_at k 2) ∷ entry_meant (kept_at k 3) ∷ [] in
    let a = length-append (take (k.count - 1) xs) (replicate (k.count - 4) blank) in
    let t = length-take (k.count - 1) xs in
    let r = length-replicate (k.count - 4) blank in
    omega arith

-- ── what is kept is answered alike ──

module _ (d : Domain) (ns : Names) (t : Table) where
  -- entries are put on a slot if they are few, and refused by their number else
  putting : ℕ → nodes.Entry → List nodes.Entry → Answer
  putting i o es = cond (leb (suc (length es)) most_entries) (changed d ns t false 0 (with_entries t i o es)) (unchanged d ns t (refused ENOSPC))

  put_kept : (i : ℕ) (o : nodes.Entry) (es : List nodes.Entry) → putting i o (first_others es) ≡ putting i o es
  unfolding putting
  put_kept i o es = rw (length-first es) (by (leb (suc (length es)) most_entries) refl)
    where
      by : (b : Bool) → leb (suc (length es)) most_entries ≡ b →
          cond b (changed d ns t false 0 (with_entries t i o (first_others es))) (unchanged d ns t (refused ENOSPC))
          ≡ cond b (changed d ns t false 0 (with_entries t i o es)) (unchanged d ns t (refused ENOSPC))
      by true h = ap (λ (l : List nodes.Entry). changed d ns t false 0 (with_entries t i o l)) (first-few es (leb-true _ _ h))
      by false h = refl

  permitted-kept : (o : nodes.Entry) (es : List nodes.Entry) (l : Names) (i : ℕ) →
      permitted d ns t o (first_others es) (record { slot = i; left = l }) ≡ permitted d ns t o es (record { slot = i; left = l })
  unfolding permitted putting
  permitted-kept o es [] i =
      ap (λ (a : Answer). cond (may_set d ns t (node_at t i) o) a (unchanged d ns t (refused EACCES))) (put_kept i o es)
  permitted-kept o es (n ∷ l) i = refl

pub kept-answer : (d : Domain) (a : rules.Ask) (ns : Names) (t : Table) → answer d (ask_kept a) ns t ≡ answer d a ns t
unfolding answer answered ask_kept
kept-answer d rules.directory ns t = refl
kept-answer d rules.read ns t = refl
kept-answer d rules.get_perms ns t = refl
kept-answer d (rules.write v) ns t = refl
kept-answer d rules.mkdir ns t = refl
kept-answer d rules.rm ns t = refl
kept-answer d (rules.set_perms o es) ns t = permitted-kept d ns t o es (reach t ns).left (reach t ns).slot

module _ (w : World) (c : Connection) (tx : ℕ) where
  -- by the answers on the main table and on the copy of the transaction that is named
  abbrev asked_by : Answer → Answer → Outcome
  asked_by x y =
      cond (eqb tx 0) (world.on_store w x)
      (elim (transaction_of w c tx) [ none ↦ left w (refused ENOENT) | some k ↦ world.in_transaction w (tx - 1) k y ])

  kept-asked : (a : rules.Ask) (ns : Names) → world.asked w c tx (ask_kept a) ns ≡ world.asked w c tx a ns
  unfolding world.asked
  kept-asked a ns =
      let d = domain_of c in
      let copy = copy_of w (tx - 1) in
      ap (λ (x : Answer). asked_by x (answer d (ask_kept a) ns copy)) (kept-answer d a ns w.nodes)
      ∙ ap (asked_by (answer d a ns w.nodes)) (kept-answer d a ns copy)

  -- a request has the outcome of what is kept of it
  pub kept-outcome : (p : Parsed) → outcome_of w c tx (kept p) ≡ outcome_of w c tx p
  unfolding outcome_of handle kept request_kept
  kept-outcome unknown = refl
  kept-outcome invalid = refl
  kept-outcome (request (rules.ask a ns)) = kept-asked a ns
  kept-outcome (request (rules.watch p t k)) = refl
  kept-outcome (request (rules.unwatch p t)) = refl
  kept-outcome (request rules.start) = refl
  kept-outcome (request (rules.end b)) = refl
  kept-outcome (request (rules.introduce i p k)) = refl
  kept-outcome (request (rules.release i)) = refl
  kept-outcome (request (rules.domain_path i)) = refl
  kept-outcome (request (rules.is_introduced i)) = refl
  kept-outcome (request rules.reset) = refl

-- ── what is asked of a node ──

-- an entry within its bounds
abbrev Bounded : nodes.Entry → Type 0
Bounded e = (e.access < 4) × (e.domain ≤ last_domain)

bounded : (e : Entry) → EntrySound e → Bounded (entry_meant e)
bounded e h = (h.access, h.domain)

each_blank : (n : ℕ) → Each Bounded (replicate n blank)
each_blank zero = tt
each_blank (suc n) = ((omega arith, omega arith), each_blank n)

each_other : (k : Entries) → EntriesSound k → Each Bounded (others_meant k)
unfolding others_meant
each_other k h =
    each_append Bounded (take (k.count - 1) (entry_meant (kept_at k 1) ∷ entry_meant (kept_at k 2) ∷ entry_meant (kept_at k 3) ∷ []))
    (replicate (k.count - most_entries) blank)
    (take_each Bounded (k.count - 1) _ (bounded _ (h.each 1), (bounded _ (h.each 2), (bounded _ (h.each 3), tt))))
    (each_blank (k.count - most_entries))

bounded_good : (es : List nodes.Entry) → Each Bounded es → good_entries es ≡ true
unfolding good_entries
bounded_good [] h = refl
bounded_good (e ∷ es) h =
    (and-eq-true_iff (leb e.domain last_domain) (good_entries es)).1 (le-leb e.domain last_domain h.0.1, bounded_good es h.1)

bounded_fits : (es : List nodes.Entry) → Each Bounded es → Each EntryFits es
bounded_fits [] h = tt
bounded_fits (e ∷ es) h = (record { access = h.0.0; domain = omega (arith, h.0.1) }, bounded_fits es h.1)

-- the entries that are asked for name domains
pub ask-good : (s : Octets) (a : Ask) → AskSound s a → AskGood (ask_meant s a)
ask-good s ask.Directory h = tt
ask-good s ask.Read h = tt
ask-good s ask.GetPerms h = tt
ask-good s (ask.Write from) h = tt
ask-good s ask.Mkdir h = tt
ask-good s ask.Rm h = tt
ask-good s (ask.SetPerms es) h = bounded_good (entry_meant (kept_at es 0) ∷ others_meant es) (bounded _ (h.each 0), each_other es h)

-- the entries that are asked for fit their fields
pub ask-fits : (s : Octets) (a : Ask) → AskSound s a → AskFits (ask_meant s a)
ask-fits s ask.Directory h = tt
ask-fits s ask.Read h = tt
ask-fits s ask.GetPerms h = tt
ask-fits s (ask.Write from) h = tt
ask-fits s ask.Mkdir h = tt
ask-fits s ask.Rm h = tt
ask-fits s (ask.SetPerms es) h =
    let f = bounded_fits (entry_meant (kept_at es 0) ∷ others_meant es) (bounded _ (h.each 0), each_other es h) in
    (f.0, f.1)
