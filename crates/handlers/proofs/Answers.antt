-- What a node request's answer leaves: a sound table, a path within the sizes, and `OK` where it changed something.
use mathlib.Core.Path.{◌≡◌, refl, sym, ap, subst, ◌∙◌}
use mathlib.Core.Bool.{Bool, true, false, cond}
use mathlib.Core.List.{[], ◌∷◌}
use mathlib.Core.Option.{none, some, none-ne-some}
use Prim.Native.Nat.{ℕ, suc, ◌-◌, ◌≤◌, ◌<◌}
use native.Mathlib.Omega.{arith}
use lib.Dec.{leb}
use lib.ListN.{length, take}
use Rattle.rules.specs.Size.{longest_value, longest_path, most_entries, deepest, reply_size, table_size}
use Rattle.rules.specs.Octets.{Octets}
use Rattle.rules.specs.Domain.{Domain}
use Rattle.rules.specs.Path.{Names, names_in, path_text}
use Rattle.rules.specs.Node.{Table, Reached, node_at, reach}
use Rattle.rules.specs.Rights.{may_write, readable}
use Rattle.rules.specs.Payload as P
use Rattle.rules.specs.Answer.{Reply, OK, Change, Answer, unchanged, changed, room, created, looked, written}
use Rattle.rules.specs.Answer.{directory_made, taken, may_set, permitted, answered}
use Rattle.rules.specs.Answer.{answer}
use Rattle.rules.specs.Layout.{table_of, table_bytes}
use Rattle.rules.specs.Sound.{good_change, sound_table}
use Rattle.rules.proofs.Cases.{cond_case}
use Rattle.rules.proofs.Slots.{table-read}
use Rattle.rules.proofs.PathLaws.{full, fits-length}
use Rattle.rules.proofs.Changes.{GoodParts, good-parts, parents-few}
use Rattle.rules.proofs.Absent.{unread}
use Rattle.rules.proofs.GoodAnswers.{change-good, parents-absent}
use Rattle.rules.proofs.GoodRequests.{AskedGood}
use Rattle.rules.proofs.SoundWorld.{TableSound, asked-sound, table_encoded, table_decoded}
use Rattle.transactions.specs.Transaction.{change_given}
use Rattle.nodes.specs.Answers.{Ready, change_of, effect_meant, told}
use Rattle.nodes.specs.Answers as nodes
use Rattle.nodes.specs.declared.kinds.Effect.{Effect}
use Rattle.nodes.specs.declared.kinds.Effect.TheVariants.{Nothing, Wrote, Removed}
use Rattle.nodes.specs.declared.kinds.Given.{Given}
use Rattle.replies.specs.Handled.{Outcome, with_events}
use Rattle.replies.specs.declared.kinds.Errno.{Errno}
use Rattle.std.specs.Prelude.{Ok, Err}
use Rattle.payload.proofs.Kept.{ask-good, ask-fits}
use Rattle.payload.specs.Meaning.{ask_meant, AskSound}
use Rattle.payload.specs.declared.answer.Ask.{Ask}
use Rattle.handlers.specs.Asking.{Asking}

-- ── a change is told by `OK`, and without one the table stays ──

-- whether a change that a request makes is a removal
abbrev pub Removes : P.Ask → Bool → Type 0
Removes P.directory b = ⊥
Removes P.read b = ⊥
Removes P.get_perms b = ⊥
Removes (P.write v) b = b ≡ false
Removes P.mkdir b = b ≡ false
Removes P.rm b = b ≡ true
Removes (P.set_perms o es) b = b ≡ false

module _ (d : Domain) (ns : Names) (t : Table) where
  abbrev Okay : (Bool → Type 0) → Answer → Type 0
  Okay K a = ((c : Change) → a.change ≡ some c → (a.reply ≡ OK) × K c.removal) × (a.change ≡ none → a.table ≡ t)

  module _ (K : Bool → Type 0) where
    still : (r : Reply) → Okay K (unchanged d ns t r)
    unfolding unchanged
    still r = (λ c e. absurd (none-ne-some c e), λ e. refl)

    done : (removal : Bool) → K removal → (parents : ℕ) (after : Table) → Okay K (changed d ns t removal parents after)
    unfolding changed
    done removal k parents after = (λ c e. (refl, subst K (let q : removal ≡ c.removal = cc in q) k), λ e. absurd (none-ne-some _ (sym e)))

    either : (b : Bool) (x y : Answer) → Okay K x → Okay K y → Okay K (cond b x y)
    either = cond_case (Okay K)

    created_okay : K false → (r : Reached) (v : Octets) → Okay K (created d ns t r v)
    unfolding created
    created_okay k r v = either (may_write d (node_at t r.slot)) _ _ (either (room d ns t r.left v) _ _ (done false k _ _) (still _)) (still _)

  answered_okay : (a : P.Ask) (l : Names) (i : ℕ) → Okay (Removes a) (answered d ns t a (record { slot = i; left = l }))
  unfolding answered looked written directory_made taken permitted
  answered_okay P.directory [] i = still _ _
  answered_okay P.directory (n ∷ l) i = still _ _
  answered_okay P.read [] i = still _ _
  answered_okay P.read (n ∷ l) i = still _ _
  answered_okay P.get_perms [] i = still _ _
  answered_okay P.get_perms (n ∷ l) i = still _ _
  answered_okay (P.write v) [] i =
      either _ (may_write d (node_at t i)) _ _ (either _ (leb (length v) longest_value) _ _ (done _ false refl 0 _) (still _ _)) (still _ _)
  answered_okay (P.write v) (n ∷ l) i = created_okay _ refl _ v
  answered_okay P.mkdir [] i = still _ _
  answered_okay P.mkdir (n ∷ l) i = created_okay _ refl _ []
  answered_okay P.rm [] i = either _ (may_write d (node_at t i)) _ _ (done _ true refl 0 _) (still _ _)
  answered_okay P.rm (n ∷ l) i = still _ _
  answered_okay (P.set_perms o es) [] i =
      either _ (may_set d ns t (node_at t i) o) _ _ (either _ (leb (suc (length es)) most_entries) _ _ (done _ false refl 0 _) (still _ _)) (still _ _)
  answered_okay (P.set_perms o es) (n ∷ l) i = still _ _

  module _ (a : P.Ask) where
    pub change_okay : (c : Change) → (answer d a ns t).change ≡ some c → (answer d a ns t).reply ≡ OK
    unfolding answer
    change_okay c e = ((answered_okay a (reach t ns).left (reach t ns).slot).0 c e).0

    pub change_removes : (c : Change) → (answer d a ns t).change ≡ some c → Removes a c.removal
    unfolding answer
    change_removes c e = ((answered_okay a (reach t ns).left (reach t ns).slot).0 c e).1

    pub table_still : (answer d a ns t).change ≡ none → (answer d a ns t).table ≡ t
    unfolding answer
    table_still e = (answered_okay a (reach t ns).left (reach t ns).slot).1 e

-- ── the change of an answer ──

-- an answer makes this change of the path, or none
abbrev pub Makes : nodes.Answer → Octets → Bool → ℕ → Type 0
Makes r path removed parents = change_of r (names_in path) ≡ some (change_given removed parents path)

abbrev pub Still : nodes.Answer → Octets → Type 0
Still r path = change_of r (names_in path) ≡ none

module _ (path : Octets) (r : nodes.Answer) where
  pub refused-still : (e : Errno) → r ≡ Err e → Still r path
  refused-still e h = ap (λ (y : nodes.Answer). change_of y (names_in path)) h

  module _ (g : Given) (h : r ≡ Ok g) where
    does : (x : Effect) → g.effect ≡ x → change_of r (names_in path) ≡ effect_meant x (names_in path)
    does x e = ap (λ (y : nodes.Answer). change_of y (names_in path)) h ∙ ap (λ (y : Effect). effect_meant y (names_in path)) e

    pub nothing-still : g.effect ≡ Nothing → Still r path
    nothing-still e = does Nothing e

    pub wrote_makes : (parents : ℕ) → g.effect ≡ Wrote parents → Makes r path false parents
    unfolding change_given
    wrote_makes parents e = does (Wrote parents) e

    pub removed_makes : g.effect ≡ Removed → Makes r path true 0
    unfolding change_given
    removed_makes e = does Removed e

-- what an answer tells, as the outcome
pub given_told : (r : nodes.Answer) (g : Given) (n : ℕ) (o : Outcome) → r ≡ Ok g → o ≡ with_events (Ok g.length) n → o ≡ with_events (told r) n
given_told r g n o h p = rw h p

pub refused_told : (r : nodes.Answer) (e : Errno) (o : Outcome) → r ≡ Err e → o ≡ Err e → o ≡ with_events (told r) 0
refused_told r e o h p = rw h p

-- ── a request in its bounds ──

module _ {d : Domain} {ask : Ask} {path s : Octets} (k : Asking d ask path s) where
  abbrev pub request : P.Ask
  request = ask_meant s ask

  good : AskedGood request (names_in path)
  good = record { names = (full path k.full).names; proper = k.proper; entries = ask-good s ask k.sound; fits = ask-fits s ask k.sound }

  module _ (t : Octets) (h : sound_table t ≡ true) where
    -- what its answer wants
    pub ready : (reply : Octets) → length reply ≡ reply_size → Ready t path reply d × AskSound s ask
    ready reply l = (record { standing = record { sound = h; full = k.full }; long = l; domain = omega (arith, k.domain) }, k.sound)

    -- the table that its answer leaves
    after : TableSound (answer d request (names_in path) (table_of t)).table
    after = asked-sound d request (names_in path) (table_of t) k.domain good (table_decoded t h)

    module _ (t' : Octets) (e : t' ≡ table_bytes (answer d request (names_in path) (table_of t)).table) where
      pub left-sound : (sound_table t' ≡ true) × (length t' ≡ table_size)
      left-sound = rw e (table_encoded _ after)

      -- read back from its bytes
      pub left_back : table_of t' ≡ (answer d request (names_in path) (table_of t)).table
      left_back = ap table_of e ∙ table-read _ after.fitting.long after.fitting.all

    module _ (c : Change) (e : (answer d request (names_in path) (table_of t)).change ≡ some c) where
      named : (c.names ≡ names_in path) × (good_change c ≡ true)
      named =
          let b = table_decoded t h in
          change-good d request (names_in path) (table_of t) b.good b.fitting (full path k.full).names k.proper c e

      parts : GoodParts c
      parts = good-parts c named.1

      -- the path of its change
      pub path-short : length path ≤ longest_path
      path-short =
          subst (λ (x : Octets). length x ≤ longest_path) (ap path_text named.0 ∙ sym (full path k.full).text) (fits-length c.names parts.fitting)

      -- the parents that it created
      pub parents_above : c.parents ≤ length (names_in path) - 1
      parents_above = subst (λ (ns : Names). c.parents ≤ length ns - 1) named.0 parts.above

      pub parents_small : c.parents < deepest
      parents_small = parents-few c parts

      pub parents_new : (j : ℕ) → 1 ≤ j → j ≤ c.parents → (x : Domain) →
          readable (table_of t) x (take (length (names_in path) - j) (names_in path)) ≡ false
      parents_new j l m x =
          let b = table_decoded t h in
          let few = parents-absent d request (names_in path) (table_of t) b.good b.fitting (full path k.full).names k.proper c e in
          unread (table_of t) (names_in path) j (omega (arith, few)) x

      pub removal-alone : c.removal ≡ true → c.parents ≡ 0
      removal-alone r = (parts.removed r).0
