-- The ways out of a request: what it answers where the tests came out so.
use mathlib.Core.Path.{◌≡◌, refl, sym, ap, ap₂, ◌∙◌}
use mathlib.Core.Bool.{Bool, true, false}
use mathlib.Core.List.{[], ◌∷◌}
use mathlib.Core.Option.{some}
use Prim.Native.Nat.{ℕ, ◌-◌, ◌≤◌, ◌<◌}
use native.Mathlib.Omega.{arith}
use lib.ListN.{length, take, drop, length-drop}
use lib.Seq.{take_all}
use Rattle.rules.specs.Size.{header_size}
use Rattle.rules.specs.Octets.{Octets, paste}
use Rattle.rules.specs.Path.{Domain, Name, Names, names_in}
use Rattle.rules.specs.Node.{Table, Reached, node_at, reach}
use Rattle.rules.specs.Rights.{may_read}
use Rattle.rules.specs.Payload as P
use Rattle.rules.specs.Answer as A
use Rattle.rules.specs.Answer.{done, refused, OK, unchanged, changed, looked, absent, EACCES, ENOENT}
use Rattle.rules.specs.Layout.{table_of, table_bytes}
use Rattle.slots.specs.Slot.{Canonical}
use Rattle.slots.specs.Left.{left_at}
use Rattle.lookup.specs.Reach.{Reaches}
use Rattle.lookup.specs.Rights.{Asked}
use Rattle.paths.specs.Names.{first_piece, other_pieces}
use Rattle.rules.specs.Sound.{sound_table}
use Rattle.lookup.proofs.ReachLaws.{left-first}
use Rattle.slots.proofs.LeftLaws.{left_over}
use Rattle.replies.specs.Framed.{Told}
use Rattle.payload.specs.Meaning.{ask_meant}
use Rattle.payload.specs.declared.answer.Ask.{Ask}
use Rattle.payload.specs.declared.answer.Ask.TheVariants.{Write}
use Rattle.nodes.specs.Answers.{effect_meant, Answer, Answers, Answered}
use Rattle.replies.specs.Meant.{errno_meant}
use Rattle.replies.specs.declared.kinds.Errno.{Errno}
use Rattle.std.specs.Prelude.{Ok, Err}
use Rattle.nodes.specs.declared.kinds.Effect.{Effect}
use Rattle.nodes.specs.declared.kinds.Effect.TheVariants.{Nothing}
use Rattle.nodes.specs.declared.kinds.Given.{Given}

-- ── answers that change nothing ──

module _ (d : Domain) (ns : Names) (t : Octets) (k : Canonical t) (a : A.Answer) (before : Octets) where
  pub refused_so : (e : Errno) → a ≡ unchanged d ns (table_of t) (refused (errno_meant e)) → Answers ns a t before before (Err e)
  unfolding unchanged
  refused_so e h = rw h (record { table = sym k.kept; change = refl; reply = (refl, refl) })

  pub given_so : (s after : Octets) (n : ℕ) (g : Given) → g ≡ record { length = n; effect = Nothing } →
      a ≡ unchanged d ns (table_of t) (done s) → n ≡ length s → after ≡ paste header_size s before → Answers ns a t before after (Ok g)
  unfolding unchanged
  given_so s after n g q h l p = rw (q, h) (record { table = sym k.kept; change = refl; reply = (ap Ok l, p) })

  pub okay_so : (after : Octets) (g : Given) → (g.effect ≡ Nothing) × Told OK (Ok g.length) before after →
      a ≡ unchanged d ns (table_of t) OK → Answers ns a t before after (Ok g)
  unfolding unchanged
  okay_so after g q h = rw h (record { table = sym k.kept; change = ap (λ (e : Effect). effect_meant e ns) q.0; reply = q.1 })

-- ── a change ──

pub changed_so : (d : Domain) (ns : Names) (ts : Table) (a : A.Answer) (before : Octets) (removal : Bool) (parents : ℕ) (ts' : Table) (t' after : Octets)
    (e : Effect) (g : Given) → (g.effect ≡ e) × Told OK (Ok g.length) before after →
    effect_meant e ns ≡ some (record { removal = removal; parents = parents; names = ns }) → a ≡ changed d ns ts removal parents ts' →
    t' ≡ table_bytes ts' → Answers ns a t' before after (Ok g)
unfolding changed
changed_so d ns ts a before removal parents ts' t' after e g q m h b =
    rw h (record { table = b; change = ap (λ (x : Effect). effect_meant x ns) q.0 ∙ m; reply = q.1 })

-- ── where a path leads ──

module _ (t p : Octets) (i at : ℕ) (r : Reaches t p i at) where
  pub reached : reach (table_of t) (names_in p) ≡ record { slot = i; left = left_at p at }
  reached = ap₂ (λ (j : ℕ) (l : Names). record { slot = j; left = l }) (sym r.there) (sym r.left)

  -- the path is there, or names of it are left
  pub whole : length p ≤ at → reach (table_of t) (names_in p) ≡ record { slot = i; left = [] }
  whole h = reached ∙ ap (λ (l : Names). record { slot = i; left = l }) (left_over p at h)

  pub short : at < length p →
      reach (table_of t) (names_in p) ≡ record { slot = i; left = first_piece (drop at p) ∷ other_pieces (drop at p) }
  short h = reached ∙ ap (λ (l : Names). record { slot = i; left = l }) (left-first p at h)

  pub asked : sound_table t ≡ true → Asked t i
  asked s = record { below = r.below; sound = s; used = r.used }

-- ── reading ──

module _ (d : Domain) (ns : Names) (t : Table) (i : ℕ) where
  pub known-absent : may_read d (node_at t i) ≡ true → ENOENT ≡ absent d ns t i
  unfolding absent
  known-absent m = rw m

  pub hidden_absent : may_read d (node_at t i) ≡ false → EACCES ≡ absent d ns t i
  unfolding absent
  hidden_absent m = rw m

  module _ (r : Reached) (give : ℕ → A.Reply) where
    pub looked-there : r ≡ record { slot = i; left = [] } → may_read d (node_at t i) ≡ true →
        looked d ns t r give ≡ unchanged d ns t (give i)
    unfolding looked
    looked-there e m = rw (e, m)

    pub looked_hidden : r ≡ record { slot = i; left = [] } → may_read d (node_at t i) ≡ false →
        looked d ns t r give ≡ unchanged d ns t (refused EACCES)
    unfolding looked
    looked_hidden e m = rw (e, m)

    pub looked-short : (n : Name) (l : Names) → r ≡ record { slot = i; left = n ∷ l } → (x : A.Errno) → x ≡ absent d ns t i →
        looked d ns t r give ≡ unchanged d ns t (refused x)
    unfolding looked
    looked-short n l e x q = rw (e, q)

-- ── whatever is asked ──

module _ (d : Domain) (s p t t' before after : Octets) (r : Answer) (ask : Ask) where
  pub answered_as : (kind : Ask) → ask ≡ kind → Answered d (ask_meant s kind) p t t' before after r → Answered d (ask_meant s ask) p t t' before after r
  answered_as kind e h = rw e h

  -- the value is the rest of the payload
  pub written_as : (from : ℕ) → ask ≡ Write from → Answered d (P.write (take (length s - from) (drop from s))) p t t' before after r →
      Answered d (ask_meant s ask) p t t' before after r
  written_as from e h = answered_as (Write from) e (rw (← take_all (length s - from) (drop from s) (rw length-drop (omega arith))) h)
