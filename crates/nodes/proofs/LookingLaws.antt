-- READ, DIRECTORY and GET_PERMS: what they give of the slot that they see.
use mathlib.Core.Path.{◌≡◌, refl, ap, subst, ◌∙◌}
use mathlib.Core.List.{List}
use Prim.Native.Nat.{ℕ, ◌≤◌, ◌<◌}
use lib.ListN.{length}
use borrow.Author.Tests.{le-leb, lt-leb}
use Rattle.rules.specs.Size.{header_size, longest_payload}
use Rattle.rules.specs.Octets.{Octets, paste}
use Rattle.rules.specs.Path.{Domain, names_in}
use Rattle.rules.specs.Node.{Table, node_at, children}
use Rattle.rules.specs.Payload as P
use Rattle.rules.specs.Answer as A
use Rattle.rules.specs.Answer.{done, refused, E2BIG, listed, listing, name_list, permissions, answer, answered}
use Rattle.rules.specs.Layout.{table_of}
use Rattle.slots.proofs.Canonical.{sound_canonical}
use Rattle.lookup.specs.Rights.{Asked}
use Rattle.nodes.specs.Answers.{Standing, Answered}
use Rattle.replies.specs.Meant.{errno_meant}
use Rattle.nodes.specs.Sights.{looked_at, Sees}
use Rattle.replies.specs.declared.kinds.Errno.{Errno}
use Rattle.std.specs.Prelude.{Result, Ok, Err}
use Rattle.nodes.specs.declared.kinds.Effect.TheVariants.{Nothing}
use Rattle.nodes.specs.declared.kinds.Given.{Given}
use Rattle.nodes.proofs.Outcomes.{refused_so, given_so}

-- ── each request by what it gives ──

module _ (d : Domain) (t p : Octets) where
  pub read_gives : answer d P.read (names_in p) (table_of t) ≡ looked_at t p d (λ i. done (node_at (table_of t) i).value)
  unfolding answer answered
  read_gives = refl

  pub get_perms_gives : answer d P.get_perms (names_in p) (table_of t) ≡ looked_at t p d (λ i. permissions (node_at (table_of t) i))
  unfolding answer answered
  get_perms_gives = refl

  pub directory_gives : answer d P.directory (names_in p) (table_of t) ≡ looked_at t p d (listed (table_of t))
  unfolding answer answered
  directory_gives = refl

  pub asked-seen : (x : Result ℕ Errno) → Sees t p d x → (i : ℕ) → x ≡ Ok i → Asked t i
  asked-seen x h i o = (subst (Sees t p d) o h).0

  -- a request that gives so, where the look-up came out so
  module _
      (s : Standing t p)
      (ask : P.Ask)
      (give : ℕ → A.Reply)
      (q : answer d ask (names_in p) (table_of t) ≡ looked_at t p d give)
      (x : Result ℕ Errno)
      (h : Sees t p d x)
      (before : Octets)
    where
      pub not_seen : (e : Errno) → x ≡ Err e → Answered d ask p t t before before (Err e)
      not_seen e o = refused_so d (names_in p) t (sound_canonical t s.sound) _ before e (q ∙ subst (Sees t p d) o h give)

      pub seen-refused : (i : ℕ) → x ≡ Ok i → (e : Errno) → give i ≡ refused (errno_meant e) → Answered d ask p t t before before (Err e)
      seen-refused i o e g =
          refused_so d (names_in p) t (sound_canonical t s.sound) _ before e
          (q ∙ (subst (Sees t p d) o h).1 give ∙ ap (A.unchanged d (names_in p) (table_of t)) g)

      pub seen : (i : ℕ) → x ≡ Ok i → (b : Octets) → give i ≡ done b → (n : ℕ) → n ≡ length b → (after : Octets) →
          after ≡ paste header_size b before → (r : Given) → r ≡ record { length = n; effect = Nothing } → Answered d ask p t t before after (Ok r)
      seen i o b g n l after w r z =
          given_so d (names_in p) t (sound_canonical t s.sound) _ before b after n r z
          (q ∙ (subst (Sees t p d) o h).1 give ∙ ap (A.unchanged d (names_in p) (table_of t)) g) l w

-- ── a directory's names ──

module _ (t : Table) (i : ℕ) (is : List ℕ) (e : is ≡ children t i) (n : ℕ) (l : n ≡ length (name_list t is)) where
  pub listed_big : longest_payload < n → listed t i ≡ refused E2BIG
  unfolding listed listing
  listed_big h = rw (← e, ← l, lt-leb n longest_payload h)

  pub listed_small : n ≤ longest_payload → listed t i ≡ done (name_list t is)
  unfolding listed listing
  listed_small h = rw (← e, ← l, le-leb n longest_payload h)
