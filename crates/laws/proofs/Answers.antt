-- The two shapes of an answer: it leaves the table, or it is OK and names its change.
use mathlib.Core.Path.{◌≡◌, refl}
use mathlib.Core.Bool.{Bool, true, false, cond, and-true, and-false}
use mathlib.Core.List.{[], ◌∷◌}
use Prim.Native.Nat.{ℕ, suc}
use lib.ListN.{length}
use lib.Dec.{leb}
use Rattle.rules.specs.Size.{longest_payload, longest_value, most_entries}
use Rattle.rules.specs.Octets.{Octets}
use Rattle.rules.specs.Entries.{is_empty}
use Rattle.rules.specs.Path.{Domain, Names}
use Rattle.rules.specs.Node.{Table, Reached, node_at, reach, children}
use Rattle.rules.specs.Rights.{may_read, may_write}
use Rattle.rules.specs.Payload.{Ask, directory, read, get_perms, write, mkdir, rm, set_perms}
use Rattle.rules.specs.Answer.{EINVAL, EACCES, EEXIST, ENOENT, ENOSPC, E2BIG, EAGAIN, ENOSYS, Reply, done, refused, OK, Answer, permissions, name_list}
use Rattle.rules.specs.Answer.{listing, listed, unchanged, changed, absent, looked, room, created, written, directory_made, taken, may_set, permitted}
use Rattle.rules.specs.Answer.{answered, answer}
use Rattle.rules.proofs.Cases.{cond_case}
use Rattle.laws.specs.History.{succeeds, is_there, alters}

-- ── replies ──

abbrev pub is_eagain : Reply → Bool
is_eagain (done s) = false
is_eagain (refused EINVAL) = false
is_eagain (refused EACCES) = false
is_eagain (refused EEXIST) = false
is_eagain (refused ENOENT) = false
is_eagain (refused ENOSPC) = false
is_eagain (refused E2BIG) = false
is_eagain (refused EAGAIN) = true
is_eagain (refused ENOSYS) = false

-- ── answers ──

module _ (d : Domain) (ns : Names) (t : Table) where
  -- an answer that changes the table or not
  pub data Shape : Bool → Answer → Type 0 where
    stays : (r : Reply) → is_eagain r ≡ false → Shape false (unchanged d ns t r)
    alters_to : (removal : Bool) (parents : ℕ) (after : Table) → Shape true (changed d ns t removal parents after)

  absent_is : (i : ℕ) → is_eagain (refused (absent d ns t i)) ≡ false
  unfolding absent
  absent_is i = cond_case (λ e. is_eagain (refused e) ≡ false) (may_read d (node_at t i)) ENOENT EACCES refl refl

  looked_shape : (give : ℕ → Reply) (i : ℕ) → is_eagain (give i) ≡ false → (l : Names) → Shape false (looked d ns t (record { slot = i; left = l }) give)
  unfolding looked
  looked_shape give i h [] = stays _ (cond_case (λ r. is_eagain r ≡ false) (may_read d (node_at t i)) (give i) (refused EACCES) h refl)
  looked_shape give i h (n ∷ l) = stays _ (absent_is i)

  -- the shape of an answer that changes the table exactly if it succeeds
  abbrev Shaped : Answer → Type 0
  Shaped a = Shape (succeeds a.reply) a

  cond_shaped : (b c : Bool) (removal : Bool) (parents : ℕ) (after : Table)
      → Shaped (cond b (cond c (changed d ns t removal parents after) (unchanged d ns t (refused ENOSPC))) (unchanged d ns t (refused EACCES)))
  unfolding succeeds changed unchanged OK
  cond_shaped true true removal parents after = alters_to removal parents after
  cond_shaped true false removal parents after = stays _ refl
  cond_shaped false c removal parents after = stays _ refl

  created_shape : (r : Reached) (v : Octets) → Shaped (created d ns t r v)
  unfolding created
  created_shape r v = cond_shaped (may_write d (node_at t r.slot)) (room d ns t r.left v) false _ _

  -- a path that is not there, where success would change the table
  absent_shaped : (i : ℕ) → Shaped (unchanged d ns t (refused (absent d ns t i)))
  unfolding succeeds unchanged
  absent_shaped i = stays _ (absent_is i)

  listed_is : (i : ℕ) → is_eagain (listed t i) ≡ false
  unfolding listed listing
  listed_is i = cond_case (λ r. is_eagain r ≡ false) (leb (length (name_list t (children t i))) longest_payload) _ _ refl refl

  ok_is : (b : Bool) → is_eagain (cond b OK (refused EACCES)) ≡ false
  unfolding OK
  ok_is b = cond_case (λ r. is_eagain r ≡ false) b _ _ refl refl

  shaped : (a : Ask) (l : Names) (i : ℕ) → is_there t ns ≡ is_empty l
      → let x = answered d ns t a (record { slot = i; left = l }) in Shape (alters t ns x.reply a) x
  unfolding answered alters written directory_made taken permitted listed listing permissions is_empty
  shaped directory l i h = looked_shape (listed t) i (listed_is i) l
  shaped read l i h = looked_shape _ i refl l
  shaped get_perms l i h = looked_shape _ i refl l
  shaped (write v) [] i h = cond_shaped (may_write d (node_at t i)) (leb (length v) longest_value) false 0 _
  shaped (write v) (n ∷ l) i h = created_shape _ v
  shaped mkdir [] i h = rw (h, and-false) (stays _ (ok_is (may_write d (node_at t i))))
  shaped mkdir (n ∷ l) i h = rw (h, and-true) (created_shape _ [])
  shaped rm [] i h = rw (h, and-true) (cond_shaped (may_write d (node_at t i)) true true 0 _)
  shaped rm (n ∷ []) i h = rw (h, and-false) (stays _ (ok_is (may_read d (node_at t i))))
  shaped rm (n ∷ m ∷ l) i h = rw (h, and-false) (stays _ (absent_is i))
  shaped (set_perms o es) [] i h = cond_shaped (may_set d ns t (node_at t i) o) (leb (suc (length es)) most_entries) false 0 _
  shaped (set_perms o es) (n ∷ l) i h = absent_shaped i

pub answer_shape : (d : Domain) (a : Ask) (ns : Names) (t : Table) → Shape d ns t (alters t ns (answer d a ns t).reply a) (answer d a ns t)
unfolding answer is_there
answer_shape d a ns t = shaped d ns t a (reach t ns).left (reach t ns).slot refl
