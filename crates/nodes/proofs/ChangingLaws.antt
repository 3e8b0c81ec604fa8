-- WRITE, MKDIR, RM and SET_PERMS: what each answers where its tests came out so.
use mathlib.Core.Path.{◌≡◌, ap}
use mathlib.Core.Bool.{Bool, true, false, cond}
use mathlib.Core.List.{List, [], ◌∷◌}
use Prim.Native.Nat.{ℕ, suc, ◌-◌, ◌≤◌, ◌<◌}
use native.Mathlib.Omega.{arith}
use lib.ListN.{length}
use borrow.Author.Tests.{le-leb, lt-leb}
use Rattle.rules.specs.Size.{longest_value, most_entries}
use Rattle.rules.specs.Octets.{Octets}
use Rattle.rules.specs.Path.{Domain, Name, Names, names_in}
use Rattle.rules.specs.Node.{Entry, Table, node_at, reach, made, with_value, with_entries, removed}
use Rattle.rules.specs.Rights.{may_read, may_write}
use Rattle.rules.specs.Payload as P
use Rattle.rules.specs.Answer as A
use Rattle.rules.specs.Answer.{refused, OK, EACCES, ENOSPC, unchanged, changed, absent, room, created, written, directory_made, taken, may_set}
use Rattle.rules.specs.Answer.{permitted, answer, answered}
use Rattle.rules.specs.Layout.{table_of}
use Rattle.lookup.proofs.ReachLaws.{left-first}
use Rattle.slots.specs.Left.{left_at}
use Rattle.lookup.specs.Reach.{Reaches}
use Rattle.nodes.proofs.Outcomes.{reached, whole, short}

-- ── RM, by how many names are left ──

module _ (d : Domain) (ns : Names) (t : Table) (i : ℕ) (n : Name) where
  taken_far : (l : Names) → 0 < length l → (x : A.Errno) → x ≡ absent d ns t i →
      taken d ns t (record { slot = i; left = n ∷ l }) ≡ unchanged d ns t (refused x)
  unfolding taken
  taken_far [] h x e = absurd (omega arith)
  taken_far (m ∷ l) h x e = rw e

  taken_near : (l : Names) → length l ≤ 0 → (b : Bool) → may_read d (node_at t i) ≡ b →
      taken d ns t (record { slot = i; left = n ∷ l }) ≡ unchanged d ns t (cond b OK (refused EACCES))
  unfolding taken
  taken_near [] h b m = rw m
  taken_near (m ∷ l) h b m' = absurd (omega arith)

module _ (d : Domain) (t p : Octets) (i at : ℕ) (r : Reaches t p i at) where
  -- ── making what is left ──

  pub created_denied : (v : Octets) → may_write d (node_at (table_of t) i) ≡ false →
      created d (names_in p) (table_of t) (reach (table_of t) (names_in p)) v ≡ unchanged d (names_in p) (table_of t) (refused EACCES)
  unfolding created
  created_denied v m = rw (reached t p i at r, m)

  pub created-full : (v : Octets) → may_write d (node_at (table_of t) i) ≡ true → room d (names_in p) (table_of t) (left_at p at) v ≡ false →
      created d (names_in p) (table_of t) (reach (table_of t) (names_in p)) v ≡ unchanged d (names_in p) (table_of t) (refused ENOSPC)
  unfolding created
  created-full v m f = rw (reached t p i at r, m, f)

  pub created-done : (v : Octets) → may_write d (node_at (table_of t) i) ≡ true → room d (names_in p) (table_of t) (left_at p at) v ≡ true →
      created d (names_in p) (table_of t) (reach (table_of t) (names_in p)) v
      ≡ changed d (names_in p) (table_of t) false (length (left_at p at) - 1) (made (left_at p at) i d v (table_of t))
  unfolding created
  created-done v m f = rw (reached t p i at r, m, f)

  -- ── an absent path ──

  module _ (h : at < length p) where
    pub write-absent : (v : Octets) →
        answer d (P.write v) (names_in p) (table_of t) ≡ created d (names_in p) (table_of t) (reach (table_of t) (names_in p)) v
    unfolding answer answered written
    write-absent v = rw (short t p i at r h)

    pub mkdir-absent : answer d P.mkdir (names_in p) (table_of t)
        ≡ created d (names_in p) (table_of t) (reach (table_of t) (names_in p)) []
    unfolding answer answered directory_made
    mkdir-absent = rw (short t p i at r h)

    pub rm_far : (n : ℕ) → n ≡ length (left_at p at) → 1 < n → (x : A.Errno) → x ≡ absent d (names_in p) (table_of t) i →
        answer d P.rm (names_in p) (table_of t) ≡ unchanged d (names_in p) (table_of t) (refused x)
    unfolding answer answered
    rm_far n l m x e =
        rw (short t p i at r h) (taken_far d (names_in p) (table_of t) i _ _ (omega (arith, l, ap length (left-first p at h))) x e)

    pub rm_near : (n : ℕ) → n ≡ length (left_at p at) → n ≤ 1 → (b : Bool) → may_read d (node_at (table_of t) i) ≡ b →
        answer d P.rm (names_in p) (table_of t) ≡ unchanged d (names_in p) (table_of t) (cond b OK (refused EACCES))
    unfolding answer answered
    rm_near n l m b e =
        rw (short t p i at r h) (taken_near d (names_in p) (table_of t) i _ _ (omega (arith, l, ap length (left-first p at h))) b e)

    pub perms_absent : (o : Entry) (es : List Entry) (x : A.Errno) → x ≡ absent d (names_in p) (table_of t) i →
        answer d (P.set_perms o es) (names_in p) (table_of t) ≡ unchanged d (names_in p) (table_of t) (refused x)
    unfolding answer answered permitted
    perms_absent o es x e = rw (short t p i at r h, e)

  -- ── a path that is there ──

  module _ (h : length p ≤ at) where
    pub write_denied : (v : Octets) → may_write d (node_at (table_of t) i) ≡ false →
        answer d (P.write v) (names_in p) (table_of t) ≡ unchanged d (names_in p) (table_of t) (refused EACCES)
    unfolding answer answered written
    write_denied v m = rw (whole t p i at r h, m)

    pub write-long : (v : Octets) → may_write d (node_at (table_of t) i) ≡ true → longest_value < length v →
        answer d (P.write v) (names_in p) (table_of t) ≡ unchanged d (names_in p) (table_of t) (refused ENOSPC)
    unfolding answer answered written
    write-long v m l = rw (whole t p i at r h, m, lt-leb (length v) longest_value l)

    pub write_done : (v : Octets) → may_write d (node_at (table_of t) i) ≡ true → length v ≤ longest_value →
        answer d (P.write v) (names_in p) (table_of t) ≡ changed d (names_in p) (table_of t) false 0 (with_value (table_of t) i v)
    unfolding answer answered written
    write_done v m l = rw (whole t p i at r h, m, le-leb (length v) longest_value l)

    pub mkdir-there : (b : Bool) → may_write d (node_at (table_of t) i) ≡ b →
        answer d P.mkdir (names_in p) (table_of t) ≡ unchanged d (names_in p) (table_of t) (cond b OK (refused EACCES))
    unfolding answer answered directory_made
    mkdir-there b m = rw (whole t p i at r h, m)

    pub rm_denied : may_write d (node_at (table_of t) i) ≡ false →
        answer d P.rm (names_in p) (table_of t) ≡ unchanged d (names_in p) (table_of t) (refused EACCES)
    unfolding answer answered taken
    rm_denied m = rw (whole t p i at r h, m)

    pub rm-done : may_write d (node_at (table_of t) i) ≡ true →
        answer d P.rm (names_in p) (table_of t) ≡ changed d (names_in p) (table_of t) true 0 (removed (table_of t) i)
    unfolding answer answered taken
    rm-done m = rw (whole t p i at r h, m)

    module _ (o : Entry) (es : List Entry) where
      pub perms_denied : may_set d (names_in p) (table_of t) (node_at (table_of t) i) o ≡ false →
          answer d (P.set_perms o es) (names_in p) (table_of t) ≡ unchanged d (names_in p) (table_of t) (refused EACCES)
      unfolding answer answered permitted
      perms_denied m = rw (whole t p i at r h, m)

      pub perms_many : may_set d (names_in p) (table_of t) (node_at (table_of t) i) o ≡ true → most_entries < suc (length es) →
          answer d (P.set_perms o es) (names_in p) (table_of t) ≡ unchanged d (names_in p) (table_of t) (refused ENOSPC)
      unfolding answer answered permitted
      perms_many m l = rw (whole t p i at r h, m, lt-leb (suc (length es)) most_entries l)

      pub perms_done : may_set d (names_in p) (table_of t) (node_at (table_of t) i) o ≡ true → suc (length es) ≤ most_entries →
          answer d (P.set_perms o es) (names_in p) (table_of t) ≡ changed d (names_in p) (table_of t) false 0 (with_entries (table_of t) i o es)
      unfolding answer answered permitted
      perms_done m l = rw (whole t p i at r h, m, le-leb (suc (length es)) most_entries l)
