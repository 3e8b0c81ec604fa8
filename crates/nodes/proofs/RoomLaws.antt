-- What is left of a path: how many names, and whether there is room for them.
use mathlib.Core.Path.{◌≡◌, ap, ap₂}
use mathlib.Core.Bool.{true, false}
use Prim.Native.Nat.{ℕ, suc, ◌+◌, ◌≤◌, ◌<◌}
use native.Mathlib.Numerals.{add-one}
use native.Mathlib.Omega.{arith}
use lib.ListN.{length, get_or, drop, drop_of_length-le}
use lib.Seq.{drop-cons}
use lib.Dec.{leb}
use borrow.Author.Tests.{eq-eqb, ne_eqb, le-leb, lt-leb}
use Rattle.rules.specs.Size.{longest_value, deepest}
use Rattle.rules.specs.Octets.{Octets}
use Rattle.rules.specs.Entries.{free_count}
use Rattle.rules.specs.Path.{Domain, Names, split, glued, short_names, fits, names_in}
use Rattle.rules.specs.Node.{Table, reach}
use Rattle.rules.specs.Answer.{sized, stocked, room}
use Rattle.rules.specs.Layout.{table_of}
use Rattle.rules.proofs.Compare.{both_true}
use Rattle.rules.proofs.Fitting.{short-left}
use Rattle.slots.proofs.LeftLaws.{left_below}
use Rattle.lookup.proofs.ReachLaws.{left-first}
use Rattle.paths.proofs.PieceLaws.{split-first}
use Rattle.slots.specs.Left.{left_at}
use Rattle.lookup.specs.Reach.{Reaches}

-- ── how many names ──

glued-length : (c : ℕ) (cs : Octets) → length (glued c (split cs)) ≡ length (split cs)
unfolding glued
glued-length c cs = rw (split-first cs)

module _ (s : Octets) (i : ℕ) (h : i < length s) where
  pub name_more : get_or s i 0 ≡ 47 → length (split (drop i s)) ≡ suc (length (split (drop (i + 1) s)))
  unfolding split
  name_more e = rw (add-one, drop-cons s i 0 h, eq-eqb _ _ e)

  pub name-same : (get_or s i 0 ≡ 47 → ⊥) → length (split (drop i s)) ≡ length (split (drop (i + 1) s))
  unfolding split
  name-same e = rw (add-one, drop-cons s i 0 h, ne_eqb _ _ e) (glued-length (get_or s i 0) (drop (suc i) s))

  pub left-length : length (left_at s i) ≡ length (split (drop i s))
  left-length = ap length (left_below s i h)

pub some_left : (s : Octets) (i : ℕ) → i < length s → 1 ≤ length (left_at s i)
some_left s i h = omega (arith, ap length (left-first s i h))

pub name_last : (s : Octets) (i : ℕ) → length s ≤ i → length (split (drop i s)) ≡ 1
unfolding split
name_last s i h = rw (drop_of_length-le s h)

-- ── room ──

module _ (d : Domain) (ns : Names) (t : Table) (left : Names) (v : Octets) where
  pub value-long : longest_value < length v → false ≡ room d ns t left v
  unfolding room sized stocked
  value-long h = rw (lt-leb (length v) longest_value h)

  pub path_unfit : length v ≤ longest_value → fits ns ≡ false → false ≡ room d ns t left v
  unfolding room sized stocked
  path_unfit h f = rw (le-leb (length v) longest_value h, f)

  pub slots_decide : length v ≤ longest_value → fits ns ≡ true → (n m : ℕ) → n ≡ length left → m ≡ free_count t → leb n m ≡ room d ns t left v
  unfolding room sized stocked
  slots_decide h f n m en em = rw (le-leb (length v) longest_value h, f) (ap₂ leb en em)

pub left-short : (t p : Octets) (i at : ℕ) → Reaches t p i at → fits (names_in p) ≡ true → short_names (left_at p at) ≡ true
unfolding fits reach
left-short t p i at r f =
    rw r.left (short-left (names_in p) (table_of t) 0 (both_true (leb (length (names_in p)) deepest) (short_names (names_in p)) f).1)
