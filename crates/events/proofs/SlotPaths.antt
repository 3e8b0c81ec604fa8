-- The path of a used slot of a sound table, as a text.
use mathlib.Core.Path.{◌≡◌, refl}
use mathlib.Core.Bool.{true}
use mathlib.Core.List.{[], ◌∷◌}
use Prim.Native.Nat.{ℕ, zero, suc, ◌+◌, ◌≤◌}
use native.Mathlib.Omega.{arith}
use lib.ListN.{length}
use borrow.Author.Tests.{eq-eqb, ne_eqb}
use Rattle.rules.specs.Size.{longest_path}
use Rattle.rules.specs.Octets.{Octets}
use Rattle.rules.specs.Path.{Names, is_name, all_names, is_full, names_in, path_text}
use Rattle.rules.specs.Node.{Node, Table, path_up, path_of}
use Rattle.rules.specs.Layout.{table_of}
use Rattle.rules.specs.Sound.{reaches_root}
use Rattle.rules.proofs.PathLaws.{text-full, text-names}
use Rattle.rules.proofs.Places.{At}
use Rattle.rules.proofs.GoodTables.{Good, node_at_is}
use Rattle.rules.proofs.RootWays.{reaches_cases}
use Rattle.lookup.specs.Rights.{Asked}
use Rattle.soundness.proofs.PathTexts.{good-table, used_reaches, path-text}
use Rattle.soundness.proofs.WalkLaws.{text_bound}

-- ── names ──

module _ (t : Table) (g : Good t) where
  slot-name : (i : ℕ) (n : Node) → (i ≡ 0 → ⊥) → At t i n → is_name n.name ≡ true
  slot-name zero n z e = absurd (z refl)
  slot-name (suc i) n z e = g.named i n e

  -- the names on the way up from a slot
  up_names : (k i : ℕ) (ns : Names) → reaches_root k t i ≡ true → all_names ns ≡ true → all_names (path_up k t i ns) ≡ true
  unfolding path_up all_names
  up_names zero i ns h a = a
  up_names (suc k) i ns h a =
      reaches_cases (all_names (path_up (suc k) t i ns) ≡ true) k t i h (λ z. rw (eq-eqb i 0 z) a)
      (λ z n e r. rw (ne_eqb i 0 z, node_at_is t i n e) (up_names k n.parent (n.name ∷ ns) r (rw (slot-name i n z e) a)))

-- ── the text ──

module _ (t : Octets) (i : ℕ) (a : Asked t i) where
  slot-names : all_names (path_of (table_of t) i) ≡ true
  unfolding path_of all_names
  slot-names = up_names (table_of t) (good-table t a.sound) 8 i [] (used_reaches t a.sound i a.used) refl

  slot-short : length (path_text (path_of (table_of t) i)) ≤ longest_path
  unfolding path_of path_up path_text
  slot-short = go i refl
    where
      go : (j : ℕ) → i ≡ j → length (path_text (path_of (table_of t) i)) ≤ longest_path
      go zero e = rw e (omega arith)
      go (suc j) e = rw (path-text t i (λ z. omega (arith, z))) (text_bound 8 t i)

  -- put at the front of a buffer
  pub slot-within : 0 + length (path_text (path_of (table_of t) i)) ≤ longest_path
  slot-within = omega (arith, slot-short)

  pub slot-full : is_full (path_text (path_of (table_of t) i)) ≡ true
  slot-full = text-full (path_of (table_of t) i) slot-names (omega (arith, slot-short))

  pub slot-text : names_in (path_text (path_of (table_of t) i)) ≡ path_of (table_of t) i
  slot-text = text-names (path_of (table_of t) i) slot-names (omega (arith, slot-short))
