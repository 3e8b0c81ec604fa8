-- A sound table's slots: their names are short, they reach the root, and the walk spells their paths.
use mathlib.Core.Path.{◌≡◌, refl, sym, ap, ◌∙◌}
use mathlib.Core.Bool.{true}
use mathlib.Core.List.{[], ◌∷◌, ◌++◌}
use Prim.Native.Nat.{ℕ, ◌<◌}
use native.Mathlib.Nat.{zero-add}
use native.Mathlib.Omega.{arith}
use lib.ListN.{length, set, replicate}
use borrow.Author.Tests.{ne_eqb}
use Rattle.std.specs.Prelude.{Some, None}
use Rattle.std.specs.Prelude as std
use Rattle.rules.specs.Size.{slots, longest_path}
use Rattle.rules.specs.Octets.{Octets}
use Rattle.rules.specs.Path.{Names, Name, slashed, path_text}
use Rattle.rules.specs.Node.{node_at, path_up, path_of}
use Rattle.rules.specs.Layout.{table_of}
use Rattle.rules.specs.Sound.{sound_table, reaches_root}
use Rattle.rules.proofs.Joined.{set-paste}
use Rattle.rules.proofs.Places.{at_below}
use Rattle.rules.proofs.Slots.{length-table_of}
use Rattle.rules.proofs.GoodTables.{Good, good_of}
use Rattle.octets.specs.Numbers.{Put}
use Rattle.slots.specs.Slot.{slot_at, is_used}
use Rattle.slots.proofs.Canonical.{sound_canonical, sound-good, name-length_is, node-fits, used-some}
use Rattle.soundness.specs.declared.answer.Way.{Way}
use Rattle.soundness.specs.Walks.{Short, Lent, steps_to, text_to, taken, Walked}
use Rattle.soundness.proofs.WalkLaws.{up_append, all-taken, none-known, way}

-- ── what a sound table's slots satisfy ──

module _ (t : Octets) (s : sound_table t ≡ true) where
  pub good-table : Good (table_of t)
  good-table = good_of (table_of t) (rw (length-table_of t) (omega arith)) (sound-good t s)

  pub sound-short : Short t
  sound-short =
      let k = sound_canonical t s in
      record {
        whole = k.whole;
        short = λ j h u.
            let x = used-some (slot_at t j) u in
            omega (arith, name-length_is t k j h x.0 x.1, (node-fits t k j h x.0 x.1).name);
      }

  pub used-below : (i : ℕ) → is_used (slot_at t i) ≡ true → i < slots
  used-below i u =
      let x = used-some (slot_at t i) u in
      omega (arith, at_below (table_of t) i x.0 x.1, length-table_of t)

  pub used_reaches : (i : ℕ) → is_used (slot_at t i) ≡ true → reaches_root 8 (table_of t) i ≡ true
  used_reaches i u =
      let x = used-some (slot_at t i) u in
      good-table.reaches i x.0 x.1

  pub nothing_lent : (into : Octets) → length into ≡ longest_path → Lent t (replicate slots 0) into
  nothing_lent into l = record { table = sound-short; levels = λ j z. absurd (z (none-known slots j)); room = λ n. omega arith; alone = λ n. none-known slots }

-- ── path texts ──

last_text : (ns : Names) (n : Name) → path_text (ns ++ (n ∷ [])) ≡ slashed (ns ++ (n ∷ []))
unfolding path_text
last_text [] n = refl
last_text (m ∷ ns) n = refl

pub path-text : (t : Octets) (i : ℕ) → (i ≡ 0 → ⊥) → path_text (path_of (table_of t) i) ≡ text_to 8 t i
unfolding text_to path_of path_up
path-text t i h =
    let n = node_at (table_of t) i in
    let e : path_up 8 (table_of t) i [] ≡ path_up 7 (table_of t) n.parent [] ++ (n.name ∷ []) =
    rw (ne_eqb i 0 h) (up_append 7 (table_of t) n.parent (n.name ∷ [])) in
    ap path_text e ∙ last_text (path_up 7 (table_of t) n.parent []) n.name ∙ ap slashed (sym e)

pub root_put : (t into : Octets) (i : ℕ) → i ≡ 0 → 0 < length into → Put 0 (path_text (path_of (table_of t) i)) into (set into 0 47) 1
unfolding path_text path_of path_up
root_put t into i e h = rw e (record { bytes = set-paste into 0 47 h; behind = refl })

module _ (t into after : Octets) (i : ℕ) (h : i ≡ 0 → ⊥) (r : reaches_root 8 (table_of t) i ≡ true) (l : length into ≡ longest_path) (o : std.Option Way)
    (w : Walked 8 t i into after o) where
  found : o ≡ way (steps_to 8 t i) (length (taken (text_to 8 t i) into))
  found = w.found ∙ rw r refl

  pub never_lost : o ≡ None → ⊥
  never_lost e =
      let f = found in
      let z : ◌≡◌ {A = ℕ} 0 1 = cc in
      omega arith

  pub path_put : (k n : ℕ) → o ≡ way k n → Put 0 (path_text (path_of (table_of t) i)) into after n
  path_put k n e =
      let f = found in
      let ways : ◌≡◌ {A = Way} (record { steps = k; length = n }) (record { steps = steps_to 8 t i; length = length (taken (text_to 8 t i) into) }) = cc in
      let same : n ≡ length (taken (text_to 8 t i) into) = ap (λ (x : Way). x.length) ways in
      let whole : taken (text_to 8 t i) into ≡ path_text (path_of (table_of t) i) = all-taken (text_to 8 t i) into (λ z. omega arith) ∙ sym (path-text t i h) in
      record { bytes = w.left ∙ rw (r, whole) refl; behind = same ∙ ap length whole ∙ sym (zero-add (length (path_text (path_of (table_of t) i)))) }
