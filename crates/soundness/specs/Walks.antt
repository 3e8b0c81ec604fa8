-- The walk to the root, and the path text that it leaves.
use Rattle.std.specs.Prelude.{Bool, true, cond, Option, Some, None, [], ◌≡◌, ℕ, suc, ◌≤◌, ◌<◌, length, get_or, eqb}
use Rattle.rules.specs.Size.{slots, table_size, longest_name, longest_path, deepest}
use Rattle.rules.specs.Octets.{Octets, paste}
use Rattle.rules.specs.Path.{slashed}
use Rattle.rules.specs.Node.{path_up}
use Rattle.rules.specs.Layout.{table_of}
use Rattle.rules.specs.Sound.{reaches_root}
use Rattle.slots.specs.Slot.{slot_at, is_used, name_length}
use Rattle.soundness.specs.declared.answer.Way.{Way}

-- a whole table whose used slots have names within the size
pub record Short (t : Octets) : Type 0 where
  pub whole : length t ≡ table_size
  pub short : (j : ℕ) → j < slots → is_used (slot_at t j) ≡ true → name_length t j ≤ longest_name

-- a buffer that takes every path, or none
abbrev pub RoomForPath : Octets → Type 0
RoomForPath into = (length into ≡ 0 → ⊥) → longest_path ≤ length into

-- the steps from slot i to the root, of at most k
unfoldable pub steps_to : ℕ → Octets → ℕ → ℕ
steps_to k t i = length (path_up k (table_of t) i [])

-- the names from the root to slot i, each behind a slash
unfoldable pub text_to : ℕ → Octets → ℕ → Octets
text_to k t i = slashed (path_up k (table_of t) i [])

-- what a buffer takes of a text: all, or nothing where it is empty
unfoldable pub taken : Octets → Octets → Octets
taken ys into = cond (eqb (length into) 0) [] ys

-- what a walk of at most k steps from slot i finds, and what it leaves in the buffer
pub record Walked (k : ℕ) (t : Octets) (i : ℕ) (before after : Octets) (r : Option Way) : Type 0 where
  pub found : r ≡ cond (reaches_root k (table_of t) i) (Some (record { steps = steps_to k t i; length = length (taken (text_to k t i) before) })) None
  pub left : after ≡ cond (reaches_root k (table_of t) i) (paste 0 (taken (text_to k t i) before) before) before

-- a used slot's chain of parents reaches the root in time
unfoldable pub chained : Octets → ℕ → Bool
chained t i = cond (is_used (slot_at t i)) (reaches_root deepest (table_of t) i) true

-- what is known of a slot's way to the root: nothing, or one more than the steps of a way that is short enough
abbrev pub Level : Octets → ℕ → ℕ → Type 0
Level t i r = (r ≡ 0 → ⊥) → (reaches_root deepest (table_of t) i ≡ true) × (r ≡ suc (steps_to deepest t i))

-- what a walk is lent: a table, what is known of its slots, and a buffer; where a text is to be put, nothing is known
pub record Lent (t known into : Octets) : Type 0 where
  pub table : Short t
  pub levels : (j : ℕ) → Level t j (get_or known j 0)
  pub room : RoomForPath into
  pub alone : (length into ≡ 0 → ⊥) → (j : ℕ) → get_or known j 0 ≡ 0
