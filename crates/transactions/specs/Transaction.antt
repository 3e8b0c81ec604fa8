-- The transaction in a place, and its changes.
use Rattle.std.specs.Prelude.{◌≡◌, Bool, true, false, [], ℕ, ◌<◌, ◌≤◌, eqb, length, get_or}
use Rattle.std.proofs.Math.Option.{Option, none, some}
use Rattle.rules.specs.Size.{most_transactions, transaction_size, most_changes, longest_path, deepest}
use Rattle.rules.specs.Octets.{Octets}
use Rattle.rules.specs.Path.{Connection, is_full, names_in}
use Rattle.rules.specs.Answer.{Change}
use Rattle.rules.specs.Layout.{Transaction, opened, with_change, transaction_bytes, transaction_in, transactions_of}
use Rattle.domains.specs.Entry.{taken, entry_or}
use Rattle.domains.specs.Kept.{Kept}

-- bytes that re-encode to themselves
abbrev pub KeptTransactions : Octets → Type 0
KeptTransactions = Kept most_transactions transaction_size transaction_bytes transaction_in

-- the transaction in place k
abbrev pub transaction_of : Octets → ℕ → Transaction
transaction_of s k = entry_or (opened 0) (get_or (transactions_of s) k none)

unfoldable pub no_change : Change
no_change = record { removal = false; parents = 0; names = [] }

-- change j of the transaction in place k
abbrev pub change_of : Octets → ℕ → ℕ → Change
change_of s k j = get_or (transaction_of s k).changes j no_change

-- place k is open, in a table whose bytes are those of what they mean
pub record OpenTransaction (s : Octets) (k : ℕ) : Type 0 where
  pub below : k < most_transactions
  pub kept : KeptTransactions s
  pub used : taken (get_or (transactions_of s) k none) ≡ true

-- and has a change j
pub record HasChange (s : Octets) (k j : ℕ) : Type 0 where
  pub place : OpenTransaction s k
  pub there : j < length (transaction_of s k).changes

unfoldable pub held_by : Connection → Transaction → Bool
held_by c x = eqb c x.holder

unfoldable pub stale_of : Option Transaction → Option Transaction
stale_of none = none
stale_of (some x) = some (record { holder = x.holder; stale = true; changes = x.changes })

-- a change on the path of a text, with so many new parents
unfoldable pub change_given : Bool → ℕ → Octets → Change
change_given removed parents text = record { removal = removed; parents = parents; names = names_in text }

-- a transaction with one more
unfoldable pub changed_by : Transaction → Bool → ℕ → Octets → Transaction
changed_by x removed parents text = with_change x (change_given removed parents text)

-- a place with room for one more change on a full path
pub record RoomForChange (s : Octets) (k : ℕ) (parents : ℕ) (text : Octets) : Type 0 where
  pub place : OpenTransaction s k
  pub few : length (transaction_of s k).changes < most_changes
  pub fits : parents < deepest
  pub full : is_full text ≡ true
  pub short : length text ≤ longest_path
