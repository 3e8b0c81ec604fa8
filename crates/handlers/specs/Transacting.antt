-- A transaction that its holder asks for.
use Rattle.std.specs.Prelude.{◌≡◌, Bool, true, false, ℕ, ◌-◌, ◌≤◌, length}
use Rattle.std.proofs.Math.Option.{none, some}
use Rattle.rules.specs.Size.{copies_size, reply_size, events_size}
use Rattle.rules.specs.Octets.{Octets}
use Rattle.rules.specs.Domain.{Connection}
use Rattle.rules.specs.Layout.{transactions_of}
use Rattle.rules.specs.Sound.{good_changes, sound_table}
use Rattle.rules.specs.World as W
use Rattle.rules.specs.World.{World}
use Rattle.watches.specs.Watch.{KeptWatches}
use Rattle.transactions.specs.Transaction.{KeptTransactions, transaction_of, OpenTransaction}
use Rattle.handlers.specs.Asking.{copy_in}

-- connection c holds transaction tx, which is open in the place before that of its number
pub record Holds (transactions : Octets) (c : Connection) (tx : ℕ) : Type 0 where
  pub low : 1 ≤ tx
  pub place : OpenTransaction transactions (tx - 1)
  pub found : (w : World) → w.transactions ≡ transactions_of transactions → W.transaction_of w c tx ≡ some (transaction_of transactions (tx - 1))

-- or there is no such transaction
abbrev pub HeldOr : Octets → Connection → ℕ → Bool → Type 0
HeldOr transactions c tx true = Holds transactions c tx
HeldOr transactions c tx false = (w : World) → w.transactions ≡ transactions_of transactions → W.transaction_of w c tx ≡ none

-- the tables that a commit works on; the copies of open transactions are sound and their changes good
pub record Committable (nodes copies watches transactions reply events : Octets) : Type 0 where
  pub sound : sound_table nodes ≡ true
  pub whole : length copies ≡ copies_size
  pub copy : (k : ℕ) → OpenTransaction transactions k → sound_table (copy_in copies k) ≡ true
  pub good : (k : ℕ) → OpenTransaction transactions k → good_changes (transaction_of transactions k).changes ≡ true
  pub watching : KeptWatches watches
  pub kept : KeptTransactions transactions
  pub long : length reply ≡ reply_size
  pub room : length events ≡ events_size
