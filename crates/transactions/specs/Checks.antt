-- The soundness of transactions without their copies, and that of the copies alone.
use Rattle.std.specs.Prelude.{Bool, true, false, ◌&&◌, ℕ, eqb, length}
use mathlib.Core.List.{List, [], ◌∷◌, map, flat_map}
use Rattle.std.proofs.Math.Option.{Option, none, some}
use Rattle.rules.specs.Size.{transactions_size, change_size}
use Rattle.rules.specs.Octets.{Octets, same, chunks}
use Rattle.rules.specs.Path.{domain_of}
use Rattle.rules.specs.Layout.{Domains, Transaction, Transactions, change_bytes, change_in, transactions_bytes, transactions_of}
use Rattle.rules.specs.Sound.{known, good_changes, sound_table}

-- a change's bytes re-encode to themselves
unfoldable pub change_kept : Octets → Bool
change_kept r = same (change_bytes (change_in r)) r

-- those of n changes do
unfoldable pub changes_kept : ℕ → Octets → Bool
changes_kept n r = same (flat_map change_bytes (map change_in (chunks n change_size r))) r

-- an open transaction's holder is known, and its changes are good
unfoldable pub good_open : Domains → Option Transaction → Bool
good_open ds none = true
good_open ds (some x) = known (domain_of x.holder) ds && good_changes x.changes

unfoldable pub all_open_good : Domains → Transactions → Bool
all_open_good ds [] = true
all_open_good ds (x ∷ xs) = good_open ds x && all_open_good ds xs

-- what sound_transactions asks of the entries
unfoldable pub sound_entries : Domains → Octets → Bool
sound_entries ds s =
    let xs = transactions_of s in
    eqb (length s) transactions_size && (same (transactions_bytes xs) s && all_open_good ds xs)

-- and of the copies: that of each open transaction is sound
unfoldable pub sound_copies : Transactions → List Octets → Bool
sound_copies [] copies = true
sound_copies (none ∷ xs) [] = true
sound_copies (none ∷ xs) (copy ∷ copies) = sound_copies xs copies
sound_copies (some x ∷ xs) [] = false
sound_copies (some x ∷ xs) (copy ∷ copies) = sound_table copy && sound_copies xs copies
