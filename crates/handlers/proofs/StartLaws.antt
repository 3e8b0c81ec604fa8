-- What TRANSACTION_START comes to.
use mathlib.Core.Path.{◌≡◌, refl, sym, ap, ap₂, ◌∙◌}
use mathlib.Core.List.{List, [], ◌++◌, flat_map}
use mathlib.Core.Option.{some}
use Prim.Native.Nat.{ℕ, ◌+◌, ◌-◌, ◌*◌, ◌≤◌, ◌<◌}
use native.Mathlib.Numerals.{add-one}
use native.Mathlib.Omega.{arith}
use lib.ListN.{length, set, length-map}
use borrow.Author.Tests.{lt-ltb, le-ltb}
use Rattle.rules.specs.Size.{most_transactions, transaction_size, table_size, header_size, reply_size}
use Rattle.rules.specs.Octets.{Octets, nul, decimal, chunks, paste}
use Rattle.rules.specs.Entries.{lowest}
use Rattle.rules.specs.Domain.{Connection}
use Rattle.rules.specs.Answer.{ENOSPC, done, refused}
use Rattle.rules.specs.Layout.{opened, Transactions, table_bytes, table_of, transaction_in, transactions_of}
use Rattle.rules.specs.World.{World, left, to, starting, with_copy, with_transactions}
use Rattle.rules.proofs.Paste.{paste_nil}
use Rattle.rules.proofs.Tables.{length-chunks}
use Rattle.rules.proofs.EntryLayouts.{whole, copy_written, rows_sized, rows_joined}
use Rattle.octets.specs.Numbers.{Put}
use Rattle.slots.specs.Slot.{Canonical}
use Rattle.std.specs.Prelude.{Ok}
use Rattle.replies.specs.Framed.{Told}
use Rattle.handlers.proofs.AboutLaws.{number-ended}

-- a table's bytes in place of copy k
pub copy_put : (cs : Octets) (k : ℕ) (t cs' : Octets) → length cs ≡ most_transactions * table_size → length t ≡ table_size → k < most_transactions →
    cs' ≡ paste (k * table_size) t cs →
    cs' ≡ flat_map whole (set (chunks most_transactions table_size cs) k t)
copy_put cs k t cs' l m h e =
    e ∙ (ap (paste (k * table_size) t) (sym (rows_joined most_transactions table_size cs l))
    ∙ sym (copy_written table_size (chunks most_transactions table_size cs) k t (rows_sized most_transactions table_size cs l) m (rw length-chunks h)))

-- the copies of w, with its nodes' bytes as copy k
pub copied : (w : World) (cs nodes : Octets) (k : ℕ) (cs' : Octets) → length cs ≡ most_transactions * table_size → Canonical nodes → w.nodes ≡ table_of nodes →
    w.copies ≡ chunks most_transactions table_size cs → k < most_transactions → cs' ≡ paste (k * table_size) nodes cs →
    cs' ≡ flat_map whole (set w.copies k (table_bytes w.nodes))
copied w cs nodes k cs' l n e q h p =
    copy_put cs k nodes cs' l n.whole h p
    ∙ ap₂ (λ (x : List Octets) (y : Octets). flat_map whole (set x k y)) (sym q) (sym (ap table_bytes e ∙ n.kept))

pub three_transactions : (s : Octets) → length (transactions_of s) ≡ 3
unfolding transactions_of
three_transactions s = length-map (chunks most_transactions transaction_size s) transaction_in ∙ length-chunks most_transactions transaction_size s

module _ (w : World) (c : Connection) (xs : Transactions) (here : w.transactions ≡ xs) (three : length xs ≡ 3) where
  module _ (k : ℕ) (found : k ≡ lowest xs) where
    pub start-full : 3 ≤ k → starting w c ≡ left w (refused ENOSPC)
    unfolding starting
    start-full h = rw (here, three, ← found, le-ltb k 3 h) refl

    pub start-done : k < most_transactions → starting w c
        ≡ to w (done (decimal (k + 1) ++ nul))
        (with_transactions (with_copy w k w.nodes) (set xs k (some (opened c)))) []
    unfolding starting
    start-done h = rw (here, three, ← found, lt-ltb k 3 h, add-one k) refl

-- the id and a nul behind the header
pub id_told : (n end : ℕ) (before l : Octets) → length before ≡ reply_size → Put header_size (decimal n) before l end → end < length l →
    Told (done (decimal n ++ nul)) (Ok (end + 1 - 16)) before (set l end 0)
id_told n end before l b p h =
    let k = number-ended n 16 end [] before before l refl b (omega arith) (sym (paste_nil 16 before)) p h in
    (ap Ok k.0, k.1)
