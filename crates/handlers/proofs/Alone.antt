-- A table that a request leaves alone: its bytes are those of any world that agrees with it.
use mathlib.Core.Path.{◌≡◌, sym, ap, ◌∙◌}
use mathlib.Core.Bool.{true}
use mathlib.Core.List.{flat_map}
use lib.ListN.{length}
use Rattle.rules.specs.Size.{most_transactions, table_size, copies_size}
use Rattle.rules.specs.Octets.{Octets, chunks}
use Rattle.rules.specs.Layout.{table_bytes, table_of, domains_bytes, domains_of, watches_bytes, watches_of, transactions_bytes, transactions_of}
use Rattle.rules.specs.Sound.{sound_table}
use Rattle.rules.specs.World.{World}
use Rattle.rules.proofs.EntryLayouts.{whole, rows_joined}
use Rattle.slots.proofs.Canonical.{sound_canonical}
use Rattle.domains.specs.Kept.{KeptDomains}
use Rattle.watches.specs.Watch.{KeptWatches}
use Rattle.transactions.specs.Transaction.{KeptTransactions}
use Rattle.domains.proofs.Laws.{kept-domains}
use Rattle.watches.proofs.Written.{kept-watches}
use Rattle.transactions.proofs.Written.{kept-transactions}
use Rattle.replies.specs.Does.{its_nodes, its_copies, its_watches, its_transactions, its_domains}

module _ (w : World) (t : Octets) where
  pub nodes-alone : sound_table t ≡ true → w.nodes ≡ table_of t → t ≡ its_nodes w
  nodes-alone h e = sym (sound_canonical t h).kept ∙ ap table_bytes (sym e)

  pub copies-alone : length t ≡ copies_size → w.copies ≡ chunks most_transactions table_size t → t ≡ its_copies w
  copies-alone h e = sym (rows_joined most_transactions table_size t h) ∙ ap (flat_map whole) (sym e)

  pub watches-alone : KeptWatches t → w.watches ≡ watches_of t → t ≡ its_watches w
  watches-alone h e = sym (kept-watches t h) ∙ ap watches_bytes (sym e)

  pub transactions-alone : KeptTransactions t → w.transactions ≡ transactions_of t → t ≡ its_transactions w
  transactions-alone h e = sym (kept-transactions t h) ∙ ap transactions_bytes (sym e)

  pub domains-alone : KeptDomains t → w.domains ≡ domains_of t → t ≡ its_domains w
  domains-alone h e = sym (kept-domains t h) ∙ ap domains_bytes (sym e)
