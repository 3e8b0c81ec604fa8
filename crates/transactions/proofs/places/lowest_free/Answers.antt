-- A transaction is open where the first bit of its place is set.
use mathlib.Core.Path.{refl, ◌∙◌}
use lib.Dec.{lit≤}
use Rattle.rules.specs.Size.{transaction_size, most_transactions}
use Rattle.rules.specs.Layout.{transactions_of}
use Rattle.octets.proofs.Bytes.{bytes-known}
use Rattle.octets.proofs.PlaceLaws.{lowest_is}
use Rattle.domains.specs.Entry.{taken}
use Rattle.transactions.proofs.Laws.{length-transactions_of, used_byte}
use Rattle.transactions.proofs.places.lowest_free.Goals as goal

pub returns-clause-found : goal.returns-clause-found
unfolding taken
returns-clause-found c =
    let s = c.args.s.now in
    let bytes = bytes-known s c.type_inv.s in
    c.lowest_free.ensures.found
    ∙ lowest_is taken refl (λ x. refl) transaction_size (lit≤ tt) s (transactions_of s) most_transactions (length-transactions_of s)
    (λ i h. used_byte s i h bytes c.requires)
