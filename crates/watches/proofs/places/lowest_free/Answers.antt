-- A watch is in a place where the first bit of the place is set.
use mathlib.Core.Path.{refl, ◌∙◌}
use lib.Dec.{lit≤}
use Rattle.rules.specs.Size.{watch_size, most_watches}
use Rattle.rules.specs.Layout.{watches_of}
use Rattle.octets.proofs.Bytes.{bytes-known}
use Rattle.octets.proofs.PlaceLaws.{lowest_is}
use Rattle.domains.specs.Entry.{taken}
use Rattle.watches.proofs.Bytes.{length-watches_of}
use Rattle.watches.proofs.Laws.{used_byte}
use Rattle.watches.proofs.places.lowest_free.Goals as goal

pub returns-clause-found : goal.returns-clause-found
unfolding taken
returns-clause-found c =
    let s = c.args.s.now in
    let bytes = bytes-known s c.type_inv.s in
    c.lowest_free.ensures.found
    ∙ lowest_is taken refl (λ x. refl) watch_size (lit≤ tt) s (watches_of s) most_watches (length-watches_of s) (λ i h. used_byte s i h bytes c.requires)
