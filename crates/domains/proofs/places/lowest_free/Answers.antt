-- A domain is in a place where the first bit of the place is set.
use mathlib.Core.Path.{refl, ◌∙◌}
use lib.Dec.{lit≤}
use Rattle.rules.specs.Size.{domain_size, most_domains}
use Rattle.rules.specs.Layout.{domains_of}
use Rattle.octets.proofs.Bytes.{bytes-known}
use Rattle.octets.proofs.PlaceLaws.{lowest_is}
use Rattle.domains.specs.Entry.{taken}
use Rattle.domains.proofs.Laws.{length-domains_of, used_byte}
use Rattle.domains.proofs.places.lowest_free.Goals as goal

pub returns-clause-found : goal.returns-clause-found
unfolding taken
returns-clause-found c =
    let s = c.args.s.now in
    let bytes = bytes-known s c.type_inv.s in
    c.lowest_free.ensures.found
    ∙ lowest_is taken refl (λ x. refl) domain_size (lit≤ tt) s (domains_of s) most_domains (length-domains_of s) (λ i h. used_byte s bytes c.requires i h)
