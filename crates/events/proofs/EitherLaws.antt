-- Who hears an event is who hears it in the store before it, or in the store after it.
use mathlib.Core.Path.{◌≡◌, refl, sym, ap, ap₂, subst, ◌∙◌}
use mathlib.Core.Bool.{Bool, true, false, ◌&&◌, ◌||◌, and-or_distrib_left, or_self}
use mathlib.Core.List.{List, [], ◌∷◌}
use mathlib.Core.Option.{Option, none, some}
use Prim.Native.Nat.{ℕ, ◌<◌}
use lib.ListN.{length, get_or}
use Rattle.rules.specs.Size.{most_watches}
use Rattle.rules.specs.Octets.{Octets, pack, pack_from}
use Rattle.rules.specs.Domain.{Domain, domain_of}
use Rattle.rules.specs.Path.{Names, path_text, beyond}
use Rattle.rules.specs.Node.{Table}
use Rattle.rules.specs.Rights.{readable}
use Rattle.rules.specs.Payload.{Place, path, event}
use Rattle.rules.specs.Event.{Watch, Watches, Happening, deep_enough, may_hear, hears_at, hears, mask_of, kept, heard_event}
use Rattle.rules.specs.Layout.{mask_bits, watches_of}
use Rattle.domains.specs.Entry.{passes}
use Rattle.events.specs.Records.{Mask, number_bit}
use Rattle.events.proofs.MaskLaws.{mask-bit, mask_at, mask-long}

-- ── one watch ──

-- a watch's test by how the two paths lie, and by its place
at_by : Watch → Names → Happening → Table → Table → Option Names → Option Names → Bool
at_by w wn c u v m n =
    elim m as (λ m. Bool) [
      | some rest ↦ deep_enough w.depth (length rest) && may_hear u v (domain_of w.owner) c.names
      | none ↦ elim n as (λ n. Bool) [ none ↦ false | some rest ↦ c.removal && may_hear u v (domain_of w.owner) wn ]
    ]

hears_by : Watch → Happening → Table → Table → Place → Bool
hears_by w c u v p = elim p as (λ p. Bool) [ path r wn ↦ hears_at u v w wn c | event e ↦ false ]

module _ (b a : Table) where
  hear_either : (d : Domain) (ns : Names) → (may_hear b b d ns || may_hear a a d ns) ≡ may_hear b a d ns
  unfolding may_hear
  hear_either d ns = go (readable b d ns) (readable a d ns)
    where
      go : (x y : Bool) → (x || x || (y || y)) ≡ (x || y)
      go true y = refl
      go false true = refl
      go false false = refl

  but_for : (x : Bool) (d : Domain) (ns : Names) → (x && may_hear b b d ns || x && may_hear a a d ns) ≡ (x && may_hear b a d ns)
  but_for x d ns = sym (and-or_distrib_left x (may_hear b b d ns) (may_hear a a d ns)) ∙ ap (λ (y : Bool). x && y) (hear_either d ns)

  at_either : (w : Watch) (wn : Names) (c : Happening) → (hears_at b b w wn c || hears_at a a w wn c) ≡ hears_at b a w wn c
  unfolding hears_at at_by
  at_either w wn c = go (beyond wn c.names) (beyond c.names wn)
    where
      go : (m n : Option Names) → (at_by w wn c b b m n || at_by w wn c a a m n) ≡ at_by w wn c b a m n
      go (some rest) n = but_for (deep_enough w.depth (length rest)) (domain_of w.owner) c.names
      go none none = refl
      go none (some rest) = but_for c.removal (domain_of w.owner) wn

  pub hears_either : (c : Happening) (w : Watch) → (hears b b c w || hears a a c w) ≡ hears b a c w
  unfolding hears hears_by
  hears_either c w = go w.place
    where
      go : (p : Place) → (hears_by w c b b p || hears_by w c a a p) ≡ hears_by w c b a p
      go (path r wn) = at_either w wn c
      go (event e) = refl

-- ── two tests, one after the other ──

mask-same : (f g : Watch → Bool) → ((w : Watch) → f w ≡ g w) → (ws : Watches) → mask_of f ws ≡ mask_of g ws
unfolding mask_of
mask-same f g e [] = refl
mask-same f g e (none ∷ ws) = ap (λ (m : List Bool). false ∷ m) (mask-same f g e ws)
mask-same f g e (some w ∷ ws) = ap₂ (λ (b : Bool) (m : List Bool). b ∷ m) (e w) (mask-same f g e ws)

-- before and after
pub mask_either : (b a : Table) (c : Happening) (s : Octets) (n : ℕ) → Mask (mask_of (λ w. hears b b c w || hears a a c w) (watches_of s)) n
    → Mask (mask_of (hears b a c) (watches_of s)) n
mask_either b a c s n m = subst (λ (l : List Bool). Mask l n) (mask-same _ _ (hears_either b a c) (watches_of s)) m

-- of a path that was not there before and was not removed the store after tells alone
module _ (b a : Table) (c : Happening) (written : c.removal ≡ false) (unread : (d : Domain) → readable b d c.names ≡ false) where
  hear_after : (d : Domain) → may_hear b a d c.names ≡ may_hear a a d c.names
  unfolding may_hear
  hear_after d = rw (unread d) (sym (or_self (readable a d c.names)))

  at_after : (w : Watch) (wn : Names) → hears_at b a w wn c ≡ hears_at a a w wn c
  unfolding hears_at at_by
  at_after w wn = go (beyond wn c.names) (beyond c.names wn)
    where
      go : (m n : Option Names) → at_by w wn c b a m n ≡ at_by w wn c a a m n
      go (some rest) n = ap (λ (x : Bool). deep_enough w.depth (length rest) && x) (hear_after (domain_of w.owner))
      go none none = refl
      go none (some rest) = rw written refl

  hears-after : (w : Watch) → hears b a c w ≡ hears a a c w
  unfolding hears hears_by
  hears-after w = go w.place
    where
      go : (p : Place) → hears_by w c b a p ≡ hears_by w c a a p
      go (path r wn) = at_after w wn
      go (event e) = refl

  pub heard-after : (ws : Watches) → heard_event b a ws c ≡ heard_event a a ws c
  unfolding heard_event
  heard-after ws = ap (λ (m : List Bool). kept m (path_text c.names)) (mask-same _ _ hears-after ws)

nobody : (ws : Watches) → pack (mask_bits (mask_of (λ w. false) ws)) ≡ 0
unfolding pack pack_from mask_bits mask_of
nobody [] = refl
nobody (none ∷ ws) = nobody ws
nobody (some w ∷ ws) = nobody ws

pub mask-none : (s : Octets) → Mask (mask_of (λ w. false) (watches_of s)) 0
mask-none s = record { long = mask-long _ s; value = sym (nobody (watches_of s)) }

passes_either : (f g : Watch → Bool) (m : Option Watch) → (passes f m || passes g m) ≡ passes (λ w. f w || g w) m
unfolding passes
passes_either f g none = refl
passes_either f g (some w) = refl

-- the bit of a watch that passes either test, by the mask of those that pass the first
pub either-bit : (f g : Watch → Bool) (s : Octets) (heard : ℕ) → Mask (mask_of f (watches_of s)) heard → (k : ℕ) → k < most_watches
    → (number_bit heard k || passes g (get_or (watches_of s) k none)) ≡ get_or (mask_of (λ w. f w || g w) (watches_of s)) k false
either-bit f g s heard m k h =
    let ws = watches_of s in
    let this = get_or ws k none in
    ap (λ (x : Bool). x || passes g this) (mask-bit _ heard m k h ∙ sym (mask_at f ws k)) ∙ passes_either f g this ∙ mask_at (λ w. f w || g w) ws k
