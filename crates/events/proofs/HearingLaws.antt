-- Who hears an event: the rule of the rule book, test by test.
use mathlib.Core.Path.{◌≡◌, refl, sym, ap, ap₂, ◌∙◌}
use mathlib.Core.Bool.{Bool, true, false, ◌&&◌, true≢false, or_self}
use mathlib.Core.List.{[], ◌∷◌}
use mathlib.Core.Option.{Option, none, some, map}
use Prim.Native.Nat.{ℕ, ◌≤◌, ◌<◌}
use native.Mathlib.Omega.{arith}
use lib.ListN.{length, get_or}
use lib.Dec.{leb}
use Rattle.rules.specs.Size.{most_watches, longest_path, longest_absolute}
use Rattle.rules.specs.Octets.{Octets, same, begins, text}
use Rattle.rules.specs.Entries.{is_empty}
use Rattle.rules.specs.Domain.{Domain, domain_of}
use Rattle.rules.specs.Path.{Names, is_full, names_in, slashed, path_text, beyond, introduce_name, release_name}
use Rattle.rules.specs.Node.{Table, node_at}
use Rattle.rules.specs.Rights.{may_read, readable}
use Rattle.rules.specs.Payload.{Place, path, event}
use Rattle.rules.specs.Event.{Watch, Happening, place_text, deep_enough, may_hear, hears_at, hears, is_event}
use Rattle.rules.specs.Layout.{table_of, watches_of}
use Rattle.rules.proofs.PathLaws.{text-names, text-full}
use Rattle.rules.proofs.EntryLayouts.{PlaceFits}
use Rattle.rules.proofs.DecodedEntries.{watch_decoded}
use Rattle.octets.specs.Options.{meant}
use Rattle.std.specs.Prelude as code
use Rattle.slots.proofs.LeftLaws.{left_over}
use Rattle.lookup.specs.Reach.{Reaches}
use Rattle.lookup.proofs.ReachLaws.{left-first}
use Rattle.domains.specs.Entry.{taken, passes}
use Rattle.watches.specs.Watch.{KeptWatches, nobody, watch_of, TakenWatch}
use Rattle.domains.proofs.Search.{passes-taken}
use Rattle.watches.proofs.Laws.{is_read}
use Rattle.watches.proofs.Bytes.{read_narrow}
use Rattle.events.specs.Stores.{hears_above, event_name}
use Rattle.events.proofs.PlaceLaws.{path_slash, event_slash}

-- ── rights ──

module _ (t p : Octets) (d : Domain) (i at : ℕ) (r : Reaches t p i at) where
  pub unreadable : at < length p → false ≡ readable (table_of t) d (names_in p)
  unfolding readable is_empty
  unreadable h = rw (← r.left, left-first p at h)

  pub readable-there : length p ≤ at → may_read d (node_at (table_of t) i) ≡ readable (table_of t) d (names_in p)
  unfolding readable is_empty
  readable-there h = rw (← r.left, left_over p at h, ← r.there)

pub hear_once : (t : Table) (d : Domain) (ns : Names) → readable t d ns ≡ may_hear t t d ns
unfolding may_hear
hear_once t d ns = sym (or_self (readable t d ns))

-- ── depth ──

-- in the code's terms
pub depth-levels : (d : code.Option ℕ) (n : ℕ) (b : Bool) → code.MatchOption d (code.IsTrue b) (λ k. b ≡ leb n k) → b ≡ deep_enough (meant d) n
unfolding deep_enough
depth-levels (code.Some k) n b e = e
depth-levels code.None n b e = e

-- ── one path and another ──

pub record Levelled (m : Option Names) (n : ℕ) : Type 0 where
  pub rest : Names
  pub found : m ≡ some rest
  pub levels : n ≡ length rest

levelled : (m : Option Names) (n : ℕ) → some n ≡ map length m → Levelled m n
levelled none n e = let z : ◌≡◌ {A = ℕ} 0 1 = cc in absurd (omega arith)
levelled (some rest) n e = record { rest = rest; found = refl; levels = cc }

not_beyond : (m : Option Names) → none ≡ map length m → m ≡ none
not_beyond none e = refl
not_beyond (some rest) e = let z : ◌≡◌ {A = ℕ} 0 1 = cc in absurd (omega arith)

module _ (b a : Table) (d : Domain) (own names : Names) (removed : Bool) where
  abbrev above_by : Option Names → Bool
  above_by m = elim m as (λ m. Bool) [ none ↦ false | some rest ↦ removed && may_hear b a d own ]

  pub above_kept : removed ≡ false → false ≡ hears_above b a d own names removed
  unfolding hears_above
  above_kept e = go (beyond names own)
    where
      go : (m : Option Names) → false ≡ above_by m
      go none = refl
      go (some rest) = rw e

  pub above_removed : removed ≡ true → (n : ℕ) → some n ≡ map length (beyond names own) → may_hear b a d own ≡ hears_above b a d own names removed
  unfolding hears_above
  above_removed e n l = sym (ap above_by (levelled _ n l).found ∙ rw e)

  pub above_other : none ≡ map length (beyond names own) → false ≡ hears_above b a d own names removed
  unfolding hears_above
  above_other l = sym (ap above_by (not_beyond _ l))

module _ (b a : Table) (w : Watch) (own : Names) (c : Happening) {d : Domain} {m : Option ℕ} (o : d ≡ domain_of w.owner) (e : m ≡ w.depth) where
  abbrev at_by : Domain → Option ℕ → Option Names → Bool
  at_by x y l =
      elim l as (λ l. Bool) [
        | some rest ↦ deep_enough y (length rest) && may_hear b a x c.names
        | none ↦ hears_above b a x own c.names c.removal
      ]

  at_is : (l : Option Names) → beyond own c.names ≡ l → hears_at b a w own c ≡ at_by d m l
  unfolding hears_at hears_above
  at_is l q = sym (ap₂ (λ (x : Domain) (y : Option ℕ). at_by x y (beyond own c.names)) o e) ∙ ap (at_by d m) q

  pub too_deep : (n : ℕ) → some n ≡ map length (beyond own c.names) → deep_enough m n ≡ false → false ≡ hears_at b a w own c
  too_deep n l k = let f = levelled _ n l in sym (at_is _ f.found ∙ rw (← f.levels, k))

  pub within-depth : (n : ℕ) → some n ≡ map length (beyond own c.names) → deep_enough m n ≡ true → may_hear b a d c.names ≡ hears_at b a w own c
  within-depth n l k = let f = levelled _ n l in sym (at_is _ f.found ∙ rw (← f.levels, k))

  pub not_below : none ≡ map length (beyond own c.names) → hears_above b a d own c.names c.removal ≡ hears_at b a w own c
  not_below l = sym (at_is _ (not_beyond _ l))

-- ── a watch's place ──

no_event_lem : (x : Bool) (ns : Names) → same (event_name x) (path_text ns) ≡ false
unfolding event_name release_name introduce_name text path_text slashed same
no_event_lem true [] = refl
no_event_lem true (n ∷ ns) = refl
no_event_lem false [] = refl
no_event_lem false (n ∷ ns) = refl

pub taken_here : {s : Octets} {k : ℕ} → k < most_watches → KeptWatches s → {u : Bool} → u ≡ taken (get_or (watches_of s) k none) → u ≡ true
    → TakenWatch s k
taken_here h w {u} e f = record { below = h; kept = w; used = sym e ∙ f }

module _ (s : Octets) (k : ℕ) (h : TakenWatch s k) (own : Octets) (o : own ≡ place_text (watch_of s k).place) where
  abbrev w : Watch
  w = watch_of s k

  place-fits : (w.place ≡ event [] → ⊥) → PlaceFits w.place
  place-fits = rw (is_read s k h.below h.used) (watch_decoded _ _).place

  pub own-short : length own ≤ longest_path
  own-short = rw (o, is_read s k h.below h.used) (read_narrow _ _).path

  -- the place of a watch whose text begins with a slash is a full path
  pub record OnPath : Type 0 where
    pub relative : Bool
    pub full : is_full own ≡ true
    pub place : w.place ≡ path relative (names_in own)

  pub on_path : begins (47 ∷ []) own ≡ true → OnPath
  unfolding place_text begins
  on_path f = go w.place refl place-fits
    where
      go : (p : Place) → w.place ≡ p → ((p ≡ event [] → ⊥) → PlaceFits p) → OnPath
      go (path r ns) e g =
          let q = g (λ z. let y : ◌≡◌ {A = ℕ} 0 1 = cc in omega arith) in
          let short : length (path_text ns) ≤ longest_absolute = omega (arith, q.1) in
          let t : own ≡ path_text ns = o ∙ ap place_text e in
          record {
            relative = r;
            full = rw t (text-full ns q.0 short);
            place = e ∙ ap (path r) (sym (ap names_in t ∙ text-names ns q.0 short));
          }
      go (event x) e g =
          let first : begins (47 ∷ []) x ≡ true = sym (ap (begins (47 ∷ [])) (o ∙ ap place_text e)) ∙ f in
          let q = g (λ z. true≢false (sym first ∙ ap (λ (p : Place). begins (47 ∷ []) (place_text p)) z)) in
          absurd (true≢false (sym first ∙ event_slash x q.0))

  module _ (b a : Table) (c : Happening) where
    abbrev hears_by : Place → Bool
    hears_by p = elim p as (λ p. Bool) [ path r wn ↦ hears_at b a w wn c | event e ↦ false ]

    here : hears b a c w ≡ passes (hears b a c) (get_or (watches_of s) k none)
    here = sym (passes-taken (hears b a c) nobody (get_or (watches_of s) k none) h.used)

    -- an event's name begins with no slash
    pub deaf : begins (47 ∷ []) own ≡ false → false ≡ passes (hears b a c) (get_or (watches_of s) k none)
    unfolding hears place_text
    deaf f = go w.place refl ∙ here
      where
        go : (p : Place) → w.place ≡ p → false ≡ hears_by p
        go (path r ns) e = absurd (true≢false (sym (path_slash ns) ∙ sym (ap (begins (47 ∷ [])) (o ∙ ap place_text e)) ∙ f))
        go (event x) e = refl

    pub hears_so : OnPath → hears_at b a w (names_in own) c ≡ passes (hears b a c) (get_or (watches_of s) k none)
    unfolding hears
    hears_so f = sym (ap hears_by f.place) ∙ here

  -- a watch on the event of a release, or of an introduction
  pub event-hears : (released : Bool) → same (event_name released) own ≡ passes (is_event (event_name released)) (get_or (watches_of s) k none)
  unfolding is_event place_text
  event-hears released = go w.place refl ∙ sym (passes-taken (is_event (event_name released)) nobody (get_or (watches_of s) k none) h.used)
    where
      go : (p : Place) → w.place ≡ p
          → same (event_name released) own ≡ (elim p as (λ p. Bool) [ path r ns ↦ false | event f ↦ same (event_name released) f ])
      go (path r ns) e = ap (same (event_name released)) (o ∙ ap place_text e) ∙ no_event_lem released ns
      go (event x) e = ap (same (event_name released)) (o ∙ ap place_text e)
