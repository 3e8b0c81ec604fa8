-- What the requests about watches come to, where the tests came out so.
use mathlib.Core.Path.{◌≡◌, refl, sym, ap, ap₂, subst, ◌∙◌}
use mathlib.Core.Bool.{Bool, true, false, ◌&&◌, ◌||◌, false≢true, and-eq-true_iff}
use mathlib.Core.List.{[]}
use mathlib.Core.Option.{Option, none, some}
use Prim.Native.Nat.{ℕ, ◌≤◌, ◌<◌}
use native.Mathlib.Omega.{arith}
use lib.Dec.{eqb, leb, ltb}
use lib.ListN.{length, get_or, set}
use lib.Seq.{get_or-set_same}
use borrow.Author.Tests.{lt-ltb, le-ltb, lt-leb, le-leb, leb-true}
use Rattle.rules.specs.Size.{most_watches, longest_path, longest_token}
use Rattle.rules.specs.Octets as Octets
use Rattle.rules.specs.Octets.{Octets, same}
use Rattle.rules.specs.Entries.{lowest, without}
use Rattle.rules.specs.Domain.{Connection}
use Rattle.rules.specs.Path.{Given, malformed, absolute, relative, special, given, is_full, names_in, fits, introduce_name, release_name}
use Rattle.rules.specs.Payload.{Place, path, event}
use Rattle.rules.specs.Answer.{OK, EEXIST, ENOENT, ENOSPC, refused}
use Rattle.rules.specs.Event.{Watch, Watches, place_text, first_heard}
use Rattle.rules.specs.Layout.{place_in, watches_of, watches_bytes}
use Rattle.rules.specs.Sound.{watched, twin}
use Rattle.rules.specs.World.{World, left, to, place_fits, watching, unwatching, resetting}
use Rattle.rules.specs.World.{without_watches, without_transactions, with_watches, with_transactions}
use Rattle.domains.specs.Entry.{taken, entry_or}
use Rattle.watches.specs.Watch.{KeptWatches, nobody, watch_of, TakenWatch, FitWatch, named, watch_given}
use Rattle.watches.specs.Watch as watches
use Rattle.octets.specs.Options.{meant}
use Rattle.std.specs.Prelude as code
use Rattle.watches.proofs.Bytes.{length-watches_of}
use Rattle.watches.proofs.Written.{put_kept}
use Rattle.handlers.specs.Watching.{PlacedAs, NamedSo}
use Rattle.rules.proofs.Compare.{same_eq}
use Rattle.rules.proofs.PathLaws.{full, full-given, given-event, fits-length}

and-false : (a : Bool) → (a && false) ≡ false
and-false true = refl
and-false false = refl

and-true : (a : Bool) → (a && true) ≡ a
and-true true = refl
and-true false = refl

and_assoc : (a b c : Bool) → ((a && b) && c) ≡ (a && (b && c))
and_assoc true b c = refl
and_assoc false b c = refl

-- ── where a watch stands ──

pub place-named : (r : Bool) (text : Octets) → given text ≡ special text → place_in r text ≡ event text
unfolding place_in
place-named r text h =
    ap (λ (g : Given). elim g as (λ x. Place) [ malformed ↦ event [] | absolute ns ↦ path r ns | relative ns ↦ event [] | special e ↦ event e ]) h

pub place-full : (r : Bool) (text : Octets) → is_full text ≡ true → place_in r text ≡ path r (names_in text)
unfolding place_in
place-full r text h =
    ap (λ (g : Given). elim g as (λ x. Place) [ malformed ↦ event [] | absolute ns ↦ path r ns | relative ns ↦ event [] | special e ↦ event e ])
    (full-given text h)

module _ (w : World) (text t : Octets) (r : Bool) where
  pub token-long : longest_token < length t → false ≡ (place_fits w (place_in r text) && leb (length t) longest_token)
  token-long h = rw (lt-leb (length t) longest_token h) (sym (and-false (place_fits w (place_in r text))))

  module _ (short : length t ≤ longest_token) where
    pub named-short : given text ≡ special text → true ≡ (place_fits w (place_in r text) && leb (length t) longest_token)
    unfolding place_fits
    named-short h = rw (place-named r text h, le-leb (length t) longest_token short) refl

    pub full-short : (b : Bool) → is_full text ≡ true → b ≡ fits (names_in text) → b ≡ (place_fits w (place_in r text) && leb (length t) longest_token)
    unfolding place_fits
    full-short b h e = rw (place-full r text h, le-leb (length t) longest_token short, e) (sym (and-true (fits (names_in text))))

-- ── what the requests come to ──

module _ (w : World) (c : Connection) (p : Place) (t text : Octets) (ws : Watches) (here : w.watches ≡ ws) (named : place_text p ≡ text) where
  pub unwatch-unknown : watched c text t ws ≡ false → unwatching w c p t ≡ left w (refused ENOENT)
  unfolding unwatching
  unwatch-unknown h = rw (here, named, h) refl

  pub unwatch-done : watched c text t ws ≡ true → unwatching w c p t
      ≡ to w OK (with_watches w (without (twin c text t) ws)) []
  unfolding unwatching
  unwatch-done h = rw (here, named, h) refl

module _ (w : World) (c : Connection) (p : Place) (t : Octets) (depth : Option ℕ) (ws : Watches) (here : w.watches ≡ ws) (all : length ws ≡ most_watches) where
  pub watch_twice : watched c (place_text p) t ws ≡ true → watching w c p t depth ≡ left w (refused EEXIST)
  unfolding watching
  watch_twice h = rw (here, h) refl

  module _ (new : watched c (place_text p) t ws ≡ false) where
    pub watch-long : (place_fits w p && leb (length t) longest_token) ≡ false → watching w c p t depth ≡ left w (refused ENOSPC)
    unfolding watching place_fits left
    watch-long h = rw (here, new, sym (and_assoc (place_fits w p) (leb (length t) longest_token) (ltb (lowest ws) (length ws))), h) refl

    module _ (short : (place_fits w p && leb (length t) longest_token) ≡ true) (k : ℕ) (found : k ≡ lowest ws) where
      pub watch-full : most_watches ≤ k → watching w c p t depth ≡ left w (refused ENOSPC)
      unfolding watching place_fits left to
      watch-full h =
          let e = sym (and_assoc (place_fits w p) (leb (length t) longest_token) (ltb (lowest ws) (length ws))) in
          rw (here, new, e, short, all, ← found, le-ltb k most_watches h) refl

      abbrev pub watches-after : Watches
      watches-after = set ws k (some (record { owner = c; place = p; depth = depth; token = t }))

      pub watch-done : k < most_watches → watching w c p t depth
          ≡ to w OK (with_watches w watches-after) (first_heard k p watches-after)
      unfolding watching place_fits left to
      watch-done h =
          let e = sym (and_assoc (place_fits w p) (leb (length t) longest_token) (ltb (lowest ws) (length ws))) in
          rw (here, new, e, short, all, ← found, lt-ltb k most_watches h) refl

pub reset-done : (w : World) (c : Connection) → resetting w c
    ≡ to w OK (with_transactions (with_watches w (without_watches (eqb c) w.watches)) (without_transactions (eqb c) w.transactions)) []
unfolding resetting
reset-done w c = refl

-- ── a new watch ──

place-text : (special : Bool) (text : Octets) (r : Bool) → PlacedAs special text → place_text (place_in r text) ≡ text
unfolding place_text
place-text true text r h = ap place_text (place-named r text h)
place-text false text r h = ap place_text (place-full r text h) ∙ sym (full text h).text

-- whether there is such a watch already, by the text of its place
module _ (special : Bool) (c : Connection) (text : Octets) (r : Bool) (t : Octets) (ws : Watches) (b : Bool) where
  pub watched-place : PlacedAs special text → watched c text t ws ≡ b → watched c (place_text (place_in r text)) t ws ≡ b
  watched-place p e = ap (λ (x : Octets). watched c x t ws) (place-text special text r p) ∙ e

event-short : (text : Octets) → given text ≡ special text → length text ≤ longest_path
unfolding introduce_name release_name Octets.text
event-short text h = go (same text introduce_name) (same text release_name) refl refl (given-event text text h).named
  where
    go : (a b : Bool) → same text introduce_name ≡ a → same text release_name ≡ b → (a || b) ≡ true → length text ≤ longest_path
    go true b p q e = subst (λ (x : Octets). length x ≤ longest_path) (sym (same_eq text introduce_name p)) (omega arith)
    go false true p q e = subst (λ (x : Octets). length x ≤ longest_path) (sym (same_eq text release_name q)) (omega arith)
    go false false p q e = absurd (false≢true e)

-- what a place for it wants
pub fit_watch : (w : World) (special r : Bool) (c : Connection) (text t : Octets) → PlacedAs special text → NamedSo special r → c < 65536 →
    (place_fits w (place_in r text) && leb (length t) longest_token) ≡ true → FitWatch c text r t
unfolding place_fits
fit_watch w true r c text t p n h e =
    let q = (and-eq-true_iff (place_fits w (place_in r text)) (leb (length t) longest_token)).0 e in
    record { owner = h; placed = named p n; path = event-short text p; few = leb-true (length t) longest_token q.1 }
fit_watch w false r c text t p n h e =
    let q = (and-eq-true_iff (place_fits w (place_in r text)) (leb (length t) longest_token)).0 e in
    let f : fits (names_in text) ≡ true = sym (ap (place_fits w) (place-full r text p)) ∙ q.0 in
    record {
      owner = h;
      placed = watches.full p;
      path = subst (λ (x : Octets). length x ≤ longest_path) (sym (full text p).text) (fits-length (names_in text) f);
      few = leb-true (length t) longest_token q.1;
    }

-- the table after it is put in
module _ (s : Octets) (kept : KeptWatches s) (k : ℕ) (below : k < most_watches) (c : Connection) (text : Octets) (r : Bool) (d : code.Option ℕ) (t : Octets)
    (f : FitWatch c text r t) (shallow : entry_or 0 (meant d) < 256)
    (b : Octets) (put : b ≡ watches_bytes (set (watches_of s) k (some (watch_given c text r d t)))) where
  abbrev pub new_watch : Watch
  new_watch = record { owner = c; place = place_in r text; depth = meant d; token = t }

  pub read_back : watches_of b ≡ set (watches_of s) k (some new_watch)
  unfolding watch_given
  read_back = (put_kept s kept k below c text r d t f shallow b put).1

  here : get_or (watches_of b) k none ≡ some new_watch
  here = ap (λ (ws : Watches). get_or ws k none) read_back ∙ get_or-set_same (watches_of s) k (some new_watch) none (rw (length-watches_of s) below)

  pub new_taken : TakenWatch b k
  unfolding taken
  new_taken = record { below = below; kept = (put_kept s kept k below c text r d t f shallow b put).0; used = ap taken here }

  pub first-same : first_heard k (watch_of b k).place (watches_of b) ≡ first_heard k (place_in r text) (set (watches_of s) k (some new_watch))
  unfolding entry_or
  first-same = ap₂ (first_heard k) (ap (λ (m : Option Watch). (entry_or nobody m).place) here) read_back
