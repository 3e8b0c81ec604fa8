-- Entries that were read from bytes fit their fields: transactions, and those watches whose place is a path or an event.
use mathlib.Core.Path.{◌≡◌, refl, ◌∙◌, ap}
use mathlib.Core.Bool.{Bool, true, false, cond, not, ◌&&◌, false≢true, and-eq-true_iff}
use mathlib.Core.List.{List, [], ◌∷◌, map}
use mathlib.Core.Option.{Option, none, some}
use Prim.Native.Nat.{ℕ, ◌+◌, ◌≤◌, ◌<◌}
use native.Mathlib.Omega.{arith}
use native.Mathlib.Nat.{mod-lt}
use lib.ListN.{length, take, drop, length-take, length-map}
use lib.Dec.{eqb, lit<, lit≤}
use Rattle.rules.specs.Size.{longest_token, longest_path, most_changes, watch_size, watches_size, most_watches}
use Rattle.rules.specs.Size.{change_size, transaction_size, most_transactions}
use Rattle.rules.specs.Octets.{Octets, same, chunks, field, bits_at}
use Rattle.rules.specs.Path.{Connection, domain_of, Given, malformed, absolute, relative, special, given, all_names, path_text, names_in}
use Rattle.rules.specs.Payload.{Place, path, event}
use Rattle.rules.specs.Event.{Watch, Watches, place_text}
use Rattle.rules.specs.Layout.{text_at, place_in, watch_at, watch_in, watches_bytes, watches_of, change_in, transaction_at, transaction_in}
use Rattle.rules.specs.Layout.{transactions_of, Domains, Transaction}
use Rattle.rules.specs.Sound.{known, no_nul, good_place, watched, good_watch, good_watches, sound_watches}
use Rattle.rules.proofs.Slots.{text-short}
use Rattle.rules.proofs.Tables.{Each, length-chunks}
use Rattle.rules.proofs.PathLaws.{Means, means}
use Rattle.rules.proofs.Places.{nothing, some_is}
use Rattle.rules.proofs.Cases.{cond_case}
use Rattle.rules.proofs.EntryLayouts.{PlaceFits, DepthFits, MaybeWatch}
use Rattle.rules.proofs.TransactionLayouts.{ChangeFits, MaybeTransaction}

-- ── decoded entries fit ──

pub watch_in_lem : (s : Octets) (v : Watch) → watch_in s ≡ some v → watch_at s (field s 0 6) ≡ v
unfolding watch_in
watch_in_lem s v = go (eqb (bits_at (field s 0 6) 47 1) 1)
  where
    go : (b : Bool) → cond b (some (watch_at s (field s 0 6))) none ≡ some v → watch_at s (field s 0 6) ≡ v
    go true e = some_is e
    go false e = absurd (nothing e)

place_decoded : (r : Bool) (s : Octets) → length s ≤ longest_path → (place_in r s ≡ event [] → ⊥) → PlaceFits (place_in r s)
unfolding place_in
place_decoded r s l = go (given s) refl (means s)
  where
    go : (g : Given) → given s ≡ g → Means s g
        → let p = elim g as (λ g. Place) [ malformed ↦ event [] | absolute ns ↦ path r ns | relative ns ↦ event [] | special e ↦ event e ] in
        (p ≡ event [] → ⊥) → PlaceFits p
    go malformed e m h = absurd (h refl)
    go (absolute ns) e m h = (m.names, rw (← m.text) l)
    go (relative ns) e m h = absurd (h refl)
    go (special t) e m h = rw m.text (e ∙ ap special m.text, l)

-- what is sure of a watch that was read, where its place is a path or an event
pub record WatchRead (v : Watch) : Type 0 where
  pub owner : v.owner < 65536
  pub depth : DepthFits v.depth
  pub token : length v.token ≤ longest_token
  pub place : (v.place ≡ event [] → ⊥) → PlaceFits v.place

pub watch_decoded : (s : Octets) (head : ℕ) → WatchRead (watch_at s head)
unfolding watch_at bits_at
watch_decoded s head =
    record {
      owner = mod-lt _ (lit< tt);
      depth = cond_case DepthFits (eqb (bits_at head 45 1) 1) _ _ (mod-lt _ (lit< tt)) tt;
      token = text-short s (6 + longest_path) longest_token _;
      place = place_decoded _ _ (text-short s 6 longest_path _);
    }

change_decoded : (s : Octets) → ChangeFits (change_in s)
unfolding change_in names_in all_names path_text bits_at
change_decoded s = go (given t) (means t)
  where
    t : Octets
    t = text_at s 2 longest_path (bits_at (field s 0 2) 0 9)

    few : bits_at (field s 0 2) 9 3 < 8
    few = mod-lt _ (lit< tt)

    go : (g : Given) → Means t g
        → ChangeFits (record {
          removal = eqb (bits_at (field s 0 2) 15 1) 1;
          parents = bits_at (field s 0 2) 9 3;
          names = elim g [ malformed ↦ [] | absolute ns ↦ ns | relative ns ↦ [] | special e ↦ [] ];
        })
    go malformed m = record { parents = few; names = refl; short = lit≤ tt }
    go (absolute ns) m = record { parents = few; names = m.names; short = rw (← m.text) (text-short s 2 longest_path _) }
    go (relative ns) m = record { parents = few; names = refl; short = lit≤ tt }
    go (special e) m = record { parents = few; names = refl; short = lit≤ tt }

pub transaction_in_lem : (s : Octets) (x : Transaction) → transaction_in s ≡ some x → transaction_at s (field s 0 3) ≡ x
unfolding transaction_in
transaction_in_lem s x = go (eqb (bits_at (field s 0 3) 23 1) 1)
  where
    go : (b : Bool) → cond b (some (transaction_at s (field s 0 3))) none ≡ some x → transaction_at s (field s 0 3) ≡ x
    go true e = some_is e
    go false e = absurd (nothing e)

pub transaction_decoded : (s : Octets) (head : ℕ) → (length (transaction_at s head).changes ≤ most_changes) × Each ChangeFits (transaction_at s head).changes
unfolding transaction_at
transaction_decoded s head = (few, go rows)
  where
    rows : List Octets
    rows = take (bits_at head 16 4) (chunks most_changes change_size (drop 3 s))

    few : length (map change_in rows) ≤ most_changes
    few = rw (
      length-map rows change_in,
      length-take (bits_at head 16 4) (chunks most_changes change_size (drop 3 s)),
      length-chunks most_changes change_size (drop 3 s),
    ) (omega arith)

    go : (rs : List Octets) → Each ChangeFits (map change_in rs)
    go [] = tt
    go (r ∷ rs) = (change_decoded r, go rs)

-- ── decoded tables fit ──

each_row : {A : Type 0} (P : A → Type 0) (decode : Octets → A) → ((r : Octets) → P (decode r)) → (rows : List Octets) → Each P (map decode rows)
each_row P decode h [] = tt
each_row P decode h (r ∷ rows) = (h r, each_row P decode h rows)

transaction_in_fits : (s : Octets) → MaybeTransaction (transaction_in s)
unfolding transaction_in transaction_at bits_at
transaction_in_fits s =
    let d = transaction_decoded s (field s 0 3) in
    cond_case MaybeTransaction (eqb (bits_at (field s 0 3) 23 1) 1) _ _ (record { holder = mod-lt _ (lit< tt); few = d.0; changes = d.1 }) tt

-- what is sure of an entry that was read
abbrev MaybeRead : Option Watch → Type 0
MaybeRead none = Unit {0}
MaybeRead (some v) = WatchRead v

watch_in_read : (s : Octets) → MaybeRead (watch_in s)
unfolding watch_in
watch_in_read s = cond_case MaybeRead (eqb (bits_at (field s 0 6) 47 1) 1) _ _ (watch_decoded s (field s 0 6)) tt

-- a good watch's place is no empty event
pub place-named : (c : Connection) (k : Option ℕ) (p : Place) → good_place c k p ≡ true → p ≡ event [] → ⊥
unfolding good_place
place-named c k p h e = false≢true (rw (e, good_place) at h)

watches_fit : (ds : Domains) (ws : Watches) → Each MaybeRead ws → good_watches ds ws ≡ true → Each MaybeWatch ws
unfolding good_watches good_watch
watches_fit ds [] r h = tt
watches_fit ds (none ∷ ws) r h = (tt, watches_fit ds ws r.1 h)
watches_fit ds (some v ∷ ws) r h =
    let p = (and-eq-true_iff (good_watch ds v) (not (watched v.owner (place_text v.place) v.token ws) && good_watches ds ws)).0 h in
    let q = (and-eq-true_iff (known (domain_of v.owner) ds) (no_nul v.token && good_place v.owner v.depth v.place)).0 p.0 in
    let g = ((and-eq-true_iff (no_nul v.token) (good_place v.owner v.depth v.place)).0 q.1).1 in
    let w = r.0 in (
      record { owner = w.owner; depth = w.depth; token = w.token; place = w.place (place-named v.owner v.depth v.place g) },
      watches_fit ds ws r.1 ((and-eq-true_iff (not (watched v.owner (place_text v.place) v.token ws)) (good_watches ds ws)).0 p.1).1,
    )

pub decoded_transactions_fit : (s : Octets) → Each MaybeTransaction (transactions_of s)
unfolding transactions_of
decoded_transactions_fit s = each_row MaybeTransaction transaction_in transaction_in_fits (chunks most_transactions transaction_size s)

read_each : (s : Octets) → Each MaybeRead (watches_of s)
unfolding watches_of
read_each s = each_row MaybeRead watch_in watch_in_read (chunks most_watches watch_size s)

-- those of sound watches
pub sound-watches_fit : (ds : Domains) (s : Octets) → sound_watches ds s ≡ true → Each MaybeWatch (watches_of s)
unfolding sound_watches
sound-watches_fit ds s h =
    let p = (and-eq-true_iff (eqb (length s) watches_size) (same (watches_bytes (watches_of s)) s && good_watches ds (watches_of s))).0 h in
    watches_fit ds (watches_of s) (read_each s) ((and-eq-true_iff (same (watches_bytes (watches_of s)) s) (good_watches ds (watches_of s))).0 p.1).1
