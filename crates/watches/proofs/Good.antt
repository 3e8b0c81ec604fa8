-- What is asked of a watch, by tests of its text.
use mathlib.Core.Path.{◌≡◌, refl, sym, ap, ◌∙◌}
use mathlib.Core.Bool.{Bool, true, false, not, ◌&&◌, ◌||◌, and_assoc}
use mathlib.Core.List.{[], ◌∷◌, ◌++◌, append-nil}
use mathlib.Core.Option.{Option, none, some}
use Prim.Native.Nat.{ℕ, ◌+◌, ◌≤◌, ◌<◌}
use native.Mathlib.Nat.{zero-add}
use native.Mathlib.Omega.{arith}
use lib.ListN.{length, get_or, take, drop, length-append}
use lib.Seq.{take_at}
use lib.Dec.{eqb}
use borrow.Author.Tests.{le-leb}
use Rattle.std.specs.List.{list_any}
use Rattle.rules.specs.Size.{longest_absolute, most_watches}
use Rattle.rules.specs.Octets.{Octets, same, begins, paste, text}
use Rattle.rules.specs.Domain.{Domain, Connection, domain_of, is_control}
use Rattle.rules.specs.Path.{Names, absolute, special, given, names_in, is_full, base, slashed, path_text, fits, beyond, is_below}
use Rattle.rules.specs.Payload.{event}
use Rattle.rules.specs.Event.{Watch, Watches, place_text}
use Rattle.rules.specs.Layout.{Domains, is_relative, place_in, watches_of}
use Rattle.rules.specs.Sound.{known, no_nul, strictly_below, event_depth, good_place, watched, good_watch, good_watches}
use Rattle.rules.proofs.Decimals.{length-decimal_le}
use Rattle.rules.proofs.PathLaws.{full-given, text-full, text-names}
use Rattle.rules.proofs.RelativeLaws.{base-names}
use Rattle.rules.proofs.BelowLaws.{has_names, is_under, below_names}
use Rattle.octets.specs.Numbers.{Put}
use Rattle.paths.specs.Full.{base_text}
use Rattle.domains.specs.Entry.{taken, entry_or}
use Rattle.octets.specs.Read.{Bytes}
use Rattle.watches.specs.Watch.{nobody, watch_of, KeptWatches}
use Rattle.octets.specs.Options.{meant}
use Rattle.std.specs.Prelude as code
use Rattle.watches.specs.Checks.{good_watch_at, place_same}
use Rattle.domains.proofs.Search.{free_none, taken-some}
use Rattle.domains.proofs.Turns.{ListCheck}
use Rattle.watches.proofs.Bytes.{place-given, empty_is}
use Rattle.watches.proofs.Laws.{place_again}
use Rattle.watches.proofs.Kept.{same_place, special-long, place-malformed}

-- ── a token ──

neither : (a b : Bool) → not (a || b) ≡ (not a && not b)
neither true b = refl
neither false b = refl

pub nul_absent : (t : Octets) → not (list_any (λ c. eqb c 0) t) ≡ no_nul t
unfolding no_nul
nul_absent [] = refl
nul_absent (c ∷ t) = neither (eqb c 0) _ ∙ ap (◌&&◌ (not (eqb c 0))) (nul_absent t)

-- ── below the base ──

base_short : (d : Domain) → length (slashed (base d)) ≤ 34
unfolding base slashed text
base_short d = let l = length-decimal_le d in simp append-nil (omega arith)

base-text : (d : Domain) → path_text (base d) ≡ slashed (base d)
unfolding base path_text
base-text d = refl

under_is : (a b : Names) → is_under a b ≡ strictly_below (beyond a b)
unfolding is_under has_names strictly_below
under_is a b = go (beyond a b)
  where
    go : (m : Option Names) → (elim m as (λ (x : Option Names). Bool) [ none ↦ false | some rest ↦ has_names rest ]) ≡ strictly_below m
    go none = refl
    go (some []) = refl
    go (some (n ∷ ns)) = refl

module _ (d : Domain) where
  base-full : (is_full (slashed (base d)) ≡ true) × (names_in (slashed (base d)) ≡ base d)
  base-full =
      let l : length (path_text (base d)) ≤ longest_absolute = rw (base-text d) (omega (arith, base_short d)) in
      rw (← base-text d) (text-full (base d) (base-names d) l, text-names (base d) (base-names d) l)

  below-begins : (x : Octets) → is_below (slashed (base d)) x ≡ begins (base_text d) x
  unfolding is_below base_text base slashed same text
  below-begins x = refl

  pub base-below : (x : Octets) → is_full x ≡ true → begins (base_text d) x ≡ strictly_below (beyond (base d) (names_in x))
  base-below x f =
      sym (below-begins x)
      ∙ below_names (slashed (base d)) x base-full.0 f
      ∙ ap (λ (ns : Names). is_under ns (names_in x)) base-full.1
      ∙ under_is (base d) (names_in x)

  -- the base's text as it was put into a buffer
  module _ (before after : Octets) (n : ℕ) (p : Put 0 (base_text d ++ []) before after n) where
    put_parts : (after ≡ base_text d ++ drop (0 + length (base_text d)) before) × (length (base_text d) ≡ n)
    unfolding paste
    put_parts =
        let e : base_text d ++ [] ≡ base_text d = append-nil (base_text d) in
        ((rw e at p.bytes), sym ((rw e at p.behind) ∙ zero-add _))

    pub put_within : n ≤ length after
    put_within = rw put_parts.0 (omega (arith, put_parts.1, length-append (base_text d) (drop (0 + length (base_text d)) before)))

    pub put_base : take n after ≡ base_text d
    put_base = ap (take n) put_parts.0 ∙ take_at (base_text d) _ n put_parts.1

-- ── a place ──

-- an event's depth, in the code's terms
pub event-levels : (d : code.Option ℕ) (b : Bool) → code.MatchOption d (code.IsTrue b) (λ k. b ≡ eqb k 1) → b ≡ event_depth (meant d)
unfolding event_depth
event-levels (code.Some k) b e = e
event-levels code.None b e = e

module _ (c : Connection) (m : Option ℕ) (r : Bool) (x : Octets) where
  module _ (f : is_full x ≡ true) where
    full_is : good_place c m (place_in r x) ≡ (fits (names_in x) && (not r || strictly_below (beyond (base (domain_of c)) (names_in x))))
    unfolding good_place
    full_is = ap (good_place c m) (place-given r x (absolute (names_in x)) (full-given x f))

    pub good_unfit : fits (names_in x) ≡ false → good_place c m (place_in r x) ≡ false
    good_unfit h = full_is ∙ rw h

    pub good-plain : fits (names_in x) ≡ true → r ≡ false → good_place c m (place_in r x) ≡ true
    good-plain h e = full_is ∙ rw (h, e)

    pub good-relative : fits (names_in x) ≡ true → r ≡ true → good_place c m (place_in r x) ≡ strictly_below (beyond (base (domain_of c)) (names_in x))
    good-relative h e = full_is ∙ rw (h, e)

  module _ (e : given x ≡ special x) where
    special_is : good_place c m (place_in r x) ≡ (is_control (domain_of c) && event_depth m)
    unfolding good_place
    special_is =
        let l : 1 ≤ length x = long (length x) (special-long x e) in
        ap (good_place c m) (place-given r x (special x) e) ∙ rw (le-leb 1 (length x) l)
      where
        long : (n : ℕ) → (n ≡ 0 → ⊥) → 1 ≤ n
        long n h = omega (arith, h)

    pub good_foreign : is_control (domain_of c) ≡ false → good_place c m (place_in r x) ≡ false
    good_foreign h = special_is ∙ rw h

    pub good-event : is_control (domain_of c) ≡ true → good_place c m (place_in r x) ≡ event_depth m
    good-event h = special_is ∙ rw h

  pub good_nowhere : place_in r x ≡ event [] → good_place c m (place_in r x) ≡ false
  unfolding good_place
  good_nowhere e = ap (good_place c m) e

  pub good_empty : length x ≡ 0 → good_place c m (place_in r x) ≡ false
  unfolding given
  good_empty z = good_nowhere (place-malformed r x (sym (ap given (empty_is x (sym z)))))

-- the fields that the code read are those of the place that they mean
pub read_same : (s : Octets) (k : ℕ) → (h : k < most_watches) → Bytes s → KeptWatches s → taken (get_or (watches_of s) k none) ≡ true
    → {r : Bool} {p : Octets} → r ≡ is_relative (watch_of s k).place → p ≡ place_text (watch_of s k).place → place_same r p ≡ true
unfolding place_same
read_same s k h bytes c u {r} {p} er ep =
    let q : place_in r p ≡ (watch_of s k).place = rw (er, ep) (place_again s k h bytes c u) in
    same_place (place_in r p) p r (ap place_text q ∙ sym ep) (er ∙ sym (ap is_relative q))

-- what the code asks of the fields that it read
pub place_agree : (d : code.Option ℕ) (s : Octets) (k : ℕ) → (h : k < most_watches) → Bytes s → KeptWatches s → taken (get_or (watches_of s) k none) ≡ true
    → {o : ℕ} {r : Bool} {p : Octets} → o ≡ (watch_of s k).owner → meant d ≡ (watch_of s k).depth
    → r ≡ is_relative (watch_of s k).place → p ≡ place_text (watch_of s k).place
    → good_place (watch_of s k).owner (watch_of s k).depth (watch_of s k).place ≡ good_place o (meant d) (place_in r p)
place_agree d s k h bytes c u eo ed er ep =
    ap (good_place (watch_of s k).owner (watch_of s k).depth) (sym (place_again s k h bytes c u)) ∙ rw (eo, ed, er, ep)

-- ── a watch ──

module _ (ds : Domains) (x : Option Watch) (ws : Watches) where
  pub good_free : taken x ≡ false → good_watch_at ds x ws ≡ true
  unfolding good_watch_at
  good_free f = rw (free_none x f)

  module _ (t : taken x ≡ true) where
    abbrev w : Watch
    w = entry_or nobody x

    abbrev owner_known : Bool
    owner_known = known (domain_of w.owner) ds

    abbrev place_good : Bool
    place_good = good_place w.owner w.depth w.place

    abbrev again : Bool
    again = watched w.owner (place_text w.place) w.token ws

    good_is : good_watch_at ds x ws ≡ (owner_known && (no_nul w.token && (place_good && not again)))
    unfolding good_watch_at good_watch
    good_is =
        let clean = no_nul w.token in
        ap (λ (y : Option Watch). good_watch_at ds y ws) (taken-some nobody x t)
        ∙ and_assoc owner_known (clean && place_good) (not again)
        ∙ ap (λ (b : Bool). owner_known && b) (and_assoc clean place_good (not again))

    pub good-unknown : owner_known ≡ false → good_watch_at ds x ws ≡ false
    good-unknown k = good_is ∙ rw k

    pub good-nul : owner_known ≡ true → no_nul w.token ≡ false → good_watch_at ds x ws ≡ false
    good-nul k n = good_is ∙ rw (k, n)

    pub good_misplaced : owner_known ≡ true → no_nul w.token ≡ true → place_good ≡ false → good_watch_at ds x ws ≡ false
    good_misplaced k n p = good_is ∙ rw (k, n, p)

    pub good_placed : owner_known ≡ true → no_nul w.token ≡ true → place_good ≡ true → good_watch_at ds x ws ≡ not again
    good_placed k n p = good_is ∙ rw (k, n, p)

pub good_cons : (ds : Domains) (x : Option Watch) (ws : Watches) → good_watches ds (x ∷ ws) ≡ (good_watch_at ds x ws && good_watches ds ws)
unfolding good_watches good_watch_at
good_cons ds none ws = refl
good_cons ds (some w) ws = sym (and_assoc (good_watch ds w) (not (watched w.owner (place_text w.place) w.token ws)) (good_watches ds ws))

pub good_none : (ds : Domains) → good_watches ds [] ≡ true
unfolding good_watches
good_none ds = refl

abbrev pub good_check : Domains → ListCheck (Option Watch)
good_check ds = record { stand = none; all = good_watches ds; one = good_watch_at ds; empty = good_none ds; next = good_cons ds }
