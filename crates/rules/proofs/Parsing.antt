-- What a parsed request is sure to hold.
use mathlib.Core.Path.{◌≡◌, refl, ◌∙◌, ap}
use mathlib.Core.Bool.{true, false, cond, not, and-eq-true_iff}
use mathlib.Core.List.{List, [], ◌∷◌, ◌++◌, cons≢nil}
use mathlib.Core.Option.{Option, none, some}
use Prim.Native.Nat.{ℕ, ◌≤◌, ◌<◌, ◌^◌, ◌-◌}
use native.Mathlib.Omega.{arith}
use lib.Dec.{eqb, leb}
use borrow.Author.Tests.{le-leb}
use Rattle.rules.specs.Size.{last_domain, deepest_watch}
use Rattle.rules.specs.Octets.{Octets, text, nul, same, number_in, signed}
use Rattle.rules.specs.Path.{Domain, Connection, domain_of, Names, Given, malformed, absolute, relative, special, given, all_names, base, slashed, beyond}
use Rattle.rules.specs.Node.{Entry}
use Rattle.rules.specs.Payload.{Ask, directory, read, get_perms, write, mkdir, rm, set_perms, Place, Request, ask, release, domain_path}
use Rattle.rules.specs.Payload.{is_introduced, Parsed, invalid, request, Taken, before, ended, strings, first_string, access_letter, entry_of}
use Rattle.rules.specs.Payload.{entries_of, names_of, place_of, proper, asking, plain, writing, setting, setting_all, depth_for, watching_to}
use Rattle.rules.specs.Payload.{watch_payload, unwatch_payload, introducing_of, introduce_payload, of_domain, bare, start_payload, end_payload, parse}
use Rattle.rules.proofs.Cases.{cond_case, cond-known}
use Rattle.rules.specs.Sound.{good_entries, no_nul, strictly_below}
use Rattle.rules.proofs.Decimals.{range_bounds}
use Rattle.rules.proofs.PathLaws.{Means, means, beyond_append}
use Rattle.rules.proofs.RelativeLaws.{names_append, base-names}
use Rattle.rules.proofs.Tables.{Each, each_map}
use Rattle.rules.proofs.Slots.{EntryFits}
use Rattle.rules.proofs.Fitting.{AskFits}
use Rattle.rules.proofs.GoodAnswers.{AskGood}
use Rattle.rules.proofs.GoodRequests.{PlaceGood, RequestGood, ParsedGood}

-- ── numbers and entries ──

-- what an optional value is, if it is there
abbrev Whenever : {A : Type 0} → (A → Type 0) → Option A → Type 0
Whenever P none = Unit {0}
Whenever P (some a) = P a

range : (low high : ℕ) (s : Octets) → Whenever (λ (n : ℕ). (low ≤ n) × (n ≤ high)) (number_in low high s)
range low high s = go (number_in low high s) refl
  where
    go : (m : Option ℕ) → number_in low high s ≡ m → Whenever (λ (n : ℕ). (low ≤ n) × (n ≤ high)) m
    go none e = tt
    go (some n) e = range_bounds low high s n e

letter : (c : ℕ) → Whenever (λ (a : ℕ). a < 4) (access_letter c)
unfolding access_letter
letter c =
    cond_case P (eqb c 110) _ _ (omega arith) (cond_case P (eqb c 114) _ _ (omega arith)
    (cond_case P (eqb c 119) _ _ (omega arith) (cond_case P (eqb c 98) _ _ (omega arith) tt)))
  where
    P : Option ℕ → Type 0
    P = Whenever (λ (a : ℕ). a < 4)

-- an entry's access and domain are in range
pub record EntryGood (e : Entry) : Type 0 where
  pub fits : EntryFits e
  pub domain : leb e.domain last_domain ≡ true

entry-good : (s : Octets) → Whenever EntryGood (entry_of s)
unfolding entry_of
entry-good [] = tt
entry-good (c ∷ cs) = go (access_letter c) (number_in 0 last_domain cs) (letter c) (range 0 last_domain cs)
  where
    go : (a d : Option ℕ) → Whenever (λ (a : ℕ). a < 4) a → Whenever (λ (n : ℕ). (0 ≤ n) × (n ≤ last_domain)) d
        → Whenever EntryGood (elim a [ none ↦ none | some a ↦ elim d [ none ↦ none | some d ↦ some (record { access = a; domain = d }) ] ])
    go none d h k = tt
    go (some a) none h k = tt
    go (some a) (some d) h k = record { fits = record { access = h; domain = omega (arith, k.1) }; domain = le-leb d last_domain k.1 }

entries_are : (ss : List Octets) → Whenever (Each EntryGood) (entries_of ss)
unfolding entries_of
entries_are [] = tt
entries_are (s ∷ ss) = go (entry_of s) (entries_of ss) (entry-good s) (entries_are ss)
  where
    go : (e : Option Entry) (es : Option (List Entry)) → Whenever EntryGood e → Whenever (Each EntryGood) es
        → Whenever (Each EntryGood) (elim e [ none ↦ none | some e ↦ elim es [ none ↦ none | some es ↦ some (e ∷ es) ] ])
    go none es h k = tt
    go (some e) none h k = tt
    go (some e) (some es) h k = (h, k)

all-good : (es : List Entry) → Each EntryGood es → good_entries es ≡ true
unfolding good_entries
all-good [] h = refl
all-good (e ∷ es) h = (and-eq-true_iff (leb e.domain last_domain) (good_entries es)).1 (h.0.domain, all-good es h.1)

-- ── strings ──

no_nul_lem : (s : Octets) → Whenever (Each (λ (t : Octets). no_nul t ≡ true)) (strings s)
unfolding strings ended before no_nul
no_nul_lem [] = tt
no_nul_lem (c ∷ cs) = go (strings cs) (no_nul_lem cs)
  where
    NoNuls : Option (List Octets) → Type 0
    NoNuls = Whenever (Each (λ (t : Octets). no_nul t ≡ true))

    end_of : (m : Option (List Octets)) → NoNuls m → NoNuls (ended m)
    end_of none h = tt
    end_of (some ss) h = (refl, h)

    byte : (m : Option (List Octets)) → eqb c 0 ≡ false → NoNuls m → NoNuls (before c m)
    byte none e h = tt
    byte (some []) e h = tt
    byte (some (t ∷ ts)) e h = ((and-eq-true_iff (not (eqb c 0)) (no_nul t)).1 (ap not e, h.0), h.1)

    go : (m : Option (List Octets)) → NoNuls m → NoNuls (cond (eqb c 0) (ended m) (before c m))
    go m h = cond-known NoNuls (eqb c 0) _ _ (λ e. end_of m h) (λ e. byte m e h)

-- ── paths ──

-- below a domain's base
below-base : (d : Domain) (ns : Names) → all_names ns ≡ true → all_names (base d ++ ns) ≡ true
below-base d ns h = rw (names_append (base d) ns, base-names d) h

names_are : (d : Domain) (s : Octets) → Whenever (λ (ns : Names). all_names ns ≡ true) (names_of d (given s))
unfolding names_of
names_are d s = go (given s) (means s)
  where
    go : (g : Given) → Means s g → Whenever (λ (ns : Names). all_names ns ≡ true) (names_of d g)
    go malformed m = tt
    go (absolute ns) m = m.names
    go (relative ns) m = below-base d ns m.names
    go (special t) m = tt

strictly : (c : Connection) (s : Octets) (ns : Names) → 47 ∷ s ≡ slashed ns → strictly_below (beyond (base (domain_of c)) (base (domain_of c) ++ ns)) ≡ true
unfolding slashed strictly_below
strictly c s [] e = absurd (cons≢nil e)
strictly c s (n ∷ ns) e = rw beyond_append

place_is : (c : Connection) (s : Octets) → Whenever (PlaceGood c) (place_of (domain_of c) (given s))
unfolding place_of
place_is c s = go (given s) refl (means s)
  where
    go : (g : Given) → given s ≡ g → Means s g → Whenever (PlaceGood c) (place_of (domain_of c) g)
    go malformed e m = tt
    go (absolute ns) e m = (m.names, refl)
    go (relative ns) e m = (below-base (domain_of c) ns m.names, strictly c s ns m.text)
    go (special t) e m = rw m.text (e ∙ ap special m.text)

-- ── each type's payload ──

module _ (c : Connection) where
  abbrev Fine : Parsed → Type 0
  Fine = ParsedGood c

  asking-good : (a : Ask) (s : Octets) → AskGood a → AskFits a → Fine (asking (domain_of c) a s)
  unfolding asking
  asking-good a s g f = go (names_of (domain_of c) (given s)) (names_are (domain_of c) s)
    where
      go : (m : Option Names) → Whenever (λ (ns : Names). all_names ns ≡ true) m →
          Fine (elim m [ none ↦ invalid | some ns ↦ cond (proper a ns) (request (ask a ns)) invalid ])
      go none h = tt
      go (some ns) h = cond-known Fine (proper a ns) _ _ (λ e. record { names = h; proper = e; entries = g; fits = f }) (λ e. tt)

  plain-good : (a : Ask) (ss : Option (List Octets)) → AskGood a → AskFits a → Fine (plain (domain_of c) a ss)
  unfolding plain
  plain-good a none g f = tt
  plain-good a (some []) g f = tt
  plain-good a (some (s ∷ [])) g f = asking-good a s g f
  plain-good a (some (s ∷ t ∷ ss)) g f = tt

  writing-good : (t : Option Taken) → Fine (writing (domain_of c) t)
  unfolding writing
  writing-good none = tt
  writing-good (some t) = asking-good (write t.rest) t.first tt tt

  setting-good : (s : Octets) (es : Option (List Entry)) → Whenever (Each EntryGood) es → Fine (setting (domain_of c) s es)
  unfolding setting
  setting-good s none h = tt
  setting-good s (some []) h = tt
  setting-good s (some (o ∷ es)) h = asking-good (set_perms o es) s (all-good (o ∷ es) h)
      (h.0.fits, each_map EntryGood EntryFits (λ (e : Entry) (g : EntryGood e). g.fits) es h.1)

  setting_all-good : (ss : Option (List Octets)) → Fine (setting_all (domain_of c) ss)
  unfolding setting_all
  setting_all-good none = tt
  setting_all-good (some []) = tt
  setting_all-good (some (s ∷ ss)) = setting-good s (entries_of ss) (entries_are ss)

  watching_to-good : (p : Place) (t : Octets) (k : Option ℕ) → PlaceGood c p → no_nul t ≡ true → Whenever (λ (n : ℕ). (0 ≤ n) × (n ≤ deepest_watch)) k →
      Fine (watching_to p t k)
  unfolding watching_to
  watching_to-good p t none g n h = tt
  watching_to-good p t (some k) g n h = cond-known Fine (depth_for p k) _ _ (λ e. record { place = g; token = n; depth = (h.1, e) }) (λ e. tt)

  placed : (m : Option Place) (f : Place → Parsed) → Whenever (PlaceGood c) m → ((p : Place) → PlaceGood c p → Fine (f p)) →
      Fine (elim m [ none ↦ invalid | some p ↦ f p ])
  placed none f g h = tt
  placed (some p) f g h = h p g

  watching-good : (ss : Option (List Octets)) → Whenever (Each (λ (t : Octets). no_nul t ≡ true)) ss → Fine (watch_payload (domain_of c) ss)
  unfolding watch_payload
  watching-good none n = tt
  watching-good (some []) n = tt
  watching-good (some (s ∷ [])) n = tt
  watching-good (some (s ∷ t ∷ [])) n = placed (place_of (domain_of c) (given s)) _ (place_is c s) (λ p g. record { place = g; token = n.1.0; depth = tt })
  watching-good (some (s ∷ t ∷ k ∷ [])) n =
      placed (place_of (domain_of c) (given s)) _ (place_is c s) (λ p g. watching_to-good p t (number_in 0 deepest_watch k) g n.1.0 (range 0 deepest_watch k))
  watching-good (some (s ∷ t ∷ k ∷ u ∷ us)) n = tt

  unwatching-good : (ss : Option (List Octets)) → Fine (unwatch_payload (domain_of c) ss)
  unfolding unwatch_payload
  unwatching-good none = tt
  unwatching-good (some []) = tt
  unwatching-good (some (s ∷ [])) = tt
  unwatching-good (some (s ∷ t ∷ [])) = placed (place_of (domain_of c) (given s)) _ (place_is c s) (λ p g. tt)
  unwatching-good (some (s ∷ t ∷ u ∷ us)) = tt

  introducing-good : (ss : Option (List Octets)) → Fine (introduce_payload ss)
  unfolding introduce_payload introducing_of
  introducing-good none = tt
  introducing-good (some []) = tt
  introducing-good (some (s ∷ [])) = tt
  introducing-good (some (s ∷ t ∷ [])) = tt
  introducing-good (some (s ∷ t ∷ u ∷ [])) = go (number_in 1 last_domain s) (signed t) (number_in 0 (2 ^ 32 - 1) u) (range 1 last_domain s)
    where
      go : (i p n : Option ℕ) → Whenever (λ (n : ℕ). (1 ≤ n) × (n ≤ last_domain)) i → Fine (introducing_of i p n)
      go none p n h = tt
      go (some i) none n h = tt
      go (some i) (some p) none h = tt
      go (some i) (some p) (some n) h = h
  introducing-good (some (s ∷ t ∷ u ∷ v ∷ vs)) = tt

  of_domain-good : (low : ℕ) (f : Domain → Request) → ((i : Domain) → (low ≤ i) × (i ≤ last_domain) → RequestGood c (f i)) → (ss : Option (List Octets)) →
      Fine (of_domain low f ss)
  unfolding of_domain
  of_domain-good low f h none = tt
  of_domain-good low f h (some []) = tt
  of_domain-good low f h (some (s ∷ [])) = go (number_in low last_domain s) (range low last_domain s)
    where
      go : (m : Option ℕ) → Whenever (λ (n : ℕ). (low ≤ n) × (n ≤ last_domain)) m → Fine (elim m [ none ↦ invalid | some i ↦ request (f i) ])
      go none r = tt
      go (some i) r = h i r
  of_domain-good low f h (some (s ∷ t ∷ ss)) = tt

  -- ── every message ──

  pub parse-good : (type tx : ℕ) (s : Octets) → Fine (parse c type tx s)
  unfolding parse bare start_payload end_payload
  parse-good type tx s =
      let ss = strings s in
      next 1 _ _ (plain-good directory ss tt tt)
      (next 2 _ _ (plain-good read ss tt tt)
      (next 3 _ _ (plain-good get_perms ss tt tt)
      (next 4 _ _ (watching-good ss (no_nul_lem s))
      (next 5 _ _ (unwatching-good ss)
      (next 6 _ _ (cond_case Fine (eqb tx 0) _ _ (cond_case Fine (same s nul) _ _ tt tt) tt)
      (next 7 _ _ (cond_case Fine (same s (text "T" ++ nul)) _ _ tt (cond_case Fine (same s (text "F" ++ nul)) _ _ tt tt))
      (next 8 _ _ (introducing-good ss)
      (next 9 _ _ (of_domain-good 1 release (λ i r. r) ss)
      (next 10 _ _ (of_domain-good 0 domain_path (λ i r. tt) ss)
      (next 11 _ _ (writing-good (first_string s))
      (next 12 _ _ (plain-good mkdir ss tt tt)
      (next 13 _ _ (plain-good rm ss tt tt)
      (next 14 _ _ (setting_all-good ss)
      (next 17 _ _ (of_domain-good 0 is_introduced (λ i r. tt) ss)
      (next 21 _ _ (cond_case Fine (same s nul) _ _ tt tt)
      tt)))))))))))))))
    where
      next : (k : ℕ) (x y : Parsed) → Fine x → Fine y → Fine (cond (eqb type k) x y)
      next k x y p q = cond_case Fine (eqb type k) x y p q
