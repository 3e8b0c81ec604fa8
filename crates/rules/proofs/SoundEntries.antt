-- Sound watches and transactions stay so: those left by a removal, those become stale, and a watch that is added.
use mathlib.Core.Path.{◌≡◌, refl, sym, ◌∙◌, subst}
use mathlib.Core.Bool.{Bool, true, false, not, ◌&&◌, ◌||◌, true≢false, and-eq-true_iff}
use mathlib.Core.List.{List, []}
use mathlib.Core.Option.{Option, none, some}
use Prim.Native.Nat.{ℕ, ◌≤◌, ◌<◌}
use native.Mathlib.Omega.{arith}
use lib.ListN.{length, get_or, set, length-set}
use lib.Seq.{get_or-set_same, get_or-set_other}
use lib.Dec.{eqb, leb, lit≤}
use borrow.Author.Tests.{eqb-true, eq-eqb, le-leb}
use Rattle.rules.specs.Size.{longest_path}
use Rattle.rules.specs.Octets.{Octets, text, same}
use Rattle.rules.specs.Entries.{lowest}
use Rattle.rules.specs.Path.{Domain, Connection, domain_of, Names, is_control, all_names, fits, special, given, base, beyond, introduce_name, release_name}
use Rattle.rules.specs.Node.{Table, owned_by}
use Rattle.rules.specs.Payload.{Place, path, event, depth_for}
use Rattle.rules.specs.Answer.{Change}
use Rattle.rules.specs.Event.{Watch, Watches, place_text}
use Rattle.rules.specs.Layout.{Domains, Transaction, Transactions, table_bytes}
use Rattle.rules.specs.Sound.{known, twin, watched, sound_table, good_change, good_place, strictly_below, event_depth}
use Rattle.rules.specs.World.{World, staled_if, place_fits}
use Rattle.rules.proofs.Compare.{same_eq, eq_same}
use Rattle.rules.proofs.Tables.{Each, each_set, each_map}
use Rattle.rules.proofs.Places.{nothing, some_is, At, set_cases, not_has}
use Rattle.rules.proofs.PathLaws.{Means, means, fits-length}
use Rattle.rules.proofs.Changes.{good-parts, parents-few}
use Rattle.rules.proofs.GoodTables.{Good}
use Rattle.rules.proofs.GoodRequests.{PlaceGood, DepthGood}
use Rattle.rules.proofs.EntryLayouts.{PlaceFits, DepthFits}
use Rattle.rules.proofs.TransactionLayouts.{ChangeFits}
use Rattle.rules.proofs.Owned.{OwnedSlot, owned_slots}
use Rattle.rules.proofs.OpenTransactions.{get_or-staled, length-staled_if}
use Rattle.rules.proofs.SoundWorld.{WatchSound, twins, WatchesSound, TransactionSound, TransactionsSound, TableSound, table_encoded}

-- ── watches ──

-- watches that were there before, with owners that are still known
pub watches-left : {ds : Domains} {ws : Watches} (es : Domains) (us : Watches) → WatchesSound ds ws → length us ≡ length ws
    → ((i : ℕ) (v : Watch) → At us i v → At ws i v × (known (domain_of v.owner) es ≡ true)) → WatchesSound es us
watches-left es us s l f =
    record {
      long = l ∙ s.long;
      each = λ i v q.
          let r = f i v q in
          let w = s.each i v r.0 in
          record { known = r.1; token = w.token; place = w.place; depth-fits = w.depth-fits; token-fits = w.token-fits; place-fits = w.place-fits };
      differ = λ i j v u p q. s.differ i j v u (f i v p).0 (f j u q).0;
    }

pub twins_sym : (v u : Watch) → twins v u ≡ true → twins u v ≡ true
unfolding twin
twins_sym v u h =
    let p = (and-eq-true_iff (eqb v.owner u.owner) (same (place_text v.place) (place_text u.place) && same v.token u.token)).0 h in
    let q = (and-eq-true_iff (same (place_text v.place) (place_text u.place)) (same v.token u.token)).0 p.1 in
    (and-eq-true_iff (eqb u.owner v.owner) (same (place_text u.place) (place_text v.place) && same u.token v.token)).1 (
      eq-eqb u.owner v.owner (sym (eqb-true v.owner u.owner p.0)),
      (and-eq-true_iff (same (place_text u.place) (place_text v.place)) (same u.token v.token)).1
          (eq_same (sym (same_eq _ _ q.0)), eq_same (sym (same_eq _ _ q.1))),
    )

pub watches_grown : (ds : Domains) (ws : Watches) (v : Watch) → WatchesSound ds ws → WatchSound ds v →
    watched v.owner (place_text v.place) v.token ws ≡ false
    → WatchesSound ds (set ws (lowest ws) (some v))
unfolding watched
watches_grown ds ws v s n h =
    record {
      long = length-set ws (lowest ws) (some v) ∙ s.long;
      each = λ i u q. set_cases (WatchSound ds u) ws (lowest ws) i (some v) u q (λ r p. subst (WatchSound ds) (some_is p) n) (λ r p. s.each i u p);
      differ = λ i j x y p q e.
          set_cases (i ≡ j) ws (lowest ws) i (some v) x p
          (λ r a. set_cases (i ≡ j) ws (lowest ws) j (some v) y q (λ t b. r ∙ sym t)
          (λ t b. absurd (alone j y b (subst (λ (z : Watch). twins z y ≡ true) (sym (some_is a)) e))))
          (λ r a. set_cases (i ≡ j) ws (lowest ws) j (some v) y q (λ t b. absurd
          (alone i x a (twins_sym x v (subst (λ (z : Watch). twins x z ≡ true) (sym (some_is b)) e))))
          (λ t b. s.differ i j x y a b e));
    }
  where
    alone : (i : ℕ) (u : Watch) → At ws i u → twins v u ≡ true → ⊥
    alone i u p e = true≢false (sym e ∙ not_has (twin v.owner (place_text v.place) v.token) ws h i u p)

-- ── transactions ──

-- transactions that were there before, stale or not, with holders that are still known
pub transactions-left : {ds : Domains} {xs : Transactions} {cs : List Octets} (es : Domains) (ys : Transactions) → TransactionsSound ds xs cs →
    length ys ≡ length xs
    → ((k : ℕ) (y : Transaction) → At ys k y → (x : Transaction) × At xs k x × (y.changes ≡ x.changes) × (known (domain_of y.holder) es ≡ true)) →
    TransactionsSound es ys cs
transactions-left es ys s l f =
    record {
      long = l ∙ s.long;
      copies = s.copies;
      sized = s.sized;
      each = λ k y q.
          let r = f k y q in
          let w = s.each k r.0 r.1 in
          record { known = r.3; few = rw r.2 w.few; good = rw r.2 w.good; fit = rw r.2 w.fit; copy = w.copy };
    }

-- transaction k written, with a copy of a sound table
pub transactions-written : {ds : Domains} {xs : Transactions} {cs : List Octets} (k : ℕ) (y : Transaction) (t : Table) → TransactionsSound ds xs cs →
    k < length xs → TableSound t
    → (sound_table (table_bytes t) ≡ true → TransactionSound ds (table_bytes t) y) → TransactionsSound ds (set xs k (some y)) (set cs k (table_bytes t))
transactions-written {ds} {xs} {cs} k y t s l h f =
    record {
      long = length-set xs k (some y) ∙ s.long;
      copies = length-set cs k (table_bytes t) ∙ s.copies;
      sized = each_set _ cs k (table_bytes t) s.sized (table_encoded t h).1;
      each = λ j x q.
          set_cases (TransactionSound ds (get_or (set cs k (table_bytes t)) j []) x) xs k j (some y) x q
          (λ r p. rw (r, get_or-set_same cs k (table_bytes t) [] (omega (arith, s.long, s.copies)))
          (subst (TransactionSound ds (table_bytes t)) (some_is p) (f (table_encoded t h).0)))
          (λ r p. rw (get_or-set_other cs k j (table_bytes t) [] r) (s.each j x p));
    }

-- an entry after some became stale, or none did
pub unstaled : (b : Bool) (ys : Transactions) (k : ℕ) (y : Transaction) → At (staled_if b ys) k y →
    (x : Transaction) × At ys k x × (y.holder ≡ x.holder) × (y.changes ≡ x.changes)
unfolding staled_if
unstaled false ys k y e = (y, e, refl, refl)
unstaled true ys k y e = let r = get_or-staled ys k y e in (r.0, r.1, r.2, r.4)

-- transactions of the same domains, some closed, all stale or none
pub transactions-staled : {ds : Domains} {xs : Transactions} {cs : List Octets} (b : Bool) (ys : Transactions) → TransactionsSound ds xs cs →
    length ys ≡ length xs
    → ((k : ℕ) (y : Transaction) → At ys k y → At xs k y) → TransactionsSound ds (staled_if b ys) cs
transactions-staled {ds} {xs} {cs} b ys s l f =
    transactions-left ds (staled_if b ys) s (length-staled_if b ys ∙ l) λ k y q.
    let r = unstaled b ys k y q in
    (r.0, f k r.0 r.1, r.3, rw r.2 (s.each k r.0 (f k r.0 r.1)).known)

pub closed-before : (xs : Transactions) (j k : ℕ) (y : Transaction) → At (set xs j none) k y → At xs k y
closed-before xs j k y q = set_cases (At xs k y) xs j k none y q (λ r p. absurd (nothing p)) (λ r p. p)

-- ── what a release removes ──

abbrev pub NotRoot : ℕ → Type 0
NotRoot i = i ≡ 0 → ⊥

pub owned_fine : (t : Table) (d : Domain) → Good t → 1 ≤ d → Each NotRoot (owned_by t d)
owned_fine t d g h = each_map (OwnedSlot t d) NotRoot (λ i s. s.not_root) (owned_by t d) (owned_slots t g d h)

-- ── what a WATCH adds ──

-- an event's name is one of the two
special_is : (e : Octets) → given e ≡ special e → (1 ≤ length e) × (length e ≤ longest_path)
unfolding introduce_name release_name text
special_is e h = go (same e introduce_name) refl (subst (Means e) h (means e)).named
  where
    go : (b : Bool) → same e introduce_name ≡ b → (b || same e release_name) ≡ true → (1 ≤ length e) × (length e ≤ longest_path)
    go true p q = rw (same_eq _ _ p) (lit≤ tt, lit≤ tt)
    go false p q = rw (same_eq _ _ q) (lit≤ tt, lit≤ tt)

-- an event is for domain 0 alone
abbrev pub Controlled : Connection → Place → Type 0
Controlled c (path r ns) = Unit {0}
Controlled c (event e) = is_control (domain_of c) ≡ true

pub depth-fits : (p : Place) (k : Option ℕ) → DepthGood p k → DepthFits k
depth-fits p none h = tt
depth-fits p (some k) h = omega (arith, h.0)

event-depth : (e : Octets) (k : Option ℕ) → DepthGood (event e) k → event_depth k ≡ true
unfolding event_depth depth_for
event-depth e none h = refl
event-depth e (some k) h = h.1

pub place-good : (w : World) (c : Connection) (p : Place) (k : Option ℕ) → place_fits w p ≡ true → PlaceGood c p → DepthGood p k → Controlled c p →
    good_place c k p ≡ true
unfolding place_fits good_place
place-good w c (path r ns) k h f g u = (and-eq-true_iff (fits ns) (not r || strictly_below (beyond (base (domain_of c)) ns))).1 (h, f.1)
place-good w c (event e) k h f g u =
    (and-eq-true_iff (leb 1 (length e)) (is_control (domain_of c) && event_depth k)).1
    (le-leb 1 (length e) (special_is e f).0, (and-eq-true_iff (is_control (domain_of c)) (event_depth k)).1 (u, event-depth e k g))

pub place-fits : (w : World) (c : Connection) (p : Place) → place_fits w p ≡ true → PlaceGood c p → PlaceFits p
unfolding place_fits
place-fits w c (path r ns) h f = (f.0, fits-length ns h)
place-fits w c (event e) h f = (f, (special_is e f).1)

pub change-fits : (c : Change) (ns : Names) → all_names ns ≡ true → (c.names ≡ ns) × (good_change c ≡ true) → ChangeFits c
change-fits c ns h t =
    let p = good-parts c t.1 in
    record { parents = parents-few c p; names = rw t.0 h; short = fits-length c.names p.fitting }
