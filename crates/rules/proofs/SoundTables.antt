-- The rule book's tests of domains, watches and transactions, and what they say entry by entry.
use mathlib.Core.Path.{◌≡◌, refl, sym, subst}
use mathlib.Core.Bool.{Bool, true, not, ◌&&◌, and-eq-true_iff}
use mathlib.Core.List.{List, [], ◌∷◌}
use mathlib.Core.Option.{Option, none, some}
use Prim.Native.Nat.{ℕ, zero, suc}
use native.Mathlib.Omega.{arith}
use lib.ListN.{length, get_or}
use lib.Dec.{eqb, leb}
use borrow.Author.Tests.{eqb-true, eq-eqb, leb-true, le-leb}
use Rattle.rules.specs.Size.{most_domains, last_domain}
use Rattle.rules.specs.Octets.{Octets}
use Rattle.rules.specs.Entries.{has}
use Rattle.rules.specs.Path.{Domain, domain_of}
use Rattle.rules.specs.Answer.{Change}
use Rattle.rules.specs.Event.{Watches}
use Rattle.rules.specs.Layout.{Domains, Transaction, Transactions}
use Rattle.rules.specs.Sound.{introduced, known, watched, good_domains, good_watch, good_watches, good_change, good_changes, sound_table}
use Rattle.rules.specs.Sound.{good_transactions, good_place, no_nul}
use Rattle.rules.proofs.Tables.{Each}
use Rattle.rules.proofs.Places.{nothing, some_is, At, every, apart, every_at, at_every, related_one, one_related}
use Rattle.rules.proofs.EntryLayouts.{DomainFits, MaybeWatch}
use Rattle.rules.proofs.TransactionLayouts.{MaybeTransaction}
use Rattle.rules.proofs.SoundWorld.{DomainsSound, twins, WatchesSound, TransactionsSound, known_range}
use Rattle.rules.proofs.Senders.{connection_fits}

-- ── entries one by one ──

-- what holds of each entry that is there
each_of : {A : Type 0} (P : Option A → Type 0) (xs : List (Option A)) → P none → ((i : ℕ) (x : A) → At xs i x → P (some x)) → Each P xs
each_of P [] n h = tt
each_of P (none ∷ xs) n h = (n, each_of P xs n (λ i. h (suc i)))
each_of P (some x ∷ xs) n h = (h 0 x refl, each_of P xs n (λ i. h (suc i)))

-- ── domains ──

in_range : Domain → Bool
in_range d = leb 1 d && leb d last_domain

domains-parts : (ds : Domains) → good_domains ds ≡ true → (every in_range ds ≡ true) × (apart eqb ds ≡ true)
unfolding good_domains every apart in_range introduced
domains-parts [] h = (refl, refl)
domains-parts (none ∷ ds) h = domains-parts ds h
domains-parts (some d ∷ ds) h =
    let p = (and-eq-true_iff (leb 1 d) (leb d last_domain && (not (has (eqb d) ds) && good_domains ds))).0 h in
    let q = (and-eq-true_iff (leb d last_domain) (not (has (eqb d) ds) && good_domains ds)).0 p.1 in
    let r = (and-eq-true_iff (not (has (eqb d) ds)) (good_domains ds)).0 q.1 in
    let u = domains-parts ds r.1 in (
      (and-eq-true_iff (leb 1 d && leb d last_domain) (every in_range ds)).1 ((and-eq-true_iff (leb 1 d) (leb d last_domain)).1 (p.0, q.0), u.0),
      (and-eq-true_iff (not (has (eqb d) ds)) (apart eqb ds)).1 (r.0, u.1),
    )

parts-domains : (ds : Domains) → every in_range ds ≡ true → apart eqb ds ≡ true → good_domains ds ≡ true
unfolding good_domains every apart in_range introduced
parts-domains [] h k = refl
parts-domains (none ∷ ds) h k = parts-domains ds h k
parts-domains (some d ∷ ds) h k =
    let p = (and-eq-true_iff (leb 1 d && leb d last_domain) (every in_range ds)).0 h in
    let q = (and-eq-true_iff (leb 1 d) (leb d last_domain)).0 p.0 in
    let r = (and-eq-true_iff (not (has (eqb d) ds)) (apart eqb ds)).0 k in
    (and-eq-true_iff (leb 1 d) (leb d last_domain && (not (has (eqb d) ds) && good_domains ds))).1 (
      q.0,
      (and-eq-true_iff (leb d last_domain) (not (has (eqb d) ds) && good_domains ds)).1
          (q.1, (and-eq-true_iff (not (has (eqb d) ds)) (good_domains ds)).1 (r.0, parts-domains ds p.1 r.1)),
    )

eqb-sym : (a b : ℕ) → eqb a b ≡ true → eqb b a ≡ true
eqb-sym a b h = eq-eqb b a (sym (eqb-true a b h))

pub domains-good : (ds : Domains) → DomainsSound ds → good_domains ds ≡ true
unfolding in_range
domains-good ds s =
    parts-domains ds
    (at_every in_range ds (λ i d q. (and-eq-true_iff (leb 1 d) (leb d last_domain)).1 (le-leb 1 d (s.range i d q).0, le-leb d last_domain (s.range i d q).1)))
    (one_related eqb ds (λ i j d e p q h. s.differ i j d e p q (eqb-true d e h)))

pub good-domains : (ds : Domains) → length ds ≡ most_domains → good_domains ds ≡ true → DomainsSound ds
unfolding in_range
good-domains ds l h =
    let p = domains-parts ds h in
    record {
      long = l;
      range = λ i d q. let r = (and-eq-true_iff (leb 1 d) (leb d last_domain)).0 (every_at in_range ds p.0 i d q) in
          (leb-true 1 d r.0, leb-true d last_domain r.1);
      differ = λ i j d e a b x. related_one eqb eqb-sym ds p.1 i j d e a b (eq-eqb d e x);
    }

pub domains_fit : (ds : Domains) → DomainsSound ds → Each DomainFits ds
domains_fit ds s = each_of DomainFits ds tt (λ i d q. omega (arith, (s.range i d q).1))

-- ── watches ──

pub watches-parts : (ds : Domains) (ws : Watches) → good_watches ds ws ≡ true → (every (good_watch ds) ws ≡ true) × (apart twins ws ≡ true)
unfolding good_watches every apart watched
watches-parts ds [] h = (refl, refl)
watches-parts ds (none ∷ ws) h = watches-parts ds ws h
watches-parts ds (some v ∷ ws) h =
    let p = (and-eq-true_iff (good_watch ds v) (not (has (twins v) ws) && good_watches ds ws)).0 h in
    let q = (and-eq-true_iff (not (has (twins v) ws)) (good_watches ds ws)).0 p.1 in
    let u = watches-parts ds ws q.1 in
    ((and-eq-true_iff (good_watch ds v) (every (good_watch ds) ws)).1 (p.0, u.0), (and-eq-true_iff (not (has (twins v) ws)) (apart twins ws)).1 (q.0, u.1))

parts-watches : (ds : Domains) (ws : Watches) → every (good_watch ds) ws ≡ true → apart twins ws ≡ true → good_watches ds ws ≡ true
unfolding good_watches every apart watched
parts-watches ds [] h k = refl
parts-watches ds (none ∷ ws) h k = parts-watches ds ws h k
parts-watches ds (some v ∷ ws) h k =
    let p = (and-eq-true_iff (good_watch ds v) (every (good_watch ds) ws)).0 h in
    let q = (and-eq-true_iff (not (has (twins v) ws)) (apart twins ws)).0 k in
    (and-eq-true_iff (good_watch ds v) (not (has (twins v) ws) && good_watches ds ws)).1
    (p.0, (and-eq-true_iff (not (has (twins v) ws)) (good_watches ds ws)).1 (q.0, parts-watches ds ws p.1 q.1))

pub watches-good : (ds : Domains) (ws : Watches) → WatchesSound ds ws → good_watches ds ws ≡ true
unfolding good_watch
watches-good ds ws s =
    parts-watches ds ws
    (at_every (good_watch ds) ws (λ i v q.
    let w = s.each i v q in
    (and-eq-true_iff (known (domain_of v.owner) ds) (no_nul v.token && good_place v.owner v.depth v.place)).1
    (w.known, (and-eq-true_iff (no_nul v.token) (good_place v.owner v.depth v.place)).1 (w.token, w.place))))
    (one_related twins ws s.differ)

pub watches_fit : (ds : Domains) (ws : Watches) → DomainsSound ds → WatchesSound ds ws → Each MaybeWatch ws
watches_fit ds ws d s = each_of MaybeWatch ws tt λ i v q.
    let w = s.each i v q in
    record {
      owner = connection_fits v.owner (known_range ds (domain_of v.owner) d w.known);
      depth = w.depth-fits;
      token = w.token-fits;
      place = w.place-fits;
    }

-- ── transactions ──

pub changes-good : (cs : List Change) → Each (λ (c : Change). good_change c ≡ true) cs → good_changes cs ≡ true
unfolding good_changes
changes-good [] h = refl
changes-good (c ∷ cs) h = (and-eq-true_iff (good_change c) (good_changes cs)).1 (h.0, changes-good cs h.1)

pub good-changes : (cs : List Change) → good_changes cs ≡ true → Each (λ (c : Change). good_change c ≡ true) cs
unfolding good_changes
good-changes [] h = tt
good-changes (c ∷ cs) h = let p = (and-eq-true_iff (good_change c) (good_changes cs)).0 h in (p.0, good-changes cs p.1)

-- an open transaction, as the test sees it
abbrev GoodTransaction : Domains → Octets → Transaction → Type 0
GoodTransaction ds copy x = (known (domain_of x.holder) ds ≡ true) × (good_changes x.changes ≡ true) × (sound_table copy ≡ true)

pub transactions-good : (ds : Domains) (xs : Transactions) (cs : List Octets) → length cs ≡ length xs →
    ((k : ℕ) (x : Transaction) → At xs k x → GoodTransaction ds (get_or cs k []) x)
    → good_transactions ds xs cs ≡ true
unfolding good_transactions
transactions-good ds [] cs l h = refl
transactions-good ds (none ∷ xs) [] l h = absurd (omega arith)
transactions-good ds (none ∷ xs) (c ∷ cs) l h = transactions-good ds xs cs (omega arith) (λ k. h (suc k))
transactions-good ds (some x ∷ xs) [] l h = absurd (omega arith)
transactions-good ds (some x ∷ xs) (c ∷ cs) l h =
    let p = h 0 x refl in
    (and-eq-true_iff (known (domain_of x.holder) ds) (good_changes x.changes && (sound_table c && good_transactions ds xs cs))).1 (
      p.0,
      (and-eq-true_iff (good_changes x.changes) (sound_table c && good_transactions ds xs cs)).1
          (p.1, (and-eq-true_iff (sound_table c) (good_transactions ds xs cs)).1 (p.2, transactions-good ds xs cs (omega arith) (λ k. h (suc k)))),
    )

pub good-transactions : (ds : Domains) (xs : Transactions) (cs : List Octets) → good_transactions ds xs cs ≡ true → length cs ≡ length xs
    → (k : ℕ) (x : Transaction) → At xs k x → GoodTransaction ds (get_or cs k []) x
unfolding good_transactions
good-transactions ds [] cs h l k x e = absurd (nothing e)
good-transactions ds (m ∷ xs) [] h l k x e = absurd (omega arith)
good-transactions ds (none ∷ xs) (c ∷ cs) h l zero x e = absurd (nothing e)
good-transactions ds (none ∷ xs) (c ∷ cs) h l (suc k) x e = good-transactions ds xs cs h (omega arith) k x e
good-transactions ds (some y ∷ xs) (c ∷ cs) h l k x e =
    let p = (and-eq-true_iff (known (domain_of y.holder) ds) (good_changes y.changes && (sound_table c && good_transactions ds xs cs))).0 h in
    let q = (and-eq-true_iff (good_changes y.changes) (sound_table c && good_transactions ds xs cs)).0 p.1 in
    let r = (and-eq-true_iff (sound_table c) (good_transactions ds xs cs)).0 q.1 in
    go k e p.0 q.0 r.0 (good-transactions ds xs cs r.1 (omega arith))
  where
    go : (k : ℕ) → At (some y ∷ xs) k x → known (domain_of y.holder) ds ≡ true → good_changes y.changes ≡ true → sound_table c ≡ true
        → ((k : ℕ) (x : Transaction) → At xs k x → GoodTransaction ds (get_or cs k []) x) → GoodTransaction ds (get_or (c ∷ cs) k []) x
    go zero e a b d f = subst (GoodTransaction ds c) (some_is e) (a, b, d)
    go (suc k) e a b d f = f k x e

pub transactions_fit : (ds : Domains) (xs : Transactions) (cs : List Octets) → DomainsSound ds → TransactionsSound ds xs cs → Each MaybeTransaction xs
transactions_fit ds xs cs d s = each_of MaybeTransaction xs tt λ k x q.
    let w = s.each k x q in
    record { holder = connection_fits x.holder (known_range ds (domain_of x.holder) d w.known); few = w.few; changes = w.fit }
