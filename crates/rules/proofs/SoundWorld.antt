-- What a sound world is, entry by entry; its node table and its domains.
use mathlib.Core.Path.{◌≡◌, refl, sym, ◌∙◌, ap}
use mathlib.Core.Bool.{Bool, true, false, ◌&&◌, ◌||◌, and-eq-true_iff}
use mathlib.Core.List.{List, []}
use mathlib.Core.Option.{none, some}
use Prim.Native.Nat.{ℕ, ◌≤◌}
use native.Mathlib.Omega.{arith}
use lib.ListN.{length, get_or, set, length-set}
use lib.Seq.{get_or-set_other}
use lib.Dec.{eqb}
use borrow.Author.Tests.{eqb-true, eq-eqb, eqb-false}
use Rattle.rules.specs.Size.{most_changes, most_transactions, most_domains, most_watches, longest_token, table_size, last_domain}
use Rattle.rules.specs.Octets.{Octets, same}
use Rattle.rules.specs.Entries.{lowest, without, has}
use Rattle.rules.specs.Path.{Domain, domain_of, Names, is_control}
use Rattle.rules.specs.Node.{Table}
use Rattle.rules.specs.Payload.{Ask}
use Rattle.rules.specs.Answer.{Change, answer}
use Rattle.rules.specs.Event.{Watch, Watches, place_text}
use Rattle.rules.specs.Layout.{Domains, Transaction, Transactions, table_bytes, table_of}
use Rattle.rules.specs.Sound.{introduced, known, twin, good_table, sound_table, good_change, good_place, no_nul}
use Rattle.rules.specs.World.{World}
use Rattle.rules.proofs.Compare.{same_refl}
use Rattle.rules.proofs.Tables.{Each}
use Rattle.rules.proofs.Slots.{table-read, length-table}
use Rattle.rules.proofs.Places.{nothing, some_is, At, set_cases, lowest_free_lem, at_without, without_at, length_without, has_at, at_has, not_has}
use Rattle.rules.proofs.Fitting.{Fitting, decoded_fits, answer-fits}
use Rattle.rules.proofs.GoodTables.{Good, good_of, of_good}
use Rattle.rules.proofs.GoodAnswers.{answer-good}
use Rattle.rules.proofs.GoodRequests.{AskedGood}
use Rattle.rules.proofs.EntryLayouts.{PlaceFits, DepthFits}
use Rattle.rules.proofs.TransactionLayouts.{ChangeFits}
use Rattle.rules.proofs.Senders.{control-zero}

-- ── what soundness says ──

pub record DomainsSound (ds : Domains) : Type 0 where
  pub long : length ds ≡ most_domains
  pub range : (i : ℕ) (d : Domain) → At ds i d → (1 ≤ d) × (d ≤ last_domain)
  pub differ : (i j : ℕ) (d e : Domain) → At ds i d → At ds j e → d ≡ e → i ≡ j

pub record WatchSound (ds : Domains) (v : Watch) : Type 0 where
  pub known : known (domain_of v.owner) ds ≡ true
  pub token : no_nul v.token ≡ true
  pub place : good_place v.owner v.depth v.place ≡ true
  pub depth-fits : DepthFits v.depth
  pub token-fits : length v.token ≤ longest_token
  pub place-fits : PlaceFits v.place

-- two watches agree in owner, path and token
abbrev pub twins : Watch → Watch → Bool
twins v u = twin v.owner (place_text v.place) v.token u

pub record WatchesSound (ds : Domains) (ws : Watches) : Type 0 where
  pub long : length ws ≡ most_watches
  pub each : (i : ℕ) (v : Watch) → At ws i v → WatchSound ds v
  pub differ : (i j : ℕ) (v u : Watch) → At ws i v → At ws j u → twins v u ≡ true → i ≡ j

pub record TransactionSound (ds : Domains) (s : Octets) (x : Transaction) : Type 0 where
  pub known : known (domain_of x.holder) ds ≡ true
  pub few : length x.changes ≤ most_changes
  pub good : Each (λ (c : Change). good_change c ≡ true) x.changes
  pub fit : Each ChangeFits x.changes
  pub copy : sound_table s ≡ true

pub record TransactionsSound (ds : Domains) (xs : Transactions) (cs : List Octets) : Type 0 where
  pub long : length xs ≡ most_transactions
  pub copies : length cs ≡ most_transactions
  pub sized : Each (λ (c : Octets). length c ≡ table_size) cs
  pub each : (k : ℕ) (x : Transaction) → At xs k x → TransactionSound ds (get_or cs k []) x

pub record TableSound (t : Table) : Type 0 where
  pub good : Good t
  pub fitting : Fitting t

pub record SoundWorld (w : World) : Type 0 where
  pub nodes : TableSound w.nodes
  pub domains : DomainsSound w.domains
  pub watches : WatchesSound w.domains w.watches
  pub transactions : TransactionsSound w.domains w.transactions w.copies

-- ── node tables ──

pub table_encoded : (t : Table) → TableSound t → (sound_table (table_bytes t) ≡ true) × (length (table_bytes t) ≡ table_size)
unfolding sound_table
table_encoded t s =
    let e = table-read t s.fitting.long s.fitting.all in
    let l : length (table_bytes t) ≡ table_size = length-table t s.fitting.all ∙ (rw s.fitting.long) in
    (rw (e, eq-eqb _ _ l, same_refl (table_bytes t), of_good t s.good), l)

pub table_decoded : (s : Octets) → sound_table s ≡ true → TableSound (table_of s)
unfolding sound_table
table_decoded s h =
    let p = (and-eq-true_iff (eqb (length s) table_size) (same (table_bytes (table_of s)) s && good_table (table_of s))).0 h in
    let q = (and-eq-true_iff (same (table_bytes (table_of s)) s) (good_table (table_of s))).0 p.1 in
    record { good = good_of (table_of s) (omega (arith, (decoded_fits s).long)) q.1; fitting = decoded_fits s }

-- a node request's table is sound where the one before it was
pub asked-sound : (d : Domain) (a : Ask) (ns : Names) (t : Table) → d ≤ last_domain → AskedGood a ns → TableSound t → TableSound (answer d a ns t).table
asked-sound d a ns t h f s =
    record { good = answer-good d a ns t h f.entries f.names f.proper s.good; fitting = answer-fits d a ns t (omega arith) f.fits s.fitting }

-- ── domains ──

pub known_grown : (ds : Domains) (c d : Domain) → known c ds ≡ true → known c (set ds (lowest ds) (some d)) ≡ true
unfolding known introduced
known_grown ds c d h = go (is_control c) h
  where
    u : Domains
    u = set ds (lowest ds) (some d)

    go : (b : Bool) → (b || has (eqb c) ds) ≡ true → (b || has (eqb c) u) ≡ true
    go true q = refl
    go false q =
        let r = has_at (eqb c) ds q in
        at_has (eqb c) u r.0 r.1 (get_or-set_other ds (lowest ds) r.0 (some d) none
        (λ z. nothing (sym (lowest_free_lem ds) ∙ (ap (λ (i : ℕ). get_or ds i none) (sym z) ∙ r.2))) ∙ r.2) r.3

pub known_shrunk : (ds : Domains) (c d : Domain) → known c ds ≡ true → eqb d c ≡ false → known c (without (eqb d) ds) ≡ true
unfolding known introduced
known_shrunk ds c d h n = go (is_control c) h
  where
    go : (b : Bool) → (b || has (eqb c) ds) ≡ true → (b || has (eqb c) (without (eqb d) ds)) ≡ true
    go true q = refl
    go false q =
        let r = has_at (eqb c) ds q in
        at_has (eqb c) (without (eqb d) ds) r.0 r.1 (without_at (eqb d) ds r.0 r.1 r.2 (rw (← eqb-true c r.1 r.3) n)) r.3

pub known_range : (ds : Domains) (c : Domain) → DomainsSound ds → known c ds ≡ true → c ≤ last_domain
unfolding known introduced
known_range ds c s h = go (is_control c) refl h
  where
    go : (b : Bool) → is_control c ≡ b → (b || has (eqb c) ds) ≡ true → c ≤ last_domain
    go true e q = omega (arith, control-zero c e)
    go false e q =
        let r = has_at (eqb c) ds q in
        omega (arith, eqb-true c r.1 r.3, (s.range r.0 r.1 r.2).1)

pub domains_grown : (ds : Domains) (d : Domain) → DomainsSound ds → introduced d ds ≡ false → 1 ≤ d → d ≤ last_domain →
    DomainsSound (set ds (lowest ds) (some d))
unfolding introduced
domains_grown ds d s n l h =
    record {
      long = length-set ds (lowest ds) (some d) ∙ s.long;
      range = λ i e q. set_cases ((1 ≤ e) × (e ≤ last_domain)) ds (lowest ds) i (some d) e q (λ r p. rw (← some_is p) (l, h)) (λ r p. s.range i e p);
      differ = λ i j e f p q x.
          set_cases (i ≡ j) ds (lowest ds) i (some d) e p
          (λ r a. set_cases (i ≡ j) ds (lowest ds) j (some d) f q (λ v b. r ∙ sym v) (λ v b. absurd (alone j f b (some_is a ∙ x))))
          (λ r a. set_cases (i ≡ j) ds (lowest ds) j (some d) f q (λ v b. absurd (alone i e a (some_is b ∙ sym x))) (λ v b. s.differ i j e f a b x));
    }
  where
    alone : (i : ℕ) (e : Domain) → At ds i e → d ≡ e → ⊥
    alone i e p x = eqb-false d e (not_has (eqb d) ds n i e p) x

pub domains_shrunk : (ds : Domains) (test : Domain → Bool) → DomainsSound ds → DomainsSound (without test ds)
domains_shrunk ds test s =
    record {
      long = length_without test ds ∙ s.long;
      range = λ i d q. s.range i d (at_without test ds i d q).0;
      differ = λ i j d e p q. s.differ i j d e (at_without test ds i d p).0 (at_without test ds j e q).0;
    }
