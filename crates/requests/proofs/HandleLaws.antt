-- What is known of the lent tables where a request is handled, and what each kind of request comes to.
use mathlib.Core.Path.{◌≡◌, refl, sym, ap, subst, ◌∙◌}
use mathlib.Core.Bool.{Bool, true, false, cond, and-eq-true_iff}
use mathlib.Core.List.{List, [], map-id}
use mathlib.Core.Option.{none, some}
use Prim.Native.Nat.{ℕ, ◌≤◌, ◌<◌}
use lib.Dec.{eqb}
use lib.ListN.{length, get_or}
use borrow.Author.Tests.{eqb-true}
use Rattle.rules.specs.Size.{last_domain, most_transactions, table_size, copies_size}
use Rattle.rules.specs.Octets.{Octets, chunks}
use Rattle.rules.specs.Domain.{Domain, Connection, is_control}
use Rattle.rules.specs.Payload.{parse}
use Rattle.rules.specs.Answer.{EACCES, refused}
use Rattle.rules.specs.Layout.{opened, table_of, watches_of, transactions_of, domains_of}
use Rattle.rules.specs.Sound.{sound_table, sound_domains, sound_watches, sound_transactions}
use Rattle.rules.specs.World as W
use Rattle.rules.specs.World.{World, left, for_control}
use Rattle.rules.specs.Call as Call
use Rattle.rules.specs.Call.{Tables, Lendable, sized_tables, world_of, outcome_of}
use Rattle.rules.proofs.Tables.{decoded_at, length-chunks}
use Rattle.rules.proofs.EntryLayouts.{whole}
use Rattle.rules.proofs.Senders.{connection_fits}
use Rattle.rules.proofs.SoundBytes.{decoded}
use Rattle.rules.proofs.SoundTables.{changes-good}
use Rattle.rules.proofs.SoundWorld.{SoundWorld, known_range}
use Rattle.senders.specs.Speaks.{Speaks}
use Rattle.senders.specs.declared.Sender.{Sender}
use Rattle.slots.specs.Slot.{Canonical}
use Rattle.slots.proofs.Canonical.{sound_canonical}
use Rattle.transactions.specs.Checks.{sound_entries}
use Rattle.domains.specs.Kept.{KeptDomains}
use Rattle.watches.specs.Watch.{KeptWatches}
use Rattle.transactions.specs.Transaction.{KeptTransactions}
use Rattle.domains.proofs.Search.{taken-some}
use Rattle.domains.proofs.Laws as domains
use Rattle.watches.proofs.Written as watches
use Rattle.transactions.proofs.Good as transactions
use Rattle.std.specs.Prelude as code
use Rattle.replies.specs.Handled.{Outcome, Handled}
use Rattle.replies.specs.Does.{lent, Shows, its_nodes, its_copies, its_watches, its_transactions, its_domains}
use Rattle.handlers.specs.Asking.{copy_in}
use Rattle.handlers.specs.Transacting.{Committable}
use Rattle.handlers.specs.Releasing.{Releasable}
use Rattle.handlers.proofs.Alone.{nodes-alone, copies-alone, watches-alone, transactions-alone, domains-alone}
use Rattle.handlers.proofs.Ways.{its_tables, same_tables_lem, handled_as}
use Rattle.handlers.proofs.StartLaws.{three_transactions}
use Rattle.payload.specs.Meaning.{meant, kept, Sound, Means}
use Rattle.payload.specs.declared.answer.Request.{Request}
use Rattle.payload.specs.declared.answer.Request.TheVariants as request
use Rattle.payload.specs.declared.answer.Ask.{Ask}
use Rattle.payload.specs.declared.answer.Path.{Path}
use Rattle.payload.proofs.Kept.{kept-outcome}
use Rattle.requests.specs.Kinds.{AsksNoNode}
use Rattle.requests.specs.Served.{Served}

-- ── the tables ──

-- the copy of an open transaction
copy_at : (cs : Octets) (k : ℕ) → k < most_transactions → get_or (chunks most_transactions table_size cs) k [] ≡ copy_in cs k
copy_at cs k h = sym (ap (λ (x : List Octets). get_or x k []) (map-id (chunks most_transactions table_size cs)))
    ∙ decoded_at whole most_transactions table_size k cs [] h

module _ (t : Tables) (sender : Sender) (reply events s : Octets) (v : Served t sender reply events s) where
  lendable : Lendable t
  lendable = record { sized = v.sized; sound = v.sound }

  sound-world : SoundWorld (world_of t)
  sound-world = decoded t lendable

  tests : (sound_table t.nodes ≡ true) × (sound_domains t.domains ≡ true) × (sound_watches (domains_of t.domains) t.watches ≡ true)
      × (sound_transactions (domains_of t.domains) (chunks most_transactions table_size t.copies) t.transactions ≡ true)
  unfolding Call.sound
  tests =
      let a = (and-eq-true_iff (sound_table t.nodes) _).0 v.sound in
      let b = (and-eq-true_iff (sound_domains t.domains) _).0 a.1 in
      let d = (and-eq-true_iff (sound_watches (domains_of t.domains) t.watches) _).0 b.1 in
      (a.0, b.0, d.0, d.1)

  copies-long : length t.copies ≡ copies_size
  unfolding sized_tables
  copies-long =
      let a = (and-eq-true_iff (eqb (length t.nodes) table_size) _).0 v.sized in
      let b = (and-eq-true_iff (eqb (length t.copies) copies_size) _).0 a.1 in
      eqb-true (length t.copies) copies_size b.0

  pub sender-low : sender.domain ≤ last_domain
  unfolding world_of
  sender-low = known_range (domains_of t.domains) sender.domain sound-world.domains v.known

  pub connection_low : sender.connection < 65536
  connection_low = connection_fits sender.connection (subst (λ (d : Domain). d ≤ last_domain) v.speaks sender-low)

  pub nodes_canonical : Canonical t.nodes
  nodes_canonical = sound_canonical t.nodes tests.0

  pub domains-kept : KeptDomains t.domains
  domains-kept = domains.sound-kept t.domains tests.1

  pub watches-kept : KeptWatches t.watches
  watches-kept = watches.sound-kept (domains_of t.domains) t.watches tests.2

  pub transactions-kept : KeptTransactions t.transactions
  transactions-kept =
      let l = length-chunks most_transactions table_size t.copies ∙ sym (three_transactions t.transactions) in
      let e = transactions.sound-parts (domains_of t.domains) (chunks most_transactions table_size t.copies) t.transactions l in
      transactions.sound-kept (domains_of t.domains) t.transactions
      ((and-eq-true_iff (sound_entries (domains_of t.domains) t.transactions) _).0 (sym e ∙ tests.3)).0

  pub committable : Committable t.nodes t.copies t.watches t.transactions reply events
  unfolding world_of
  committable =
      record {
        sound = tests.0;
        whole = copies-long;
        copy = λ k o.
            let x = taken-some (opened 0) (get_or (transactions_of t.transactions) k none) o.used in
            subst (λ (y : Octets). sound_table y ≡ true) (copy_at t.copies k o.below) (sound-world.transactions.each k _ x).copy;
        good = λ k o.
            let x = taken-some (opened 0) (get_or (transactions_of t.transactions) k none) o.used in
            changes-good _ (sound-world.transactions.each k _ x).good;
        watching = watches-kept;
        kept = transactions-kept;
        long = v.reply;
        room = v.events;
      }

  pub releasable : Releasable t.nodes t.watches t.transactions t.domains events
  releasable = record { sound = tests.0; watching = watches-kept; kept = transactions-kept; known = domains-kept; room = v.events }

  -- a table that is left alone, in any world that agrees with it
  module _ (w : World) where
    pub nodes-left : w.nodes ≡ table_of t.nodes → t.nodes ≡ its_nodes w
    nodes-left = nodes-alone w t.nodes tests.0

    pub copies-left : w.copies ≡ chunks most_transactions table_size t.copies → t.copies ≡ its_copies w
    copies-left = copies-alone w t.copies copies-long

    pub watches-left : w.watches ≡ watches_of t.watches → t.watches ≡ its_watches w
    watches-left = watches-alone w t.watches watches-kept

    pub transactions-left : w.transactions ≡ transactions_of t.transactions → t.transactions ≡ its_transactions w
    transactions-left = transactions-alone w t.transactions transactions-kept

    pub domains-left : w.domains ≡ domains_of t.domains → t.domains ≡ its_domains w
    domains-left = domains-alone w t.domains domains-kept

    -- all of them
    pub all_left : Shows (lent (some t.nodes) (some t.copies) (some t.watches) (some t.transactions) (some t.domains) reply (some events)) w →
        t ≡ its_tables w
    all_left l =
        same_tables_lem (nodes-left l.nodes) (copies-left l.copies) (watches-left l.watches) (transactions-left l.transactions)
        (domains-left l.domains)

-- ── the request ──

-- a request's outcome is that of what the payload was read as
pub parsed_outcome : (s : Octets) (type tx : ℕ) (r : Request) → Means s r (λ (c : Connection). kept (parse c type tx s)) → (sender : Sender) → Speaks sender →
    (w : World) → outcome_of w sender.connection tx (parse sender.connection type tx s) ≡ outcome_of w sender.connection tx (meant sender.domain s r)
parsed_outcome s type tx r m sender speaks w =
    let c = sender.connection in
    sym (kept-outcome w c tx (parse c type tx s))
    ∙ ap (outcome_of w c tx) (sym (m.meaning c))
    ∙ ap (λ (d : Domain). outcome_of w c tx (meant d s r)) (sym speaks)

pub asks_no_node : (r : Request) → ((a : Ask) (p : Path) → r ≡ request.Ask a p → ⊥) → AsksNoNode r
asks_no_node request.Unknown h = tt
asks_no_node request.Invalid h = tt
asks_no_node (request.Ask a p) h = h a p refl
asks_no_node (request.Watch p a e d) h = tt
asks_no_node (request.Unwatch p a e) h = tt
asks_no_node request.Start h = tt
asks_no_node (request.End b) h = tt
asks_no_node (request.Introduce i p c) h = tt
asks_no_node (request.Release i) h = tt
asks_no_node (request.DomainPath i) h = tt
asks_no_node (request.IsIntroduced i) h = tt
asks_no_node request.Reset h = tt

-- a request of no other kind, and no ask, is an unknown one
pub is_unknown : (r : Request) → AsksNoNode r → (r ≡ request.Invalid → ⊥)
    → ((p : Path) (a e : ℕ) (d : code.Option ℕ) → r ≡ request.Watch p a e d → ⊥) → ((p : Path) (a e : ℕ) → r ≡ request.Unwatch p a e → ⊥)
    → (r ≡ request.Start → ⊥) → ((b : Bool) → r ≡ request.End b → ⊥) → ((i p c : ℕ) → r ≡ request.Introduce i p c → ⊥)
    → ((i : ℕ) → r ≡ request.Release i → ⊥) → ((i : ℕ) → r ≡ request.DomainPath i → ⊥) → ((i : ℕ) → r ≡ request.IsIntroduced i → ⊥)
    → (r ≡ request.Reset → ⊥) → r ≡ request.Unknown
is_unknown request.Unknown k a b c d e f g h i j = refl
is_unknown request.Invalid k a b c d e f g h i j = absurd (a refl)
is_unknown (request.Ask q p) k a b c d e f g h i j = absurd k
is_unknown (request.Watch p s n t) k a b c d e f g h i j = absurd (b p s n t refl)
is_unknown (request.Unwatch p s n) k a b c d e f g h i j = absurd (c p s n refl)
is_unknown request.Start k a b c d e f g h i j = absurd (d refl)
is_unknown (request.End x) k a b c d e f g h i j = absurd (e x refl)
is_unknown (request.Introduce x p n) k a b c d e f g h i j = absurd (f x p n refl)
is_unknown (request.Release x) k a b c d e f g h i j = absurd (g x refl)
is_unknown (request.DomainPath x) k a b c d e f g h i j = absurd (h x refl)
is_unknown (request.IsIntroduced x) k a b c d e f g h i j = absurd (i x refl)
is_unknown request.Reset k a b c d e f g h i j = absurd (j refl)

-- the outcome and the bounds of a request whose kind is known
module _ {r r' : Request} (e : r ≡ r') where
  pub sound_as : (s : Octets) → Sound s r → Sound s r'
  sound_as s h = subst (Sound s) e h

  pub read_as : (w : World) (c : Connection) (tx : ℕ) (d : Domain) (s : Octets) → outcome_of w c tx (meant d s r) ≡ outcome_of w c tx (meant d s r')
  read_as w c tx d s = ap (λ (x : Request). outcome_of w c tx (meant d s x)) e

-- the outcome and the tables by other names
pub handled_so : {o o' : W.Outcome} {t t' : Tables} {reply reply' events events' : Octets} {r : Outcome} → o ≡ o' → t ≡ t' →
    Handled o' t' reply reply' events events' r → Handled o t reply reply' events events' r
handled_so {o' = o} {reply = a} {reply' = b} {events = c} {events' = d} {r = r} e k h = handled_as e (subst (λ (x : Tables). Handled o x a b c d r) (sym k) h)

-- ── for the control domain alone ──

module _ (w : World) (sender : Sender) (speaks : Speaks sender) (o : W.Outcome) where
  by_domain : for_control w sender.connection o ≡ cond (is_control sender.domain) o (left w (refused EACCES))
  unfolding for_control
  by_domain = ap (λ (d : Domain). cond (is_control d) o (left w (refused EACCES))) (sym speaks)

  pub control_denied : is_control sender.domain ≡ false → for_control w sender.connection o ≡ left w (refused EACCES)
  control_denied h = by_domain ∙ rw h refl

  pub control_allowed : is_control sender.domain ≡ true → for_control w sender.connection o ≡ o
  control_allowed h = by_domain ∙ rw h refl
