-- A node request on the store: what is left where it changed nothing, or something.
use mathlib.Core.Path.{◌≡◌, refl, sym, ap, subst, ◌∙◌}
use mathlib.Core.Bool.{Bool, true}
use mathlib.Core.List.{List, [], append-nil, flat_map}
use mathlib.Core.Option.{none, some}
use Prim.Native.Nat.{ℕ, ◌-◌, ◌≤◌, ◌<◌}
use native.Mathlib.Nat.{zero-add}
use lib.ListN.{length}
use Rattle.rules.specs.Size.{longest_path, deepest, events_size}
use Rattle.rules.specs.Octets.{Octets, paste}
use Rattle.rules.specs.Domain.{Domain}
use Rattle.rules.specs.Path.{names_in, is_full}
use Rattle.rules.specs.Node.{Table}
use Rattle.rules.specs.Answer as A
use Rattle.rules.specs.Answer.{Change, answer}
use Rattle.rules.specs.Event.{Watches, Record, hears, mask_of, heard_change, heard}
use Rattle.rules.specs.Entries.{is_empty}
use Rattle.rules.specs.Layout.{Transactions, table_bytes, table_of, watches_of, transactions_of, transactions_bytes, record_bytes}
use Rattle.rules.specs.World as W
use Rattle.rules.specs.World.{World, left, to, staled, staled_if, with_nodes, with_transactions}
use Rattle.transactions.specs.Transaction.{KeptTransactions, change_given}
use Rattle.nodes.specs.Answers.{Answer, Answers, Answered, change_of, told}
use Rattle.payload.specs.Meaning.{ask_meant}
use Rattle.payload.specs.declared.answer.Ask.{Ask}
use Rattle.payload.specs.declared.answer.Ask.TheVariants.{Directory, Read, GetPerms, Write, Mkdir, Rm, SetPerms}
use Rattle.nodes.specs.declared.kinds.Given.{Given}
use Rattle.events.specs.Records as Events
use Rattle.events.specs.Records.{Mask}
use Rattle.events.specs.Stores.{Store, happened, NewAbove}
use Rattle.replies.specs.Framed.{Told}
use Rattle.replies.specs.Handled.{Outcome, Handled, with_events}
use Rattle.std.specs.Prelude.{Ok}
use Rattle.replies.specs.Does.{tables, its_copies, its_watches, its_domains}
use Rattle.handlers.specs.Asking.{Asking, OnStore, Hearing, Changed}
use Rattle.handlers.proofs.Alone.{transactions-alone}
use Rattle.handlers.proofs.Ways.{same_tables_lem, done_so, heard_so}
use Rattle.handlers.proofs.Answers.{Removes, change_removes, Makes, Still, left-sound, left_back, path-short, parents_above, parents_small}
use Rattle.handlers.proofs.Answers.{parents_new, removal-alone, table_still}

-- records from the first on
pub recorded-first : (rs : List Record) (before after : Octets) (n : ℕ) → Events.Recorded 0 rs before after n →
    (after ≡ paste 0 (flat_map record_bytes rs) before) × (n ≡ length rs)
recorded-first rs before after n h = (h.bytes, h.count ∙ zero-add (length rs))

module _ (w : World) (a : A.Answer) where
  pub plain_still : a.change ≡ none → W.on_store w a ≡ to w a.reply w []
  unfolding W.on_store left to
  plain_still e = rw e refl

  pub plain_done : (c : Change) → a.change ≡ some c → W.on_store w a
      ≡ to w a.reply (with_transactions (with_nodes w a.table) (staled w.transactions))
      (heard_change w.nodes a.table w.watches c)
  unfolding W.on_store to heard flat_map staled_if is_empty
  plain_done c e =
      rw e
      (ap (λ (rs : List Record). to w a.reply (with_transactions (with_nodes w a.table) (staled w.transactions)) rs)
      (append-nil (heard_change w.nodes a.table w.watches c)))

-- the mask is that of the change which was made
module _ (t : Table) (ws : Watches) (path : Octets) (m : ℕ) (removed : Bool) where
  abbrev Heard : Bool → Type 0
  Heard b = Mask (mask_of (hears t t (happened b path)) ws) m

  heard_of_lem : (s : Octets) (ask : Ask) → Removes (ask_meant s ask) removed → Hearing ask t ws path m → Heard removed
  heard_of_lem s Directory k h = absurd k
  heard_of_lem s Read k h = absurd k
  heard_of_lem s GetPerms k h = absurd k
  heard_of_lem s (Write from) k h = subst Heard (sym k) h
  heard_of_lem s Mkdir k h = subst Heard (sym k) h
  heard_of_lem s Rm k h = subst Heard (sym k) h
  heard_of_lem s (SetPerms es) k h = subst Heard (sym k) h

module _ {d : Domain} {ask : Ask} {path v : Octets} (q : Asking d ask path v) (t ws xs reply events : Octets) (s : OnStore t ws xs reply events)
    (t' reply' : Octets) (r : Answer) (told_so : Answered d (ask_meant v ask) path t t' reply reply' r) where
  module _ (removed : Bool) (parents : ℕ) (e : Makes r path removed parents) where
    made : (answer d (ask_meant v ask) (names_in path) (table_of t)).change ≡ some (change_given removed parents path)
    made = sym told_so.change ∙ e

    -- what the records of a change want
    pub telling : Store t' ws × KeptTransactions xs × (is_full path ≡ true) × (length path ≤ longest_path) × (parents ≤ length (names_in path) - 1) ×
        (parents < deepest) × (length events ≡ events_size)
    unfolding change_given
    telling = (
      record { sound = (left-sound q t s.sound t' told_so.table).0; kept = s.watching },
      s.kept,
      q.full,
      path-short q t s.sound _ made,
      parents_above q t s.sound _ made,
      parents_small q t s.sound _ made,
      s.room,
    )

    new_above : NewAbove (table_of t) removed parents path
    unfolding change_given
    new_above = record { written = removal-alone q t s.sound _ made; absent = parents_new q t s.sound _ made }

  module _ (w : World) (nw : w.nodes ≡ table_of t) (ww : w.watches ≡ watches_of ws) (xw : w.transactions ≡ transactions_of xs) (o : Outcome) where
    abbrev z : A.Answer
    z = answer d (ask_meant v ask) (names_in path) w.nodes

    answered : Answers (names_in path) z t' reply reply' r
    answered = subst (λ (y : Table). Answers (names_in path) (answer d (ask_meant v ask) (names_in path) y) t' reply reply' r) (sym nw) told_so

    pub nothing_done : Still r path → o ≡ with_events (told r) 0 →
        Handled (W.on_store w z) (tables t' (its_copies w) (its_watches w) xs (its_domains w)) reply reply' events events o
    nothing_done e p =
        let k : z.change ≡ none = sym answered.change ∙ e in
        let still = table_still d (names_in path) w.nodes (ask_meant v ask) k in
        done_so w _ reply o events z.reply w reply' (told r) _ (plain_still w z k) p answered.reply
        (same_tables_lem (answered.table ∙ ap table_bytes still) refl refl (transactions-alone w xs s.kept xw) refl)

    pub change-done : (g : Given) → r ≡ Ok g → (m : ℕ) → Hearing ask (table_of t) (watches_of ws) path m →
        (removed : Bool) (parents : ℕ) → Makes r path removed parents →
        (xs' events' : Octets) (n : ℕ) →
        ((before : Table) → Mask (mask_of (hears before before (happened removed path)) (watches_of ws)) m → NewAbove before removed parents path →
        Changed before t' ws xs (change_given removed parents path) events xs' events' n) → o ≡ with_events (Ok g.length) n →
        Handled (W.on_store w z) (tables t' (its_copies w) (its_watches w) xs' (its_domains w)) reply reply' events events' o
    unfolding change_given
    change-done g is m k removed parents e xs' events' n f out =
        let c = change_given removed parents path in
        let removes = change_removes d (names_in path) (table_of t) (ask_meant v ask) c (made removed parents e) in
        let h = f (table_of t) (heard_of_lem (table_of t) (watches_of ws) path m removed v ask removes k) (new_above removed parents e) in
        let back : table_of t' ≡ z.table =
        left_back q t s.sound t' told_so.table ∙ ap (λ (y : Table). (answer d (ask_meant v ask) (names_in path) y).table) (sym nw) in
        let p = recorded-first _ _ _ _ h.heard in
        let same : heard_change (table_of t) (table_of t') (watches_of ws) c ≡ heard_change w.nodes z.table w.watches c =
        rw (back, nw, ww) refl in
        heard_so w _ reply o z.reply _ _ reply' events events' g.length n _ (plain_done w z c (sym answered.change ∙ e)) out
        (subst (λ (y : Answer). Told z.reply (told y) reply reply') is answered.reply)
        (p.0 ∙ ap (λ (rs : List Record). paste 0 (flat_map record_bytes rs) events) same) (p.1 ∙ ap length same)
        (same_tables_lem answered.table refl refl (h.stale ∙ ap (λ (y : Transactions). transactions_bytes (staled y)) (sym xw)) refl)
