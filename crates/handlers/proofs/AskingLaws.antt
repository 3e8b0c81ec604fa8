-- A node request in a transaction: what is left where it changed nothing, a change was entered, or a ninth refused.
use mathlib.Core.Path.{◌≡◌, refl, sym, ap, ap₂, subst, ◌∙◌}
use mathlib.Core.Bool.{Bool, true}
use mathlib.Core.List.{List, [], ◌++◌, flat_map}
use mathlib.Core.Option.{Option, none, some}
use Prim.Native.Nat.{ℕ, ◌+◌, ◌-◌, ◌*◌, ◌≤◌, ◌<◌}
use native.Mathlib.Nat.{add-sub_cancel_left}
use native.Mathlib.Omega.{arith}
use lib.ListN.{length, take, drop, set, get_or}
use lib.Seq.{length-take-le, take_at, drop_at, drop-drop}
use borrow.Author.Tests.{lt-ltb, le-ltb}
use borrow.Rule.Slice.PartMut.{put_mid, Post-is}
use Rattle.rules.specs.Size.{reply_size, table_size, most_transactions, most_changes, header_size}
use Rattle.rules.specs.Octets.{Octets, text, nul, chunks, paste}
use Rattle.rules.specs.Domain.{Domain}
use Rattle.rules.specs.Path.{names_in}
use Rattle.rules.specs.Node as N
use Rattle.rules.specs.Payload as P
use Rattle.rules.specs.Answer as A
use Rattle.rules.specs.Answer.{refused, OK, ENOSPC, errno_text, Change, answer}
use Rattle.rules.specs.Layout.{Transaction, Transactions, with_change, table_bytes, table_of, transactions_of, transactions_bytes}
use Rattle.rules.specs.Sound.{sound_table}
use Rattle.rules.specs.World as W
use Rattle.rules.specs.World.{World, left, to, copy_of, with_copy, with_transactions}
use Rattle.rules.proofs.Tables.{decoded_at}
use Rattle.rules.proofs.Paste.{paste-own}
use Rattle.rules.proofs.EntryLayouts.{whole, map_whole}
use Rattle.slots.proofs.Canonical.{sound_canonical}
use Rattle.transactions.specs.Transaction.{transaction_of, change_given, changed_by, RoomForChange}
use Rattle.payload.specs.Meaning.{ask_meant}
use Rattle.payload.specs.declared.answer.Ask.{Ask}
use Rattle.nodes.specs.Answers.{Answer, Answers, Answered, change_of, told}
use Rattle.replies.specs.declared.kinds.Errno.TheVariants.{NoSpace}
use Rattle.std.specs.Prelude.{Err}
use Rattle.nodes.specs.declared.kinds.Given.{Given}
use Rattle.replies.specs.Meant.{Reply}
use Rattle.replies.specs.Framed.{Told}
use Rattle.replies.specs.Handled.{Outcome, Handled, reply_of, with_events}
use Rattle.replies.specs.Does.{tables, its_nodes, its_watches, its_domains}
use Rattle.handlers.specs.Asking.{copy_in, Asking, InCopy, ninth_reply}
use Rattle.handlers.proofs.Alone.{copies-alone, transactions-alone}
use Rattle.handlers.proofs.Ways.{back, same_tables_lem, done_so}
use Rattle.handlers.proofs.StartLaws.{copy_put}
use Rattle.handlers.proofs.Answers.{change_okay, table_still, Makes, Still, left-sound, path-short, parents_small}

-- ── bytes ──

-- a longer text put over one that was put in the same place
pub paste_over : (i : ℕ) (x y l : Octets) → length x ≤ length y → i + length y ≤ length l → paste i y (paste i x l) ≡ paste i y l
unfolding paste
paste_over i x y l h k =
    let p = take i l in
    let q = drop (i + length x) l in
    let n : length p ≡ i = length-take-le i l (omega arith) in
    let m = length y - length x in
    let b : drop (length y) (x ++ q) ≡ drop m q =
    ap (λ (j : ℕ). drop j (x ++ q)) (let e : length y ≡ length x + m = omega arith in e)
    ∙ (sym (drop-drop m (length x) (x ++ q)) ∙ ap (drop m) (drop_at x q (length x) refl)) in
    let d : drop (i + length y) (p ++ (x ++ q)) ≡ drop (i + length y) l =
    sym (drop-drop (length y) i (p ++ (x ++ q)))
    ∙ (ap (drop (length y)) (drop_at p (x ++ q) i n)
    ∙ (b ∙ (drop-drop m (i + length x) l ∙ ap (λ (j : ℕ). drop j l) (let e : i + length x + m ≡ i + length y = omega arith in e)))) in
    rw (take_at p (x ++ q) i n, d) refl

-- copy k, as a part of the copies
pub copy-part : (cs : Octets) (k : ℕ) → take (k * table_size + table_size - k * table_size) (drop (k * table_size) cs) ≡ copy_in cs k
copy-part cs k = ap (λ (n : ℕ). take n (drop (k * table_size) cs)) (add-sub_cancel_left (k * table_size) table_size)

-- the copies, with another table in its place
part_put : (cs t : Octets) (k : ℕ) → length t ≡ table_size → put_mid (k * table_size) (k * table_size + table_size - k * table_size) cs t
    ≡ paste (k * table_size) t cs
unfolding paste
part_put cs t k l =
    ap (λ (x : Octets). take (k * table_size) cs ++ (t ++ x))
    (Post-is (k * table_size) (k * table_size + table_size) cs (omega arith) ∙ ap (λ (n : ℕ). drop (k * table_size + n) cs) (sym l))

-- as the rule book has it
pub copy_of_lem : (w : World) (cs : Octets) (k : ℕ) → w.copies ≡ chunks most_transactions table_size cs → k < most_transactions → copy_of w k
    ≡ table_of (copy_in cs k)
unfolding copy_of
copy_of_lem w cs k e h =
    ap (λ (x : List Octets). table_of (get_or x k [])) e ∙ ap table_of
    (sym (ap (λ (x : List Octets). get_or x k []) (map_whole (chunks most_transactions table_size cs)))
    ∙ decoded_at whole most_transactions table_size k cs [] h)

-- ── replies ──

-- a reply that said `OK`, and is refused for want of space
over_told : (r : Reply) (before after : Octets) → length before ≡ reply_size → Told OK r before after → Told (refused ENOSPC) (Err NoSpace) before after
unfolding OK text errno_text
over_told r before after l h = (refl, ap (paste header_size (errno_text ENOSPC ++ nul)) h.1 ∙ paste_over 16 _ _ before (omega arith) (rw l (omega arith)))

-- ── a ninth change ──

module _ (a : A.Answer) where
  still_reply : a.change ≡ none → ninth_reply a ≡ a.reply
  unfolding ninth_reply
  still_reply e = rw e refl

  ninth_reply_lem : (c : Change) → a.change ≡ some c → ninth_reply a ≡ refused ENOSPC
  unfolding ninth_reply
  ninth_reply_lem c e = rw e refl

-- what is told in a transaction that has eight changes, by an answer on a table of the copy's bytes
module _ (d : Domain) (a : P.Ask) (path copied t t' reply reply' : Octets) (here : t ≡ copied) (r : Answer)
    (told_so : Answered d a path t t' reply reply' r) (o : Outcome) where
  abbrev own : A.Answer
  own = answer d a (names_in path) (table_of copied)

  abbrev Eighth : Type 0
  Eighth = Told (ninth_reply own) (reply_of o) reply reply' × (o ≡ with_events (reply_of o) 0)

  answered_here : Answers (names_in path) own t' reply reply' r
  answered_here = subst (λ (x : Octets). Answers (names_in path) (answer d a (names_in path) (table_of x)) t' reply reply' r) here told_so

  pub eight_still : Still r path → o ≡ with_events (told r) 0 → Eighth
  eight_still e p =
      let q = still_reply own (sym answered_here.change ∙ e) in
      rw (p, back (told r) 0) (subst (λ (y : A.Reply). Told y (told r) reply reply') (sym q) answered_here.reply, refl)

  pub eight_refused : length reply ≡ reply_size → (removed : Bool) (parents : ℕ) → Makes r path removed parents →
      o ≡ Err NoSpace → Eighth
  eight_refused l removed parents x p =
      let c = change_given removed parents path in
      let e = sym answered_here.change ∙ x in
      let okay = change_okay d (names_in path) (table_of copied) a c e in
      let over = over_told (told r) reply reply' l (subst (λ (u : A.Reply). Told u (told r) reply reply') okay answered_here.reply) in
      rw p (subst (λ (u : A.Reply). Told u (Err NoSpace) reply reply') (sym (ninth_reply_lem own c e)) over, refl)

-- ── in a transaction ──

module _ (w : World) (k : ℕ) (x : Transaction) (a : A.Answer) where
  pub in_transaction_still : a.change ≡ none → W.in_transaction w k x a ≡ to w a.reply w []
  unfolding W.in_transaction left to
  in_transaction_still e = rw e refl

  pub in_transaction_ninth : (c : Change) → a.change ≡ some c → most_changes ≤ length x.changes → W.in_transaction w k x a ≡ to w (refused ENOSPC) w []
  unfolding W.in_transaction left to
  in_transaction_ninth c e h = rw (e, le-ltb (length x.changes) most_changes h) refl

  pub in_transaction_done : (c : Change) → a.change ≡ some c → length x.changes < most_changes → W.in_transaction w k x a
      ≡ to w a.reply
      (with_transactions (with_copy w k a.table) (set w.transactions k (some (with_change x c)))) []
  unfolding W.in_transaction
  in_transaction_done c e h = rw (e, lt-ltb (length x.changes) most_changes h) refl

  pub in_transaction_full : most_changes ≤ length x.changes → W.in_transaction w k x a ≡ to w (ninth_reply a) w []
  in_transaction_full h = go a.change refl
    where
      go : (m : Option Change) → a.change ≡ m → W.in_transaction w k x a ≡ to w (ninth_reply a) w []
      go none e = in_transaction_still e ∙ ap (λ (r : A.Reply). to w r w []) (sym (still_reply a e))
      go (some c) e = in_transaction_ninth c e h ∙ ap (λ (r : A.Reply). to w r w []) (sym (ninth_reply_lem a c e))

module _ (cs xs : Octets) (k : ℕ) (reply : Octets) (s : InCopy cs xs k reply) (w : World)
    (cw : w.copies ≡ chunks most_transactions table_size cs) (xw : w.transactions ≡ transactions_of xs) where
  -- it has eight changes
  pub full-handled : (a : N.Table → A.Answer) → most_changes ≤ length (transaction_of xs k).changes → (events reply' : Octets) (o : Outcome) →
      Told (ninth_reply (a (table_of (take (k * table_size + table_size - k * table_size) (drop (k * table_size) cs))))) (reply_of o) reply reply' →
      o ≡ with_events (reply_of o) 0 →
      Handled (W.in_transaction w k (transaction_of xs k) (a (copy_of w k))) (tables (its_nodes w) cs (its_watches w) xs (its_domains w)) reply reply'
      events events o
  full-handled a many events reply' o t p =
      let here = ap table_of (copy-part cs k) ∙ sym (copy_of_lem w cs k cw s.place.below) in
      done_so w _ reply o events (ninth_reply (a (copy_of w k))) w reply' (reply_of o) _
      (in_transaction_full w k (transaction_of xs k) (a (copy_of w k)) many) p
      (subst (λ (y : N.Table). Told (ninth_reply (a y)) (reply_of o) reply reply') here t)
      (same_tables_lem refl (copies-alone w cs s.whole cw) refl (transactions-alone w xs s.place.kept xw) refl)

module _ {d : Domain} {ask : Ask} {path v : Octets} (q : Asking d ask path v) where
  module _ (cs xs : Octets) (k : ℕ) (reply : Octets) (s : InCopy cs xs k reply) (t t' reply' : Octets) (r : Answer) (here : t ≡ copy_in cs k)
      (told_so : Answered d (ask_meant v ask) path t t' reply reply' r) where
    -- what a change's entry wants
    pub changing : length (transaction_of xs k).changes < most_changes → (removed : Bool) (parents : ℕ) → Makes r path removed parents →
        RoomForChange xs k parents path
    unfolding change_given
    changing few removed parents e =
        let made = sym told_so.change ∙ e in
        let sound : sound_table t ≡ true = rw here s.sound in
        record { place = s.place; few = few; fits = parents_small q t sound _ made; full = q.full; short = path-short q t sound _ made }

    module _ (w : World) (cw : w.copies ≡ chunks most_transactions table_size cs) (xw : w.transactions ≡ transactions_of xs) (events : Octets)
        (o : Outcome) where
      abbrev cs' : Octets
      cs' = put_mid (k * table_size) (k * table_size + table_size - k * table_size) cs t'

      long : length t' ≡ table_size
      long = (left-sound q t (rw here s.sound) t' told_so.table).1

      abbrev z : A.Answer
      z = answer d (ask_meant v ask) (names_in path) (copy_of w k)

      copied : table_of t ≡ copy_of w k
      copied = ap table_of here ∙ sym (copy_of_lem w cs k cw s.place.below)

      answered : Answers (names_in path) z t' reply reply' r
      answered =
          subst (λ (y : N.Table). Answers (names_in path) (answer d (ask_meant v ask) (names_in path) y) t' reply reply' r) copied told_so

      pub nothing_handled : Still r path → o ≡ with_events (told r) 0 →
          Handled (W.in_transaction w k (transaction_of xs k) z) (tables (its_nodes w) cs' (its_watches w) xs (its_domains w)) reply reply' events events o
      nothing_handled e p =
          let f : z.change ≡ none = sym answered.change ∙ e in
          let still = table_still d (names_in path) (copy_of w k) (ask_meant v ask) f in
          let u : t' ≡ copy_in cs k =
          answered.table ∙ ap table_bytes (still ∙ copy_of_lem w cs k cw s.place.below) ∙ (sound_canonical (copy_in cs k) s.sound).kept in
          let own = paste-own (k * table_size) table_size cs (omega (arith, s.whole, s.place.below)) in
          done_so w _ reply o events z.reply w reply' (told r) _ (in_transaction_still w k _ z f) p answered.reply
          (same_tables_lem refl
          (part_put cs t' k long ∙ ap (λ (y : Octets). paste (k * table_size) y cs) u ∙ own ∙ copies-alone w cs s.whole cw) refl
          (transactions-alone w xs s.place.kept xw) refl)

      pub change-handled : (removed : Bool) (parents : ℕ) → Makes r path removed parents →
          length (transaction_of xs k).changes < most_changes → (xs' : Octets) →
          xs' ≡ transactions_bytes (set (transactions_of xs) k (some (changed_by (transaction_of xs k) removed parents path))) → o ≡ with_events (told r) 0 →
          Handled (W.in_transaction w k (transaction_of xs k) z) (tables (its_nodes w) cs' (its_watches w) xs' (its_domains w)) reply reply' events events o
      unfolding changed_by
      change-handled removed parents e few xs' b p =
          let c = change_given removed parents path in
          let made = sym answered.change ∙ e in
          let put = copy_put cs k t' cs' s.whole long s.place.below (part_put cs t' k long) in
          done_so w _ reply o events z.reply _ reply' (told r) _ (in_transaction_done w k (transaction_of xs k) z c made few) p answered.reply
          (same_tables_lem refl
          (put ∙ ap₂ (λ (y : List Octets) (u : Octets). flat_map whole (set y k u)) (sym cw) answered.table) refl
          (b ∙ ap (λ (y : Transactions). transactions_bytes (set y k (some (changed_by (transaction_of xs k) removed parents path)))) (sym xw)) refl)
