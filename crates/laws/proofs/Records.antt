-- How many records a request makes: one for each event at most, and a good change has as many events as created nodes.
use mathlib.Core.Path.{◌≡◌, refl, subst}
use mathlib.Core.Bool.{Bool, true, false, cond, ◌&&◌}
use mathlib.Core.List.{List, [], ◌∷◌, ◌++◌, map}
use mathlib.Core.Option.{Option, none, some}
use Prim.Native.Nat.{ℕ, ◌*◌, ◌-◌, ◌≤◌, ◌<◌}
use native.Mathlib.Omega.{arith}
use lib.ListN.{length, length-append, length-map}
use lib.Dec.{eqb, ltb, leb}
use Rattle.rules.specs.Size.{deepest, most_changes, most_records, longest_token}
use Rattle.rules.specs.Octets.{Octets}
use Rattle.rules.specs.Entries.{lowest}
use Rattle.rules.specs.Path.{Domain, Connection, domain_of, Names, is_control, introduce_name, release_name}
use Rattle.rules.specs.Node.{owned_by, without_all}
use Rattle.rules.specs.Payload.{Ask, Place, path, event, Request, ask, watch, unwatch, start, end, introduce, release, domain_path, is_introduced}
use Rattle.rules.specs.Payload.{reset, Parsed, unknown, invalid, request}
use Rattle.rules.specs.Answer.{EINVAL, ENOSYS, EACCES, EEXIST, ENOENT, ENOSPC, EAGAIN, Reply, refused, OK, Change, Answer, answer}
use Rattle.rules.specs.Event.{Watches, Record, place_text, any_bit, kept, heard, heard_of, first_heard}
use Rattle.rules.specs.Layout.{Transaction}
use Rattle.rules.specs.Sound.{introduced, watched, good_change}
use Rattle.rules.specs.World.{World, Outcome, without_watches, speaks_for, left, to, on_store, transaction_of, in_transaction, copy_of, asked, place_fits}
use Rattle.rules.specs.World.{watching, unwatching, starting, closing, committing, ending, introducing, removal_of, releasing, resetting}
use Rattle.rules.specs.World.{for_control, for_place, handle}
use Rattle.rules.specs.Call.{call_number, is_handled, tx_of, world_of, outcome_of, request_verdict, outcome, turned_away, delivered, request_by, request_call}
use Rattle.rules.proofs.Cases.{cond_case}
use Rattle.rules.proofs.Tables.{Each, each_map}
use Rattle.rules.proofs.Places.{At}
use Rattle.rules.proofs.Changes.{good-parts, parents-few, heard-few}
use Rattle.rules.proofs.GoodAnswers.{change-good}
use Rattle.rules.proofs.GoodRequests.{AskedGood, RequestGood, ParsedGood}
use Rattle.rules.proofs.Owned.{owned_few}
use Rattle.rules.proofs.SoundWorld.{SoundWorld}
use Rattle.rules.proofs.SoundBytes.{decoded}
use Rattle.rules.proofs.OpenTransactions.{named}
use Rattle.laws.specs.History.{request_of}
use Rattle.laws.specs.Heard.{most_heard, most_heard_as, RecordsFit, RoomForRecords}
use Rattle.laws.proofs.Calls.{served_is, request-good}

-- an outcome has n records at most
abbrev Few : ℕ → Outcome → Type 0
Few n o = length o.records ≤ n

kept-few : (m : List Bool) (p : Octets) → length (kept m p) ≤ 1
unfolding kept
kept-few m p = cond_case (λ (l : List Record). length l ≤ 1) (any_bit m) _ _ (omega arith) (omega arith)

-- ── requests on the sound world w ──

module _ (w : World) (s : SoundWorld w) where
  left-few : (n : ℕ) (r : Reply) → Few n (left w r)
  unfolding left
  left-few n r = omega arith

  on_store_few : (d : Domain) (a : Ask) (ns : Names) → AskedGood a ns → Few deepest (on_store w (answer d a ns w.nodes))
  unfolding on_store to
  on_store_few d a ns f = go x.change refl
    where
      x : Answer
      x = answer d a ns w.nodes

      go : (m : Option Change) → x.change ≡ m → Few deepest (on_store w (record { reply = x.reply; table = x.table; change = m }))
      go none e = left-few deepest x.reply
      go (some c) e =
          let g = change-good d a ns w.nodes s.nodes.good s.nodes.fitting f.names f.proper c e in
          heard-few w.nodes x.table w.watches deepest (c ∷ []) (parents-few c (good-parts c g.1), tt)

  in_transaction_few : (k : ℕ) (x : Transaction) (a : Answer) → Few 0 (in_transaction w k x a)
  unfolding in_transaction to
  in_transaction_few k x a = go a.change
    where
      go : (m : Option Change) → Few 0 (in_transaction w k x (record { reply = a.reply; table = a.table; change = m }))
      go none = left-few 0 a.reply
      go (some c) = cond_case (Few 0) (ltb (length x.changes) most_changes) _ _ (omega arith) (left-few 0 (refused ENOSPC))

  asked-few : (c : Connection) (tx : ℕ) (a : Ask) (ns : Names) → AskedGood a ns → Few (cond (eqb tx 0) deepest 0) (asked w c tx a ns)
  unfolding asked
  asked-few c tx a ns f = go (eqb tx 0)
    where
      in_one : (m : Option Transaction)
          → Few 0 (elim m [ none ↦ left w (refused ENOENT) | some x ↦ in_transaction w (tx - 1) x (answer (domain_of c) a ns (copy_of w (tx - 1))) ])
      in_one none = left-few 0 (refused ENOENT)
      in_one (some x) = in_transaction_few (tx - 1) x _

      go : (b : Bool) → Few (cond b deepest 0) (cond b (on_store w (answer (domain_of c) a ns w.nodes))
          (elim (transaction_of w c tx) [
            | none ↦ left w (refused ENOENT)
            | some x ↦ in_transaction w (tx - 1) x (answer (domain_of c) a ns (copy_of w (tx - 1)))
          ]))
      go true = on_store_few (domain_of c) a ns f
      go false = in_one (transaction_of w c tx)

  watching-few : (c : Connection) (p : Place) (t : Octets) (depth : Option ℕ) → Few 1 (watching w c p t depth)
  unfolding watching to first_heard
  watching-few c p t depth =
      cond_case (Few 1) (watched c (place_text p) t w.watches) _ _ (left-few 1 (refused EEXIST))
      (cond_case (Few 1) (place_fits w p && (leb (length t) longest_token && ltb (lowest w.watches) (length w.watches))) _ _ (omega arith)
      (left-few 1 (refused ENOSPC)))

  unwatching-few : (c : Connection) (p : Place) (t : Octets) → Few 0 (unwatching w c p t)
  unfolding unwatching to
  unwatching-few c p t = cond_case (Few 0) (watched c (place_text p) t w.watches) _ _ (omega arith) (left-few 0 (refused ENOENT))

  starting-few : (c : Connection) → Few 0 (starting w c)
  unfolding starting to
  starting-few c = cond_case (Few 0) (ltb (lowest w.transactions) (length w.transactions)) _ _ (omega arith) (left-few 0 (refused ENOSPC))

  closing-few : (n k : ℕ) (r : Reply) → Few n (closing w k r)
  unfolding closing to
  closing-few n k r = omega arith

  committing-few : (k : ℕ) (x : Transaction) → At w.transactions k x → Few (most_changes * deepest) (committing w k x)
  unfolding committing to
  committing-few k x e =
      let held = s.transactions.each k x e in
      let small = each_map (λ (c : Change). good_change c ≡ true) (λ (c : Change). c.parents < deepest) (λ c g. parents-few c (good-parts c g)) x.changes
      held.good in
      omega (arith, held.few, heard-few w.nodes (copy_of w k) w.watches deepest x.changes small)

  ending-few : (c : Connection) (tx : ℕ) (commit : Bool) → Few (most_changes * deepest) (ending w c tx commit)
  unfolding ending
  ending-few c tx commit = go (transaction_of w c tx) refl
    where
      most : ℕ
      most = most_changes * deepest

      go : (m : Option Transaction) → transaction_of w c tx ≡ m
          → Few most (elim m [
            | none ↦ left w (refused ENOENT)
            | some x ↦ cond commit (cond x.stale (closing w (tx - 1) (refused EAGAIN)) (committing w (tx - 1) x)) (closing w (tx - 1) OK)
          ])
      go none e = left-few most (refused ENOENT)
      go (some x) e =
          cond_case (Few most) commit _ _ (cond_case (Few most) x.stale _ _ (closing-few most (tx - 1) (refused EAGAIN))
          (committing-few (tx - 1) x (named w tx c x e).0)) (closing-few most (tx - 1) OK)

  heard_of_few : (e : Octets) (d : Domain) (ws : Watches) → length (heard_of e d ws) ≤ 1
  unfolding heard_of
  heard_of_few e d ws = kept-few _ _

  introducing-few : (d page channel : ℕ) → Few 1 (introducing w d page channel)
  unfolding introducing
  introducing-few d page channel =
      cond_case (Few 1) (introduced d w.domains) _ _ (left-few 1 (refused EEXIST))
      (cond_case (Few 1) (ltb (lowest w.domains) (length w.domains)) _ _ (heard_of_few introduce_name d w.watches) (left-few 1 (refused ENOSPC)))

  -- a removal has one event
  removals_few : (is : List ℕ) → Each (λ (c : Change). c.parents < 1) (map (removal_of w) is)
  unfolding removal_of
  removals_few [] = tt
  removals_few (i ∷ is) = (omega arith, removals_few is)

  releasing-few : (d : Domain) → 1 ≤ d → Few most_records (releasing w d)
  unfolding releasing to
  releasing-few d h =
      let owned = owned_by w.nodes d in
      let after = without_all w.nodes owned in
      let ws = without_watches (speaks_for d) w.watches in
      let removals = heard w.nodes after ws (map (removal_of w) owned) in
      let few = heard-few w.nodes after ws 1 (map (removal_of w) owned) (removals_few owned) in
      let total : length (removals ++ heard_of release_name d ws) ≤ most_records =
      rw (length-append removals (heard_of release_name d ws))
      (omega (arith, few, length-map owned (removal_of w), owned_few w.nodes s.nodes.good d h, s.nodes.fitting.long, heard_of_few release_name d ws)) in
      cond_case (Few most_records) (introduced d w.domains) _ _ total (left-few most_records (refused ENOENT))

  resetting-few : (c : Connection) → Few 0 (resetting w c)
  unfolding resetting to
  resetting-few c = omega arith

  control-few : (n : ℕ) (c : Connection) (y : Outcome) → Few n y → Few n (for_control w c y)
  unfolding for_control
  control-few n c y h = cond_case (Few n) (is_control (domain_of c)) _ _ h (left-few n (refused EACCES))

  place-few : (n : ℕ) (c : Connection) (p : Place) (y : Outcome) → Few n y → Few n (for_place w c p y)
  unfolding for_place
  place-few n c (path r ns) y h = h
  place-few n c (event e) y h = control-few n c y h

  handle-few : (c : Connection) (tx : ℕ) (q : Request) → RequestGood c q → Few (most_heard tx q) (handle w c tx q)
  unfolding handle most_heard
  handle-few c tx (ask a ns) f = asked-few c tx a ns f
  handle-few c tx (watch p t depth) f = place-few 1 c p _ (watching-few c p t depth)
  handle-few c tx (unwatch p t) f = place-few 0 c p _ (unwatching-few c p t)
  handle-few c tx start f = starting-few c
  handle-few c tx (end commit) f = ending-few c tx commit
  handle-few c tx (introduce d page channel) f = control-few 1 c _ (introducing-few d page channel)
  handle-few c tx (release d) f = control-few most_records c _ (releasing-few d f.0)
  handle-few c tx (domain_path d) f = left-few 0 _
  handle-few c tx (is_introduced d) f = left-few 0 _
  handle-few c tx reset f = resetting-few c

  outcome-few : (c : Connection) (tx : ℕ) (p : Parsed) → ParsedGood c p → Few (most_heard_as tx p) (outcome_of w c tx p)
  unfolding outcome_of most_heard_as
  outcome-few c tx unknown f = left-few 0 (refused ENOSYS)
  outcome-few c tx invalid f = left-few 0 (refused EINVAL)
  outcome-few c tx (request q) f = handle-few c tx q f

-- ── calls ──

pub records_fit : RecordsFit
records_fit t c o l e =
    subst (Few (most_heard_as (tx_of c.message) (request_of c))) (served_is (world_of t) c o e)
    (outcome-few (world_of t) (decoded t l) c.sender (tx_of c.message) (request_of c) (request-good c))

most_room : (tx : ℕ) (q : Request) → most_heard tx q ≤ most_records
unfolding most_heard
most_room tx (ask a ns) = cond_case (λ (n : ℕ). n ≤ most_records) (eqb tx 0) _ _ (omega arith) (omega arith)
most_room tx (watch p t depth) = omega arith
most_room tx (unwatch p t) = omega arith
most_room tx start = omega arith
most_room tx (end commit) = omega arith
most_room tx (introduce d page channel) = omega arith
most_room tx (release d) = omega arith
most_room tx (domain_path d) = omega arith
most_room tx (is_introduced d) = omega arith
most_room tx reset = omega arith

most_room_as : (tx : ℕ) (p : Parsed) → most_heard_as tx p ≤ most_records
unfolding most_heard_as
most_room_as tx unknown = omega arith
most_room_as tx invalid = omega arith
most_room_as tx (request q) = most_room tx q

pub room_for_records : RoomForRecords
unfolding request_call request_by turned_away delivered outcome request_of
room_for_records t reply events c m l =
    let p = request_of (record { sender = c; message = m }) in
    let few = outcome-few (world_of t) (decoded t l) c (tx_of m) p (request-good (record { sender = c; message = m })) in
    go (is_handled (request_verdict t reply events c m)) (omega (arith, few, most_room_as (tx_of m) p))
  where
    go : (b : Bool) → length (outcome (world_of t) c m).records ≤ most_records
        → (cond b (delivered t reply events m (outcome (world_of t) c m))
        (turned_away t reply events (call_number (request_verdict t reply events c m)))).event_count
        ≤ most_records
    go true h = h
    go false h = omega arith
