-- What the request call answers: where the number is not 0, where it is, and what a handled request leaves.
use mathlib.Core.Path.{◌≡◌, refl, sym, ap, subst, ◌∙◌}
use mathlib.Core.Bool.{Bool, true, false, cond, not, false≢true, ◌&&◌}
use mathlib.Core.List.{List, [], ◌∷◌, flat_map}
use mathlib.Core.Option.{none-ne-some}
use Prim.Native.Nat.{ℕ, ◌+◌, ◌-◌, ◌≤◌}
use native.Mathlib.Omega.{arith}
use lib.ListN.{length, take, drop, length-append, length-take, length-drop}
use lib.Dec.{ltb, eqb}
use borrow.Author.Tests.{eqb-true, ltb-false}
use borrow.Author.Rules.{part_to_end}
use Rattle.rules.specs.Size.{header_size, longest_payload, reply_size, events_size}
use Rattle.rules.specs.Octets.{Octets, little_endian, paste}
use Rattle.rules.specs.Domain.{Domain, Connection, domain_of}
use Rattle.rules.specs.Payload.{parse}
use Rattle.rules.specs.Answer as A
use Rattle.rules.specs.Answer.{done, refused}
use Rattle.rules.specs.Event.{Record}
use Rattle.rules.specs.Layout.{domains_of, record_bytes}
use Rattle.rules.specs.Sound.{known}
use Rattle.rules.specs.World as W
use Rattle.rules.specs.Call.{Verdict, handled, wrong_size, unsound, stranger, broken, overlong, no_event, call_number, is_handled, Tables, sized_tables}
use Rattle.rules.specs.Call.{sound, world_of, type_of, tx_of, len_of, payload_of, frame_verdict, request_verdict, outcome_of, outcome, turned_away, delivered}
use Rattle.rules.specs.Call.{request_by, request_call}
use Rattle.rules.proofs.Compare.{both_true}
use Rattle.rules.proofs.Fields.{length_big}
use Rattle.std.specs.Prelude.{Ok, Err}
use Rattle.std.specs.Result.{result_eq}
use Rattle.replies.proofs.Payloads.{payload-fits}
use Rattle.replies.specs.Meant.{Reply}
use Rattle.replies.specs.Framed.{Told, Held, Framed}
use Rattle.replies.specs.Handled.{Outcome, Handled, reply_of, told_of}
use Rattle.replies.specs.Does.{all_lent, Shows}
use Rattle.requests.specs.Served.{Served}
use Rattle.senders.specs.Speaks.{Speaks}
use Rattle.senders.specs.declared.Sender.{Sender}
use Rattle.haabuvilk.specs.Lent.{requested, RequestMeets}
use Rattle.haabuvilk.specs.Checks.{Checked, refusal_meant, verdict_meant}
use Rattle.haabuvilk.specs.declared.refusal.Refusal.{Refusal}
use Rattle.haabuvilk.specs.declared.refusal.Refusal.TheVariants.{WrongSize, Unsound, Stranger, Broken, Overlong, NoEvent}

-- ── the number 0 ──

-- what is known of a request that is handled, its payload as the code takes it
pub record Ready (t : Tables) (c : Connection) (replied recorded m : Octets) : Type 0 where
  pub header : header_size ≤ length m
  pub reply : length replied ≡ reply_size
  pub events : length recorded ≡ events_size
  pub served : (x : Sender) → x.connection ≡ c → Speaks x → Served t x replied recorded (take (length m - header_size) (drop header_size m))

-- a choice whose number is 0, where that of one side is not
chose : (b : Bool) (v w : Verdict) → call_number (cond b v w) ≡ 0 → (call_number w ≡ 0 → ⊥) → (b ≡ true) × (call_number v ≡ 0)
chose true v w e n = (refl, e)
chose false v w e n = absurd (n e)

chose_not : (b : Bool) (v w : Verdict) → call_number (cond b v w) ≡ 0 → (call_number v ≡ 0 → ⊥) → (b ≡ false) × (call_number w ≡ 0)
chose_not true v w e n = absurd (n e)
chose_not false v w e n = (refl, e)

frame_known : (m : Octets) → call_number (frame_verdict m) ≡ 0 → (header_size ≤ length m) × (length (take (length m - 16) (drop 16 m)) ≤ longest_payload)
unfolding frame_verdict call_number
frame_known m e =
    let a = chose_not (ltb (length m) header_size) broken _ e (λ z. omega arith) in
    let b = chose_not (ltb longest_payload (len_of m)) overlong _ a.1 (λ z. omega arith) in
    let d = chose (eqb (length m) (header_size + len_of m)) handled broken b.1 (λ z. omega arith) in
    let l = ltb-false longest_payload (len_of m) b.0 in
    let q = eqb-true (length m) (header_size + len_of m) d.0 in
    (ltb-false (length m) header_size a.0, simp (length-take, length-drop) (omega arith))

payload-part : (m : Octets) → take (length m - 16) (drop 16 m) ≡ payload_of m
unfolding payload_of
payload-part m = part_to_end m 16

module _ (t : Tables) (reply events : Octets) (c : Connection) (m : Octets) where
  pub ready : call_number (request_verdict t reply events c m) ≡ 0 → Ready t c reply events m
  unfolding request_verdict call_number
  ready e =
      let a = chose (sized_tables t && (eqb (length reply) reply_size && eqb (length events) events_size)) _ wrong_size e (λ z. omega arith) in
      let s = chose (sound t) (cond (known (domain_of c) (domains_of t.domains)) (frame_verdict m) stranger) unsound a.1 (λ z. omega arith) in
      let k = chose (known (domain_of c) (domains_of t.domains)) (frame_verdict m) stranger s.1 (λ z. omega arith) in
      let z = both_true (sized_tables t) _ a.0 in
      let b = both_true (eqb (length reply) reply_size) (eqb (length events) events_size) z.1 in
      let f = frame_known m k.1 in
      record {
        header = f.0;
        reply = eqb-true _ _ b.0;
        events = eqb-true _ _ b.1;
        served = λ x e q.
            record {
              sized = z.0;
              sound = s.0;
              speaks = q;
              known = ap (λ (d : Domain). known d (domains_of t.domains)) (q ∙ ap domain_of e) ∙ k.0;
              reply = eqb-true _ _ b.0;
              events = eqb-true _ _ b.1;
              payload = f.1;
            };
      }

  -- ── the call ──

  by_refusal : (x : Refusal) → requested (call_number (refusal_meant x)) 0 0 0 0 t reply events ≡ request_by t reply events (refusal_meant x) c m
  unfolding request_by turned_away is_handled
  by_refusal WrongSize = refl
  by_refusal Unsound = refl
  by_refusal Stranger = refl
  by_refusal Broken = refl
  by_refusal Overlong = refl
  by_refusal NoEvent = refl

  -- where the message is not to be handled
  pub turned_away_lem : (n : ℕ) (v : Checked) (x : Refusal) → verdict_meant v ≡ request_verdict t reply events c m → v ≡ Err x →
      n ≡ call_number (refusal_meant x) → RequestMeets t reply events c m (requested n 0 0 0 0 t reply events)
  unfolding request_call
  turned_away_lem n v x e h k = rw (k, ← e, h) (by_refusal x)

  pub turned_by_verdict : (n : ℕ) (v : Checked) (eq : Refusal → Refusal → Bool) → verdict_meant v ≡ request_verdict t reply events c m →
      not (result_eq (λ _ _. true) eq v (Ok tt)) ≡ true → n ≡ call_number (verdict_meant v) →
      RequestMeets t reply events c m (requested n 0 0 0 0 t reply events)
  turned_by_verdict n (Ok x) eq h z k = absurd (false≢true z)
  turned_by_verdict n (Err x) eq h z k = turned_away_lem n (Err x) x h refl k

  pub to_handle : (v : Checked) (eq : Refusal → Refusal → Bool) → verdict_meant v ≡ request_verdict t reply events c m →
      not (result_eq (λ _ _. true) eq v (Ok tt)) ≡ false → request_verdict t reply events c m ≡ handled
  to_handle (Ok x) eq h z = sym h
  to_handle (Err x) eq h z = absurd (false≢true (sym z))

  pub handled-number : request_verdict t reply events c m ≡ handled → call_number (request_verdict t reply events c m) ≡ 0
  unfolding call_number
  handled-number e = rw e refl

  handled_only : (v : Verdict) → call_number v ≡ 0 → request_by t reply events v c m ≡ delivered t reply events m (outcome (world_of t) c m)
  unfolding request_by call_number is_handled
  handled_only handled e = refl
  handled_only wrong_size e = absurd (omega arith)
  handled_only unsound e = absurd (omega arith)
  handled_only stranger e = absurd (omega arith)
  handled_only broken e = absurd (omega arith)
  handled_only overlong e = absurd (omega arith)
  handled_only no_event e = absurd (omega arith)

  -- where it is 0: the outcome, in its frame
  pub answered : (type tx : ℕ) (d : Connection) {after : Tables} {told replied recorded : Octets} {r : Outcome} {l : ℕ}
      → call_number (request_verdict t reply events c m) ≡ 0 → type ≡ little_endian m 0 → tx ≡ little_endian m 8 → d ≡ c
      → Handled (outcome_of (world_of t) d tx (parse d type tx (take (length m - header_size) (drop header_size m)))) after reply told events recorded r
      → Framed m (reply_of r) told replied l
      → RequestMeets t reply events c m
      (requested 0 l (told_of (λ d. d.events) r) (told_of (λ d. d.page) r) (told_of (λ d. d.channel) r) after replied recorded)
  unfolding request_call outcome type_of tx_of delivered call_number
  answered type tx d {after} {told} {replied} {recorded} {r} {l} e y x s h f =
      let h' : Handled (outcome (world_of t) c m) after reply told events recorded r = rw (← y, ← x, ← s, ← payload-part m) h in
      let w = f (outcome (world_of t) c m).reply reply (ready e).reply h'.reply in
      rw (w.0, w.1, h'.count, h'.page, h'.channel, h'.tables, h'.events) (sym (handled_only (request_verdict t reply events c m) e))

-- the lent tables are those of the world that they mean
pub shown : (t : Tables) (reply events : Octets) → Shows (all_lent t.nodes t.copies t.watches t.transactions t.domains reply events) (world_of t)
unfolding world_of
shown t reply events = record { nodes = refl; copies = refl; watches = refl; transactions = refl; domains = refl }

-- ── what fits ──

told_held : (a : A.Reply) (r : Reply) (before after : Octets) → Told a r before after → length before ≡ reply_size → length after ≡ length before → Held r
told_held (done s) r before after t b e =
    subst Held (sym t.0) (subst (λ (k : ℕ). header_size + length s ≤ k) b (payload-fits s before after t.1 e (rw b (omega arith))))
told_held (refused x) (Ok n) before after t b e = absurd (none-ne-some x t.0)
told_held (refused x) (Err y) before after t b e = tt

records-long : (rs : List Record) → length rs ≤ length (flat_map record_bytes rs)
unfolding flat_map record_bytes
records-long [] = omega arith
records-long (r ∷ rs) = simp (length-append, length_big) (omega (arith, records-long rs))

module _ {o : W.Outcome} {t : Tables} {replied replied' recorded recorded' : Octets} {r : Outcome} (h : Handled o t replied replied' recorded recorded' r) where
  -- the payload told is one that the reply has room for
  pub reply_held : length replied ≡ reply_size → length replied' ≡ length replied → Held (reply_of r)
  reply_held b e = told_held o.reply (reply_of r) replied replied' h.reply b e

  -- no more records than bytes that hold them
  pub records_fit : length recorded ≡ events_size → length recorded' ≡ length recorded → told_of (λ d. d.events) r ≤ events_size
  unfolding paste
  records_fit b e = omega (arith, h.count, records-long o.records, simp length-append at (ap length h.events))
