-- Created is heard: the paths that were not there are among the change's events, and each event goes to those that attend to it.
use mathlib.Core.Path.{◌≡◌, refl, sym, ◌∙◌, ap, subst}
use mathlib.Core.Bool.{Bool, true, false, ◌&&◌, false≢true, or-true}
use mathlib.Core.List.Memᴰ
use mathlib.Core.List.{List, [], ◌∷◌, ◌++◌, map, flat_map, append-nil}
use mathlib.Core.Option.{Option, none, some}
use Prim.Native.Nat.{ℕ, zero, suc, ◌-◌, ◌≤◌, ◌<◌}
use native.Mathlib.Nat.{sub-zero}
use native.Mathlib.Decide.{ℕ_discrete}
use native.Mathlib.Omega.{arith}
use lib.ListN.{length, take, length-append}
use lib.Seq.{take_all, take_at}
use Rattle.rules.specs.Size.{last_domain}
use Rattle.rules.specs.Path.{Domain, Names, domain_of, all_names, slashed, path_text, beyond}
use Rattle.rules.specs.Node.{Table, reach}
use Rattle.rules.specs.Rights.{readable}
use Rattle.rules.specs.Payload.{Ask, Place, path, event}
use Rattle.rules.specs.Answer.{Reply, Change, Answer, answer}
use Rattle.rules.specs.Event.{Watch, Watches, Record, Happening, lineage, events_of, deep_enough, may_hear, hears_at}
use Rattle.rules.specs.Event.{hears, mask_of, any_bit, kept, heard_event}
use Rattle.rules.specs.Event.{heard_change, heard}
use Rattle.rules.specs.World.{World, Outcome, fresh_world, left, to, on_store, asked, handle}
use Rattle.rules.specs.Call.{outcome_of}
use Rattle.rules.proofs.Cases.{cond_case}
use Rattle.rules.proofs.Places.{At}
use Rattle.rules.proofs.PathLaws.{beyond_append}
use Rattle.rules.proofs.Changes.{good-parts}
use Rattle.rules.proofs.GoodAnswers.{change-good}
use Rattle.rules.proofs.GoodRequests.{AskedGood, ParsedGood}
use Rattle.rules.proofs.SoundWorld.{SoundWorld, known_range}
use Rattle.laws.specs.History.{run, succeeds, is_there}
use Rattle.laws.specs.Heard.{creates, Attends, Tells, Lengthening, CreatedIsHeard}
use Rattle.laws.proofs.Calls.{served_is, served-known, request-good}
use Rattle.laws.proofs.SoundCalls.{fresh_sound, run_keeps}
use Rattle.laws.proofs.Step.{on_store_reply}
use Rattle.laws.proofs.Created.{answer-created}
use Rattle.laws.proofs.Gone.{mask_at, any_bit_lem}

-- ── the order of the paths ──

slashed_grows : (m : ℕ) (ns : Names) → m < length ns → length (slashed (take m ns)) < length (slashed (take (suc m) ns))
unfolding slashed
slashed_grows m [] h = absurd (omega arith)
slashed_grows zero (n ∷ ns) h = omega arith
slashed_grows (suc m) (n ∷ ns) h =
    rw (length-append n (slashed (take m ns)), length-append n (slashed (take (suc m) ns))) (omega (arith, slashed_grows m ns (omega arith)))

text-slashed : (m : ℕ) (ns : Names) → 1 ≤ m → m ≤ length ns → path_text (take m ns) ≡ slashed (take m ns)
unfolding path_text
text-slashed zero ns h l = absurd (omega arith)
text-slashed (suc m) [] h l = absurd (omega arith)
text-slashed (suc m) (n ∷ ns) h l = refl

some-text : (ns : Names) → 0 < length (path_text ns)
unfolding path_text slashed
some-text [] = omega arith
some-text (n ∷ ns) = omega arith

-- a path one level further down has a longer text
text_grows : (k : ℕ) (ns : Names) → suc k ≤ length ns - 1 → length (path_text (take (length ns - suc k) ns)) < length (path_text (take (length ns - k) ns))
text_grows k ns h =
    let m = length ns - suc k in
    let next : length ns - k ≡ suc m = omega arith in
    rw (next, text-slashed m ns (omega arith) (omega arith), text-slashed (suc m) ns (omega arith) (omega arith)) (slashed_grows m ns (omega arith))

module _ (before after : Table) (ws : Watches) (removal : Bool) (ns : Names) where
  abbrev happening : Names → Happening
  happening p = record { removal = removal; names = p }

  abbrev told_of_lem : ℕ → List Record
  told_of_lem k = flat_map (heard_event before after ws) (map happening (lineage k ns))

  lengthening : (k n : ℕ) → k ≤ length ns - 1 → n < length (path_text (take (length ns - k) ns)) → Lengthening n (told_of_lem k)
  unfolding lineage flat_map heard_event kept
  lengthening zero n h l =
      let whole : take (length ns - 0) ns ≡ ns = rw (sub-zero (length ns)) (take_all (length ns) ns (omega arith)) in
      cond_case (λ (rs : List Record). Lengthening n (rs ++ [])) (any_bit (mask_of (hears before after (happening ns)) ws)) _ _
      (subst (λ (p : Names). n < length (path_text p)) whole l, tt) tt
  lengthening (suc k) n h l =
      let this = take (length ns - suc k) ns in
      let grows = text_grows k ns h in
      cond_case (λ (rs : List Record). Lengthening n (rs ++ told_of_lem k)) (any_bit (mask_of (hears before after (happening this)) ws)) _ _
      (l, lengthening k _ (omega arith) grows) (lengthening k n (omega arith) (omega (arith, grows)))

  -- ── one watch ──

  module _ (i : ℕ) (v : Watch) (at : At ws i v) where
    attends : (p : Names) → Attends after v p → hears before after (happening p) v ≡ true
    unfolding hears hears_at may_hear
    attends p a =
        let d = domain_of v.owner in
        let below = ap (beyond a.own) a.below ∙ beyond_append a.own a.rest in
        ap by_place a.place ∙ (ap (by_rest a.own) below ∙ rw (a.deep, a.reads) (or-true (readable before d p)))
      where
        by_place : Place → Bool
        by_place q = elim q as (λ q. Bool) [ path r wn ↦ hears_at before after v wn (happening p) | event name ↦ false ]

        by_rest : Names → Option Names → Bool
        by_rest wn m =
            elim m as (λ m. Bool) [
              | some rest ↦ deep_enough v.depth (length rest) && may_hear before after (domain_of v.owner) p
              | none ↦ elim (beyond p wn) as (λ m. Bool) [ none ↦ false | some rest ↦ removal && may_hear before after (domain_of v.owner) wn ]
            ]

    told_here : (p : Names) → Attends after v p → Tells p i (heard_event before after ws (happening p))
    unfolding heard_event kept
    told_here p a =
        let m = mask_at (hears before after (happening p)) ws i v at (attends p a) in
        record {
          told = record { mask = mask_of (hears before after (happening p)) ws; path = path_text p };
          among = rw (any_bit_lem _ i m) (Memᴰ.head refl);
          path = refl;
          marked = m;
        }

    told-left : (p : Names) (rs more : List Record) → Tells p i rs → Tells p i (rs ++ more)
    told-left p rs more t = record { told = t.told; among = Memᴰ.append_left more t.among; path = t.path; marked = t.marked }

    told-right : (p : Names) (rs more : List Record) → Tells p i more → Tells p i (rs ++ more)
    told-right p rs more t = record { told = t.told; among = Memᴰ.append_right rs t.among; path = t.path; marked = t.marked }

    -- a path at most k levels up is told of
    told-among : (k j : ℕ) → j ≤ k → (p : Names) → take (length ns - j) ns ≡ p → Attends after v p → Tells p i (told_of_lem k)
    unfolding lineage flat_map
    told-among zero j h p e a =
        let none-off : j ≡ 0 = omega arith in
        let whole : ns ≡ p = sym (take_all (length ns - 0) ns (rw sub-zero (omega arith))) ∙ (ap (λ (m : ℕ). take (length ns - m) ns) (sym none-off) ∙ e) in
        told-left p _ [] (subst (λ (q : Names). Tells p i (heard_event before after ws (happening q))) (sym whole) (told_here p a))
    told-among (suc k) j h p e a = go (ℕ_discrete j (suc k)) (λ l. told-among k j l p e a)
      where
        go : Dec (j ≡ suc k) → (j ≤ k → Tells p i (told_of_lem k))
            → Tells p i (heard_event before after ws (happening (take (length ns - suc k) ns)) ++ told_of_lem k)
        go (yes q) f =
            let this : p ≡ take (length ns - suc k) ns = sym e ∙ ap (λ (m : ℕ). take (length ns - m) ns) q in
            told-left p (heard_event before after ws (happening (take (length ns - suc k) ns))) (told_of_lem k)
            (subst (λ (q : Names). Tells p i (heard_event before after ws (happening q))) this (told_here p a))
        go (no q) f = told-right p (heard_event before after ws (happening (take (length ns - suc k) ns))) (told_of_lem k) (f (omega (arith, q)))

-- ── a request on the store ──

-- a path without the names below p is p
without-below : (ns p below : Names) → ns ≡ p ++ below → take (length ns - length below) ns ≡ p
without-below ns p below e = rw e (take_at p below (length (p ++ below) - length below) (omega (arith, length-append p below)))

module _ (w : World) (s : SoundWorld w) (d : Domain) (a : Ask) (ns : Names) (f : AskedGood a ns) where
  x : Answer
  x = answer d a ns w.nodes

  in_order : Lengthening 0 (on_store w x).records
  unfolding on_store left to heard heard_change events_of flat_map x
  in_order = go x.change refl
    where
      go : (m : Option Change) → x.change ≡ m → Lengthening 0 (on_store w (record { reply = x.reply; table = x.table; change = m })).records
      go none e = tt
      go (some c) e =
          let g = change-good d a ns w.nodes s.nodes.good s.nodes.fitting f.names f.proper c e in
          let parts = good-parts c g.1 in
          let first = some-text (take (length c.names - c.parents) c.names) in
          rw (append-nil (heard_change w.nodes x.table w.watches c))
          (lengthening w.nodes x.table w.watches c.removal c.names c.parents 0 parts.above first)

  -- a path that is new in the store is new in the answer's table
  new_there : (p : Names) → is_there w.nodes p ≡ false → is_there (on_store w x).world.nodes p ≡ true → is_there x.table p ≡ true
  unfolding on_store left to
  new_there p n = go x.change
    where
      go : (m : Option Change) → is_there (on_store w (record { reply = x.reply; table = x.table; change = m })).world.nodes p ≡ true
          → is_there x.table p ≡ true
      go none h = absurd (false≢true (sym n ∙ h))
      go (some c) h = h

  -- a path that was not there is told of
  told_of_created : d ≤ last_domain → creates a ≡ true → succeeds x.reply ≡ true → (p : Names) → all_names p ≡ true → is_there w.nodes p ≡ false
      → is_there (on_store w x).world.nodes p ≡ true → (i : ℕ) (v : Watch) → At w.watches i v
      → Attends (on_store w x).world.nodes v p → Tells p i (on_store w x).records
  unfolding on_store left to heard heard_change events_of flat_map x
  told_of_created hd c q p hp n h i v at b =
      let l = (reach w.nodes ns).left in
      let k = answer-created d a ns w.nodes hd f s.nodes.good c q in
      let above = k.above p hp n (new_there p n h) in
      let below = above.below in
      let this = without-below ns p below above.parts in
      subst Telling (sym (k.change (omega (arith, above.fewer))))
      (λ e. told-left w.nodes x.table w.watches false ns i v at p _ []
      (told-among w.nodes x.table w.watches false ns i v at (length l - 1) (length below) (omega (arith, above.fewer)) p this e)) b
    where
      Telling : Option Change → Type 0
      Telling m = let o = on_store w (record { reply = x.reply; table = x.table; change = m }) in Attends o.world.nodes v p → Tells p i o.records

-- ── a call ──

pub created_is_heard : CreatedIsHeard
unfolding outcome_of handle asked x
created_is_heard cs c ns o k =
    let w = run fresh_world cs in
    let s = run_keeps fresh_world cs fresh_sound in
    let f : AskedGood k.kind ns = subst (ParsedGood c.sender) k.asked (request-good c) in
    let d = domain_of c.sender in
    let y : on_store w (answer d k.kind ns w.nodes) ≡ o = rw (k.asked, k.plain) at (served_is w c o k.served) in
    let hd = known_range w.domains d s.domains (served-known w c o k.served) in (
      λ p hp n h i v at.
          subst (λ (z : Outcome). succeeds z.reply ≡ true → is_there z.world.nodes p ≡ true → Attends z.world.nodes v p → Tells p i z.records) y
          (λ q e. told_of_created w s d k.kind ns f hd k.creating (subst (λ (r : Reply). succeeds r ≡ true) (on_store_reply w 0 _) q) p hp n e i v at)
          k.done h,
      subst (λ (z : Outcome). Lengthening 0 z.records) y (in_order w s d k.kind ns f),
    )
