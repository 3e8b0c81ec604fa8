-- The records of events and of changes.
use mathlib.Core.Path.{◌≡◌, refl, sym, ap, ap₂, ◌∙◌}
use mathlib.Core.Bool.{Bool, true, false, false≢true}
use mathlib.Core.List.{List, [], ◌++◌, map, flat_map, append-nil, append_assoc}
use Prim.Native.Nat.{ℕ, zero, suc, ◌+◌, ◌-◌, ◌≤◌, ◌<◌}
use native.Mathlib.Numerals.{add-one}
use native.Mathlib.Omega.{arith}
use lib.ListN.{length, get_or, take, length-map, get_or-map}
use lib.Seq.{take_all, length-take-le}
use Rattle.rules.specs.Size.{longest_path, longest_absolute, deepest, events_size}
use Rattle.rules.specs.Octets.{Octets}
use Rattle.rules.specs.Domain.{Domain}
use Rattle.rules.specs.Path.{Names, is_full, names_in, path_text}
use Rattle.rules.specs.Node.{Table, path_of}
use Rattle.rules.specs.Rights.{readable}
use Rattle.rules.specs.Answer.{Change}
use Rattle.rules.specs.Event.{Watches, Record, Happening, lineage, events_of, hears, mask_of, kept, heard_event, heard_change}
use Rattle.rules.specs.Layout.{table_of}
use Rattle.rules.specs.Sound.{good_change, good_changes}
use Rattle.rules.proofs.PathLaws.{full, text-full, text-names}
use Rattle.rules.proofs.Tables.{each_at}
use Rattle.rules.proofs.SoundTables.{good-changes}
use Rattle.rules.proofs.Changes.{good-parts, lineage_at, events-length, events-few, change-few}
use Rattle.paths.specs.Names.{Above}
use Rattle.paths.proofs.AboveLaws.{above_names}
use Rattle.transactions.specs.Transaction.{change_given, no_change, transaction_of, change_of, OpenTransaction, HasChange}
use Rattle.transactions.proofs.ChangeLaws.{change-fits}
use Rattle.lookup.specs.Rights.{Asked}
use Rattle.events.specs.Records.{Recorded, Room}
use Rattle.events.specs.Stores.{happened, NewAbove, heard_parents, removal_of}
use Rattle.events.proofs.RecordLaws.{recorded-length}
use Rattle.events.proofs.EitherLaws.{heard-after}
use Rattle.events.proofs.SlotPaths.{slot-text}

-- ── one event ──

-- the record of an event has the text that was given
pub heard-given : (b a : Table) (ws : Watches) (removed : Bool) (p : Octets) → is_full p ≡ true
    → heard_event b a ws (happened removed p) ≡ kept (mask_of (hears b a (happened removed p)) ws) p
unfolding heard_event happened
heard-given b a ws removed p h = ap (kept (mask_of (hears b a (happened removed p)) ws)) (sym (full p h).text)

abbrev event_of : Bool → Names → Happening
event_of removed ns = record { removal = removed; names = ns }

-- ── the events of a change ──

module _ (removed : Bool) (parents : ℕ) (p : Octets) where
  abbrev given : Change
  given = change_given removed parents p

  pub given-length : length (events_of given) ≡ parents + 1
  unfolding change_given
  given-length = events-length given ∙ sym (add-one parents)

  given_at_lem : (i : ℕ) → i ≤ parents → (ns : Names) → ns ≡ take (length (names_in p) - (parents - i)) (names_in p)
      → event_of removed ns ≡ get_or (events_of given) i (event_of removed [])
  unfolding change_given events_of
  given_at_lem i h ns e =
      ap (event_of removed) (e ∙ sym (lineage_at parents (names_in p) i h)) ∙ sym (get_or-map (event_of removed) (lineage parents (names_in p)) i [])

  -- the event of the path that lies some levels above
  pub parent-event : is_full p ≡ true → (levels end : ℕ) → levels ≤ parents → Above p levels end
      → happened removed (take end p) ≡ get_or (events_of given) (parents - levels) (event_of removed [])
  unfolding happened
  parent-event f levels end h a =
      let back : levels ≡ parents - (parents - levels) = omega arith in
      given_at_lem (parents - levels) (omega arith) _ (above_names p f levels end a ∙ ap (λ (k : ℕ). take (length (names_in p) - k) (names_in p)) back)

  -- the path's own event, no level above, is the last
  pub own-event : (levels : ℕ) → levels ≤ 0 → happened removed p ≡ get_or (events_of given) (parents - levels) (event_of removed [])
  unfolding happened
  own-event levels z =
      let all : length (names_in p) ≤ length (names_in p) - (parents - (parents - levels)) = omega arith in
      given_at_lem (parents - levels) (omega arith) _ (sym (take_all _ (names_in p) all))

  -- it has a record for each at most
  pub given-few : (b a : Table) (ws : Watches) (most : ℕ) → parents < most → length (heard_change b a ws given) ≤ most
  unfolding change_given
  given-few b a ws most h = omega (arith, change-few b a ws given)

-- ── the parents that a change created ──

module _ (b a : Table) (ws : Watches) (removed : Bool) (ns : Names) where
  lineage_since : (k : ℕ) → (removed ≡ true → k ≡ 0)
      → ((j : ℕ) → 1 ≤ j → j ≤ k → (d : Domain) → readable b d (take (length ns - j) ns) ≡ false)
      → flat_map (heard_event b a ws) (map (event_of removed) (lineage k ns))
      ≡ flat_map (heard_event a a ws) (take k (map (event_of false) (lineage k ns))) ++ heard_event b a ws (event_of removed ns)
  unfolding lineage flat_map
  lineage_since zero w u = append-nil (heard_event b a ws (event_of removed ns))
  lineage_since (suc k) w u =
      let parent = take (length ns - suc k) ns in
      let written : removed ≡ false = not_removed removed (λ r. omega (arith, w r)) in
      let alone = heard-after b a (event_of removed parent) written (u (suc k) (omega arith) (omega arith)) ws in
      let first : heard_event b a ws (event_of removed parent) ≡ heard_event a a ws (event_of false parent) =
      alone ∙ ap (λ (r : Bool). heard_event a a ws (event_of r parent)) written in
      let rest = lineage_since k (λ r. absurd (false≢true (sym written ∙ r))) (λ j l m. u j l (omega arith)) in
      ap₂ (λ (x y : List Record). x ++ y) first rest
      ∙ sym (append_assoc (heard_event a a ws (event_of false parent)) _ (heard_event b a ws (event_of removed ns)))
    where
      not_removed : (r : Bool) → (r ≡ true → ⊥) → r ≡ false
      not_removed true h = absurd (h refl)
      not_removed false h = refl

-- the records of a change are those of the parents that it created, as the store after tells, and that of its path
pub heard_since : (b a : Table) (ws : Watches) (removed : Bool) (parents : ℕ) (p : Octets) → NewAbove b removed parents p
    → heard_change b a ws (change_given removed parents p) ≡ heard_parents a ws parents p ++ heard_event b a ws (happened removed p)
unfolding heard_change heard_parents change_given events_of happened
heard_since b a ws removed parents p n = lineage_since b a ws removed (names_in p) parents n.written n.absent

parents-few : (a : Table) (ws : Watches) (parents : ℕ) (p : Octets) → length (heard_parents a ws parents p) ≤ parents
unfolding heard_parents
parents-few a ws parents p =
    let l = length-take-le parents (events_of (change_given false parents p)) (omega (arith, given-length false parents p)) in
    omega (arith, events-few a a ws (take parents (events_of (change_given false parents p))))

-- and there is room for that one
pub since_room : (a : Table) (ws : Watches) (parents : ℕ) (p before after : Octets) (r : ℕ) → parents < deepest → length before ≡ events_size
    → Recorded 0 (heard_parents a ws parents p) before after r → Room after r 1
since_room a ws parents p before after r h l f =
    let few = parents-few a ws parents p in
    let long : length after ≡ length before = recorded-length 0 (heard_parents a ws parents p) before after r (omega arith) f in
    record { whole = long ∙ l; few = omega (arith, f.count) }

-- ── the changes of a transaction ──

pub has-change : {s : Octets} {k j count : ℕ} → OpenTransaction s k → count ≡ length (transaction_of s k).changes → j < count → HasChange s k j
has-change o e h = record { place = o; there = omega (arith, e) }

module _ (s : Octets) (k j : ℕ) (h : HasChange s k j) where
  pub change-parents : (parents : ℕ) → parents ≡ (change_of s k j).parents → parents < deepest
  change-parents parents r = omega (arith, (change-fits s k j h).parents)

  module _ (p : Octets) (e : p ≡ path_text (change_of s k j).names) where
    pub change-short : length p ≤ longest_path
    change-short = rw e (change-fits s k j h).short

    long_enough : length (path_text (change_of s k j).names) ≤ longest_absolute
    long_enough = omega (arith, (change-fits s k j h).short)

    pub change-full : is_full p ≡ true
    change-full = rw e (text-full _ (change-fits s k j h).names long_enough)

    names_are : names_in p ≡ (change_of s k j).names
    names_are = ap names_in e ∙ text-names _ (change-fits s k j h).names long_enough

    pub change_above : good_changes (transaction_of s k).changes ≡ true → (parents : ℕ) → parents ≡ (change_of s k j).parents
        → parents ≤ length (names_in p) - 1
    change_above g parents r =
        let cs = (transaction_of s k).changes in
        let good = each_at (λ (c : Change). good_change c ≡ true) cs j no_change (good-changes cs g) h.there in
        rw names_are (omega (arith, (good-parts (change_of s k j) good).above))

    pub change-given : (removed : Bool) (parents : ℕ) → removed ≡ (change_of s k j).removal → parents ≡ (change_of s k j).parents
        → change_given removed parents p ≡ change_of s k j
    unfolding change_given
    change-given removed parents q r = let n = names_are in λ i. record { removal = q i; parents = r i; names = n i }

-- ── removals ──

module _ (b a : Table) (ws : Watches) where
  pub removal-given : (t : Octets) (i : ℕ) → Asked t i → (p : Octets) → p ≡ path_text (path_of (table_of t) i)
      → heard_event b a ws (happened true p) ≡ heard_change b a ws (removal_of (table_of t) i)
  unfolding heard_change events_of lineage flat_map happened removal_of
  removal-given t i h p e = ap (λ (ns : Names). heard_event b a ws (event_of true ns)) (ap names_in e ∙ slot-text t i h) ∙ sym (append-nil _)

  pub removal-few : (t : Table) (i : ℕ) → length (heard_change b a ws (removal_of t i)) ≤ 1
  unfolding removal_of
  removal-few t i = change-few b a ws (removal_of t i)

module _ (t : Table) (list : List ℕ) (count : ℕ) (h : count ≤ length list) where
  pub removals_length : length (map (removal_of t) (take count list)) ≡ count
  removals_length = length-map (take count list) (removal_of t) ∙ length-take-le count list h

  pub removal_at : (i s : ℕ) → s ≡ get_or (take count list) i 0 → removal_of t s ≡ get_or (map (removal_of t) (take count list)) i (removal_of t 0)
  removal_at i s e = ap (removal_of t) e ∙ sym (get_or-map (removal_of t) (take count list) i 0)
