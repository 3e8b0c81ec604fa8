-- The events of a change, level by level: those of the parents that it created, topmost first, and that of its path.
use mathlib.Core.Path.{◌≡◌, subst}
use mathlib.Core.Bool.{Bool, true}
use mathlib.Core.List.{flat_map}
use Prim.Native.Nat.{ℕ, ◌+◌, ◌-◌, ◌≤◌, ◌<◌}
use native.Mathlib.Omega.{arith}
use lib.ListN.{length, take}
use Rattle.rules.specs.Size.{most_records, events_size}
use Rattle.rules.specs.Octets.{Octets}
use Rattle.rules.specs.Path.{is_full}
use Rattle.rules.specs.Node.{Table}
use Rattle.rules.specs.Event.{Watches, events_of, heard_event, heard_change}
use Rattle.rules.proofs.Changes.{heard_once}
use Rattle.paths.specs.Names.{Above}
use Rattle.transactions.specs.Transaction.{change_given}
use Rattle.events.specs.Records.{Recorded, Room}
use Rattle.events.specs.Stores.{happened}
use Rattle.events.proofs.Entering.{Entered, entered_none, entered_room, entered_next, entered_all}
use Rattle.events.proofs.ChangeLaws.{given-length, parent-event, own-event}

module _ (b a : Table) (ws : Watches) (removed : Bool) (parents : ℕ) (p : Octets) where
  -- behind `from` records there are those of the parents that lie more than so many levels above the path
  pub record Told (from : ℕ) (before after : Octets) (levels n : ℕ) : Type 0 where
    pub few : levels ≤ parents
    pub entered : Entered (heard_event b a ws) 1 (events_of (change_given removed parents p)) from before after (parents - levels) n

  module _ (from : ℕ) (before : Octets) where
    pub told_none : length before ≡ events_size → Told from before before parents from
    told_none l =
        let none : 0 ≡ parents - parents = omega arith in
        record {
          few = omega arith;
          entered = subst (λ (j : ℕ). Entered (heard_event b a ws) 1 (events_of (change_given removed parents p)) from before before j from) none
              (entered_none _ 1 _ from before l);
        }

    module _ (middle : Octets) (levels n : ℕ) (t : Told from before middle levels n) where
      pub told-room : from + (parents - levels + 1) ≤ most_records → Room middle n 1
      told-room k = entered_room _ 1 _ from before middle _ n t.entered (omega arith)

      pub told_next : is_full p ≡ true → 0 < levels → from + (parents - levels + 1) ≤ most_records → (end : ℕ) → Above p levels end
          → (after : Octets) (r : ℕ) → Recorded n (heard_event b a ws (happened removed (take end p))) middle after r
          → Told from before after (levels - 1) r
      told_next f l k end up after r g =
          let one : parents - levels + 1 ≡ parents - (levels - 1) = omega (arith, t.few) in
          let inside : parents - levels < length (events_of (change_given removed parents p)) = omega (arith, given-length removed parents p) in
          record {
            few = omega (arith, t.few);
            entered = subst (λ (j : ℕ). Entered (heard_event b a ws) 1 (events_of (change_given removed parents p)) from before after j r) one
                (entered_next _ 1 _ from before middle _ n t.entered inside (omega arith) _ _ (parent-event removed parents p f levels end t.few up)
                (heard_once b a ws _) after r g);
          }

      -- those of the parents are there
      pub told-parents : levels ≤ 0 → Recorded from (flat_map (heard_event b a ws) (take parents (events_of (change_given removed parents p)))) before middle n
      told-parents z =
          let all : parents - levels ≡ parents = omega arith in
          subst (λ (j : ℕ). Recorded from (flat_map (heard_event b a ws) (take j (events_of (change_given removed parents p)))) before middle n) all
          t.entered.recorded

      -- and with the path's own all
      pub told-all : levels ≤ 0 → from + (parents + 1) ≤ most_records → (after : Octets) (r : ℕ)
          → Recorded n (heard_event b a ws (happened removed p)) middle after r
          → Recorded from (heard_change b a ws (change_given removed parents p)) before after r
      unfolding heard_change
      told-all z k after r g =
          let long = given-length removed parents p in
          entered_all _ 1 _ from before after _ r
          (entered_next _ 1 _ from before middle _ n t.entered (omega arith) (omega arith) _ _ (own-event removed parents p levels z)
          (heard_once b a ws _) after r g) (omega arith)
