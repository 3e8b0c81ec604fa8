-- Things recorded one after the other, each with so many records at most: the turns of a loop that enters them.
use mathlib.Core.Path.{◌≡◌, ap, ◌∙◌}
use mathlib.Core.List.{List, ◌++◌, flat_map}
use Prim.Native.Nat.{ℕ, ◌+◌, ◌*◌, ◌≤◌, ◌<◌}
use native.Mathlib.Nat.{suc-mul}
use native.Mathlib.Numerals.{add-one}
use native.Mathlib.Omega.{arith}
use lib.ListN.{length, get_or, take}
use lib.Seq.{take-suc, take_all}
use Rattle.rules.specs.Size.{most_records, events_size}
use Rattle.rules.specs.Octets.{Octets}
use Rattle.rules.specs.Event.{Record}
use Rattle.rules.proofs.Tables.{flat_last}
use Rattle.events.specs.Records.{Recorded, Room}
use Rattle.events.proofs.RecordLaws.{recorded-none, recorded_more, recorded-length}

module _ {A : Type 0} (f : A → List Record) where
  flat_next : (xs : List A) (j : ℕ) (d : A) → j < length xs → flat_map f (take (j + 1) xs) ≡ flat_map f (take j xs) ++ f (get_or xs j d)
  flat_next xs j d h =
      ap (flat_map f) (ap (λ (k : ℕ). take k xs) (add-one j) ∙ take-suc xs j d h) ∙ flat_last f (take j xs) (get_or xs j d)

  module _ (most : ℕ) where
    next_most : (j : ℕ) → (j + 1) * most ≡ j * most + most
    next_most j = ap (λ (i : ℕ). i * most) (add-one j) ∙ suc-mul j most

    -- the first j of some things are entered behind `from` records, and there are n then
    pub record Entered (xs : List A) (from : ℕ) (before after : Octets) (j n : ℕ) : Type 0 where
      pub within : j ≤ length xs
      pub few : n ≤ from + j * most
      pub was : length before ≡ events_size
      pub long : length after ≡ events_size
      pub recorded : Recorded from (flat_map f (take j xs)) before after n

    module _ (xs : List A) (from : ℕ) (before : Octets) where
      pub entered_none : length before ≡ events_size → Entered xs from before before 0 from
      unfolding flat_map
      entered_none l = record { within = omega arith; few = omega arith; was = l; long = l; recorded = recorded-none from before }

      module _ (middle : Octets) (j n : ℕ) (e : Entered xs from before middle j n) where
        pub entered_room : from + (j + 1) * most ≤ most_records → Room middle n most
        entered_room k = record { whole = e.long; few = omega (arith, e.few, next_most j) }

        pub entered_next : j < length xs → from + (j + 1) * most ≤ most_records → (d x : A) → x ≡ get_or xs j d → length (f x) ≤ most
            → (after : Octets) (r : ℕ) → Recorded n (f x) middle after r → Entered xs from before after (j + 1) r
        entered_next h k d x q one after r g =
            let room = entered_room k in
            let l : length after ≡ length middle = recorded-length n (f x) middle after r (omega (arith, room.few, e.long)) g in
            record {
              within = omega arith;
              few = omega (arith, e.few, g.count, next_most j);
              was = e.was;
              long = l ∙ e.long;
              recorded = rw (flat_next xs j d h, ← q) (recorded_more from _ _ before middle after n r (omega (arith, e.was)) e.recorded g);
            }

        pub entered_all : length xs ≤ j → Recorded from (flat_map f xs) before middle n
        entered_all h = rw (take_all j xs h) at e.recorded

pub room-less : {events : Octets} {n k m : ℕ} → Room events n k → m ≤ k → Room events n m
room-less r h = record { whole = r.whole; few = omega (arith, r.few) }
