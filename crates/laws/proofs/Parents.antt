-- Parents: the proofs.
use mathlib.Core.Path.{◌≡◌, refl}
use mathlib.Core.Bool.{true, false≢true}
use mathlib.Core.List.{[], ◌∷◌, ◌++◌}
use mathlib.Core.Option.{Option, none, some}
use Prim.Native.Nat.{ℕ}
use native.Mathlib.Omega.{arith}
use Rattle.rules.specs.Entries.{is_empty}
use Rattle.rules.specs.Path.{Names}
use Rattle.rules.specs.Node.{Table, Reached, child, reach_from, reach}
use Rattle.rules.specs.World.{fresh_world}
use Rattle.rules.proofs.GoodTables.{good_of, path_back}
use Rattle.laws.specs.History.{run, is_there}
use Rattle.laws.specs.Parents.{PathLeadsBack, ParentsAreThere, NoOrphans}
use Rattle.laws.proofs.SoundCalls.{fresh_sound, run_keeps}

pub path_leads_back : PathLeadsBack
path_leads_back t i n l h e = path_back t (good_of t (omega arith) h) i n e

above_there : (t : Table) (above below : Names) (i : ℕ) → is_empty (reach_from (above ++ below) t i).left ≡ true → is_empty (reach_from above t i).left ≡ true
unfolding reach_from is_empty
above_there t [] below i h = refl
above_there t (n ∷ ns) below i h = go (child t i n) h (above_there t ns below)
  where
    go : (m : Option ℕ) → is_empty (elim m as (λ m. Reached) [
      | none ↦ record { slot = i; left = n ∷ (ns ++ below) }
      | some j ↦ reach_from (ns ++ below) t j
    ]).left ≡ true
        → ((j : ℕ) → is_empty (reach_from (ns ++ below) t j).left ≡ true → is_empty (reach_from ns t j).left ≡ true)
        → is_empty (elim m as (λ m. Reached) [ none ↦ record { slot = i; left = n ∷ ns } | some j ↦ reach_from ns t j ]).left ≡ true
    go none q f = absurd (false≢true q)
    go (some j) q f = f j q

pub parents_are_there : ParentsAreThere
unfolding is_there reach
parents_are_there t above below h = above_there t above below 0 h

pub no_orphans : NoOrphans
no_orphans cs i n e = let s = run_keeps fresh_world cs fresh_sound in path_back (run fresh_world cs).nodes s.nodes.good i n e
