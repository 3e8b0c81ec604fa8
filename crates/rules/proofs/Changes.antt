-- Changes and their events: what a good change is made of, how many events it has, and which path stands where among them.
use mathlib.Core.Path.{◌≡◌, refl, sym, ◌∙◌, ap}
use mathlib.Core.Bool.{Bool, true, false, ◌&&◌, and-eq-true_iff}
use mathlib.Core.List.{List, [], flat_map}
use Prim.Native.Nat.{ℕ, zero, suc, ◌*◌, ◌-◌, ◌≤◌, ◌<◌}
use native.Mathlib.Nat.{sub-zero, suc-sub-suc}
use native.Mathlib.Omega.{arith}
use lib.ListN.{length, get_or, take, length-map}
use lib.Seq.{take_all}
use lib.Dec.{eqb, ltb, leb}
use borrow.Author.Tests.{eqb-true, eq-eqb, leb-true, le-leb, ltb-true, lt-ltb}
use Rattle.rules.specs.Size.{deepest}
use Rattle.rules.specs.Path.{Names, fits, short_names}
use Rattle.rules.specs.Node.{Table}
use Rattle.rules.specs.Answer.{Change}
use Rattle.rules.specs.Event.{Watches, Record, Happening, lineage, events_of, hears, mask_of, any_bit, kept, heard_event, heard_change, heard}
use Rattle.rules.specs.Sound.{good_removal, good_change}
use Rattle.rules.proofs.Cases.{cond_case}
use Rattle.rules.proofs.Tables.{Each, each_map, each_always, flat_few}

-- ── good changes ──

pub record GoodParts (c : Change) : Type 0 where
  pub fitting : fits c.names ≡ true
  pub above : c.parents ≤ length c.names - 1
  pub removed : c.removal ≡ true → (c.parents ≡ 0) × (0 < length c.names)

module _ (c : Change) where
  removal-parts : good_removal c ≡ true → c.removal ≡ true → (c.parents ≡ 0) × (0 < length c.names)
  unfolding good_removal
  removal-parts h r =
      let p = (and-eq-true_iff (eqb c.parents 0) (ltb 0 (length c.names))).0 (rw r at h) in
      (eqb-true c.parents 0 p.0, ltb-true 0 (length c.names) p.1)

  parts-removal : (b : Bool) → c.removal ≡ b → (c.removal ≡ true → (c.parents ≡ 0) × (0 < length c.names)) → good_removal c ≡ true
  unfolding good_removal
  parts-removal false e h = rw e refl
  parts-removal true e h =
      rw e ((and-eq-true_iff (eqb c.parents 0) (ltb 0 (length c.names))).1
      (eq-eqb c.parents 0 (h e).0, lt-ltb 0 (length c.names) (h e).1))

  pub good-parts : good_change c ≡ true → GoodParts c
  unfolding good_change
  good-parts h =
      let p = (and-eq-true_iff (fits c.names) (leb c.parents (length c.names - 1) && good_removal c)).0 h in
      let q = (and-eq-true_iff (leb c.parents (length c.names - 1)) (good_removal c)).0 p.1 in
      record { fitting = p.0; above = leb-true c.parents (length c.names - 1) q.0; removed = removal-parts q.1 }

  pub parts-good : GoodParts c → good_change c ≡ true
  unfolding good_change
  parts-good g =
      (and-eq-true_iff (fits c.names) (leb c.parents (length c.names - 1) && good_removal c)).1 (
        g.fitting,
        (and-eq-true_iff (leb c.parents (length c.names - 1)) (good_removal c)).1
            (le-leb c.parents (length c.names - 1) g.above, parts-removal c.removal refl g.removed),
      )

  -- so many as the field of an entry holds
  pub parents-few : GoodParts c → c.parents < deepest
  unfolding fits
  parents-few g =
      let d = leb-true (length c.names) deepest ((and-eq-true_iff (leb (length c.names) deepest) (short_names c.names)).0 g.fitting).0 in
      omega (arith, g.above)

-- ── the paths of a change ──

pub lineage-length : (k : ℕ) (ns : Names) → length (lineage k ns) ≡ suc k
unfolding lineage
lineage-length zero ns = refl
lineage-length (suc k) ns = ap suc (lineage-length k ns)

-- path i of a path behind the k right above it has k - i names less
pub lineage_at : (k : ℕ) (ns : Names) (i : ℕ) → i ≤ k → get_or (lineage k ns) i [] ≡ take (length ns - (k - i)) ns
unfolding lineage
lineage_at zero ns zero h = sym (rw (sub-zero (length ns)) (take_all (length ns) ns (omega arith)))
lineage_at zero ns (suc i) h = absurd (omega arith)
lineage_at (suc k) ns zero h = rw (sub-zero (suc k)) refl
lineage_at (suc k) ns (suc i) h = rw (suc-sub-suc k i) (lineage_at k ns i (omega arith))

module _ (c : Change) where
  pub events-length : length (events_of c) ≡ suc c.parents
  unfolding events_of
  events-length = length-map (lineage c.parents c.names) _ ∙ lineage-length c.parents c.names

-- ── how many records ──

module _ (before after : Table) (ws : Watches) where
  pub heard_once : (e : Happening) → length (heard_event before after ws e) ≤ 1
  unfolding heard_event kept
  heard_once e = cond_case (λ (l : List Record). length l ≤ 1) (any_bit (mask_of (hears before after e) ws)) _ _ (omega arith) (omega arith)

  pub events-few : (es : List Happening) → length (flat_map (heard_event before after ws) es) ≤ length es
  events-few es = omega (arith, flat_few (heard_event before after ws) 1 es (each_always _ heard_once es))

  -- a change has one record for each created node at most
  pub change-few : (c : Change) → length (heard_change before after ws c) ≤ suc c.parents
  unfolding heard_change
  change-few c = omega (arith, events-few (events_of c), events-length c)

  pub heard-few : (most : ℕ) (cs : List Change) → Each (λ (c : Change). c.parents < most) cs → length (heard before after ws cs) ≤ length cs * most
  unfolding heard
  heard-few most cs h =
      flat_few (heard_change before after ws) most cs
      (each_map (λ (c : Change). c.parents < most) _ (λ c few. omega (arith, few, change-few c)) cs h)
