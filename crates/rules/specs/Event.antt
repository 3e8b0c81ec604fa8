-- Who hears what: watches, and the records of a call's events.
use Rattle.std.specs.Prelude.{Bool, true, false, cond, ◌&&◌, ◌||◌, ℕ, zero, suc, ◌-◌, length, take, eqb, leb}
use mathlib.Core.List.{List, [], ◌∷◌, map, flat_map}
use Rattle.std.proofs.Math.Option.{Option, none, some}
use Rattle.rules.specs.Octets.{Octets, same, decimal}
use Rattle.rules.specs.Domain.{Domain, Connection, domain_of}
use Rattle.rules.specs.Path.{Names, path_text, beyond}
use Rattle.rules.specs.Node.{Table}
use Rattle.rules.specs.Rights.{readable}
use Rattle.rules.specs.Payload.{Place, path, event}
use Rattle.rules.specs.Answer.{Change}

pub record Watch : Type 0 where
  pub owner : Connection
  pub place : Place
  pub depth : Option ℕ
  pub token : Octets

abbrev pub Watches : Type 0
Watches = List (Option Watch)

-- an event record: one bit a watch, watch 0 first, and a path
pub record Record : Type 0 where
  pub mask : List Bool
  pub path : Octets

-- a watch's own path
unfoldable pub place_text : Place → Octets
place_text (path r ns) = path_text ns
place_text (event e) = e

-- ── the events of a change ──

-- what happened to a path: it was removed, or it was created or changed
pub record Happening : Type 0 where
  pub removal : Bool
  pub names : Names

-- a path behind the k right above it, topmost first
unfoldable pub lineage : ℕ → Names → List Names
lineage zero ns = ns ∷ []
lineage (suc k) ns = take (length ns - suc k) ns ∷ lineage k ns

-- "each created node makes its own event, topmost first, the named path last"
unfoldable pub events_of : Change → List Happening
events_of c = map (λ (ns : Names). record { removal = c.removal; names = ns }) (lineage c.parents c.names)

-- ── one event and one watch ──

-- "no depth given or k at most the depth"
unfoldable pub deep_enough : Option ℕ → ℕ → Bool
deep_enough none k = true
deep_enough (some d) k = leb k d

module _ (before after : Table) where
  -- "the path is present and readable in the main store before the call, or after it"
  unfoldable pub may_hear : Domain → Names → Bool
  may_hear d ns = readable before d ns || readable after d ns

  -- "p is w, or k levels below it", or "p was removed, lies above w"
  unfoldable pub hears_at : Watch → Names → Happening → Bool
  hears_at w wn e =
      elim (beyond wn e.names) [
        | some rest ↦ deep_enough w.depth (length rest) && may_hear (domain_of w.owner) e.names
        | none ↦ elim (beyond e.names wn) [ none ↦ false | some rest ↦ e.removal && may_hear (domain_of w.owner) wn ]
      ]

  -- an `@` watch hears no change of a node
  unfoldable pub hears : Happening → Watch → Bool
  hears e w = elim w.place [ path r wn ↦ hears_at w wn e | event name ↦ false ]

-- ── records ──

unfoldable pub mask_of : (Watch → Bool) → Watches → List Bool
mask_of f [] = []
mask_of f (none ∷ ws) = false ∷ mask_of f ws
mask_of f (some w ∷ ws) = f w ∷ mask_of f ws

unfoldable pub any_bit : List Bool → Bool
any_bit [] = false
any_bit (b ∷ bs) = b || any_bit bs

-- "Records with an empty mask are left out."
unfoldable pub kept : List Bool → Octets → List Record
kept m p = cond (any_bit m) (record { mask = m; path = p } ∷ []) []

unfoldable pub heard_event : Table → Table → Watches → Happening → List Record
heard_event before after ws e = kept (mask_of (hears before after e) ws) (path_text e.names)

unfoldable pub heard_change : Table → Table → Watches → Change → List Record
heard_change before after ws c = flat_map (heard_event before after ws) (events_of c)

-- "a commit makes those of its changes, in order": ws are the watches after the call
unfoldable pub heard : Table → Table → Watches → List Change → List Record
heard before after ws cs = flat_map (heard_change before after ws) cs

unfoldable pub is_event : Octets → Watch → Bool
is_event e w = elim w.place [ path r ns ↦ false | event f ↦ same e f ]

-- "An `@` event goes to `@` watches of its name and carries `/` and the domain id in its record"
unfoldable pub heard_of : Octets → Domain → Watches → List Record
heard_of e d ws = kept (mask_of (is_event e) ws) (47 ∷ decimal d)

-- bit k alone, counted from i on
unfoldable pub only_from : ℕ → ℕ → Watches → List Bool
only_from k i [] = []
only_from k i (w ∷ ws) = eqb k i ∷ only_from k (suc i) ws

-- "WATCH makes one event for its own path, for the new watch only": that in place k
unfoldable pub first_heard : ℕ → Place → Watches → List Record
first_heard k p ws = record { mask = only_from k 0 ws; path = place_text p } ∷ []
