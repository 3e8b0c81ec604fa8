-- Good requests: what parsing makes sure of, whatever the message.
use mathlib.Core.Path.{◌≡◌, refl}
use mathlib.Core.Bool.{true, not, ◌||◌}
use mathlib.Core.List.{[], ◌∷◌}
use mathlib.Core.Option.{Option, none, some}
use Prim.Native.Nat.{ℕ, ◌≤◌}
use Rattle.rules.specs.Size.{last_domain, deepest_watch}
use Rattle.rules.specs.Octets.{Octets}
use Rattle.rules.specs.Path.{Connection, domain_of, Names, all_names, special, given, base, beyond}
use Rattle.rules.specs.Payload.{Ask, Place, path, event, Request, ask, watch, unwatch, start, end, introduce, release, domain_path, is_introduced}
use Rattle.rules.specs.Payload.{reset, Parsed, unknown, invalid, request, on_root, proper, depth_for}
use Rattle.rules.specs.Sound.{no_nul, strictly_below}
use Rattle.rules.proofs.Fitting.{AskFits}
use Rattle.rules.proofs.GoodAnswers.{AskGood}

-- what may be asked of the root may be asked of every path
pub proper_open : (a : Ask) (ns : Names) → on_root a ≡ true → proper a ns ≡ true
unfolding proper
proper_open a [] h = h
proper_open a (n ∷ ns) h = refl

-- a node request: its path has names, its entries are good, and the root's rules are met
pub record AskedGood (a : Ask) (ns : Names) : Type 0 where
  pub names : all_names ns ≡ true
  pub proper : proper a ns ≡ true
  pub entries : AskGood a
  pub fits : AskFits a

abbrev pub PlaceGood : Connection → Place → Type 0
PlaceGood c (path r ns) = (all_names ns ≡ true) × ((not r || strictly_below (beyond (base (domain_of c)) ns)) ≡ true)
PlaceGood c (event e) = given e ≡ special e

abbrev pub DepthGood : Place → Option ℕ → Type 0
DepthGood p none = Unit {0}
DepthGood p (some k) = (k ≤ deepest_watch) × (depth_for p k ≡ true)

pub record WatchedGood (c : Connection) (p : Place) (t : Octets) (k : Option ℕ) : Type 0 where
  pub place : PlaceGood c p
  pub token : no_nul t ≡ true
  pub depth : DepthGood p k

abbrev pub RequestGood : Connection → Request → Type 0
RequestGood c (ask a ns) = AskedGood a ns
RequestGood c (watch p t depth) = WatchedGood c p t depth
RequestGood c (unwatch p t) = Unit {0}
RequestGood c start = Unit {0}
RequestGood c (end commit) = Unit {0}
RequestGood c (introduce d page channel) = (1 ≤ d) × (d ≤ last_domain)
RequestGood c (release d) = (1 ≤ d) × (d ≤ last_domain)
RequestGood c (domain_path d) = Unit {0}
RequestGood c (is_introduced d) = Unit {0}
RequestGood c reset = Unit {0}

abbrev pub ParsedGood : Connection → Parsed → Type 0
ParsedGood c unknown = Unit {0}
ParsedGood c invalid = Unit {0}
ParsedGood c (request r) = RequestGood c r
