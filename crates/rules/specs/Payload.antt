-- A request's type and payload, taken apart: steps 1 and 2 of the order of checks.
use Rattle.std.specs.Prelude.{Bool, true, false, cond, List, [], ◌∷◌, ◌++◌, ℕ, ◌-◌, ◌^◌, eqb}
use Rattle.std.proofs.Math.Option.{Option, none, some}
use Rattle.rules.specs.Size.{last_domain, deepest_watch}
use Rattle.rules.specs.Octets.{Octets, text, nul, same, number_in, signed}
use Rattle.rules.specs.Domain.{Domain, Connection, domain_of, is_control}
use Rattle.rules.specs.Path.{Names, Given, malformed, absolute, relative, special, given, base}
use Rattle.rules.specs.Node.{Entry}

-- what is asked of a node
pub data Ask : Type 0 where
  directory : Ask
  read : Ask
  get_perms : Ask
  write : Octets → Ask
  mkdir : Ask
  rm : Ask
  set_perms : Entry → List Entry → Ask

-- where a watch stands: a path, which may have been given relative, or an event's name
pub data Place : Type 0 where
  path : Bool → Names → Place
  event : Octets → Place

pub data Request : Type 0 where
  ask : Ask → Names → Request
  watch : Place → Octets → Option ℕ → Request
  unwatch : Place → Octets → Request
  start : Request
  end : Bool → Request
  introduce : Domain → ℕ → ℕ → Request
  release : Domain → Request
  domain_path : Domain → Request
  is_introduced : Domain → Request
  reset : Request

-- ENOSYS, EINVAL, or a request
pub data Parsed : Type 0 where
  unknown : Parsed
  invalid : Parsed
  request : Request → Parsed

-- ── "Strings are taken one by one from the payload, each nul-ended, none left over" ──

-- a byte put before the first string; with no string after it, it is left over
unfoldable pub before : ℕ → Option (List Octets) → Option (List Octets)
before c none = none
before c (some []) = none
before c (some (s ∷ ss)) = some ((c ∷ s) ∷ ss)

unfoldable pub ended : Option (List Octets) → Option (List Octets)
ended none = none
ended (some ss) = some ([] ∷ ss)

unfoldable pub strings : Octets → Option (List Octets)
strings [] = some []
strings (c ∷ cs) =
    let rest = strings cs in
    cond (eqb c 0) (ended rest) (before c rest)

-- the first string, and the bytes after its nul: WRITE's value is raw
pub record Taken : Type 0 where
  pub first : Octets
  pub rest : Octets

unfoldable pub first_string : Octets → Option Taken
first_string [] = none
first_string (c ∷ cs) =
    let further = first_string cs in
    cond (eqb c 0) (some (record { first = []; rest = cs }))
    (elim further [ none ↦ none | some t ↦ some (record { first = c ∷ t.first; rest = t.rest }) ])

-- ── permission entries ──

unfoldable pub access_letter : ℕ → Option ℕ
access_letter c =
    cond (eqb c 110) (some 0) (cond (eqb c 114) (some 1) (cond (eqb c 119) (some 2) (cond (eqb c 98) (some 3) none)))

-- an access letter and a domain id
unfoldable pub entry_of : Octets → Option Entry
entry_of [] = none
entry_of (c ∷ cs) =
    elim (access_letter c) [
      | none ↦ none
      | some a ↦ elim (number_in 0 last_domain cs) [ none ↦ none | some d ↦ some (record { access = a; domain = d }) ]
    ]

unfoldable pub entries_of : List Octets → Option (List Entry)
entries_of [] = some []
entries_of (s ∷ ss) = elim (entry_of s) [ none ↦ none | some e ↦ elim (entries_of ss) [ none ↦ none | some es ↦ some (e ∷ es) ] ]

-- ── each type's payload, from domain d ──

-- a node request's path; no event's name
unfoldable pub names_of : Domain → Given → Option Names
names_of d malformed = none
names_of d (absolute ns) = some ns
names_of d (relative ns) = some (base d ++ ns)
names_of d (special s) = none

unfoldable pub place_of : Domain → Given → Option Place
place_of d malformed = none
place_of d (absolute ns) = some (path false ns)
place_of d (relative ns) = some (path true (base d ++ ns))
place_of d (special s) = some (event s)

-- "RM of `/`, SET_PERMS on `/` whose first entry isn't domain 0: EINVAL"
unfoldable pub on_root : Ask → Bool
on_root directory = true
on_root read = true
on_root get_perms = true
on_root (write v) = true
on_root mkdir = true
on_root rm = false
on_root (set_perms o es) = is_control o.domain

unfoldable pub proper : Ask → Names → Bool
proper a [] = on_root a
proper a (n ∷ ns) = true

unfoldable pub asking : Domain → Ask → Octets → Parsed
asking d a s = elim (names_of d (given s)) [ none ↦ invalid | some ns ↦ cond (proper a ns) (request (ask a ns)) invalid ]

-- a path alone
unfoldable pub plain : Domain → Ask → Option (List Octets) → Parsed
plain d a none = invalid
plain d a (some []) = invalid
plain d a (some (s ∷ [])) = asking d a s
plain d a (some (s ∷ t ∷ ss)) = invalid

unfoldable pub writing : Domain → Option Taken → Parsed
writing d none = invalid
writing d (some t) = asking d (write t.rest) t.first

unfoldable pub setting : Domain → Octets → Option (List Entry) → Parsed
setting d s none = invalid
setting d s (some []) = invalid
setting d s (some (o ∷ es)) = asking d (set_perms o es) s

-- a path and one entry or more
unfoldable pub setting_all : Domain → Option (List Octets) → Parsed
setting_all d none = invalid
setting_all d (some []) = invalid
setting_all d (some (s ∷ ss)) = setting d s (entries_of ss)

-- "an `@` watch of another depth is EINVAL"
unfoldable pub depth_for : Place → ℕ → Bool
depth_for (path r ns) k = true
depth_for (event e) k = eqb k 1

unfoldable pub watching_to : Place → Octets → Option ℕ → Parsed
watching_to p t none = invalid
watching_to p t (some k) = cond (depth_for p k) (request (watch p t (some k))) invalid

-- a path, a token, and perhaps a depth, "0 to 255, else EINVAL"
unfoldable pub watch_payload : Domain → Option (List Octets) → Parsed
watch_payload d none = invalid
watch_payload d (some []) = invalid
watch_payload d (some (s ∷ [])) = invalid
watch_payload d (some (s ∷ t ∷ [])) = elim (place_of d (given s)) [ none ↦ invalid | some p ↦ request (watch p t none) ]
watch_payload d (some (s ∷ t ∷ k ∷ [])) = elim (place_of d (given s)) [ none ↦ invalid | some p ↦ watching_to p t (number_in 0 deepest_watch k) ]
watch_payload d (some (s ∷ t ∷ k ∷ u ∷ us)) = invalid

unfoldable pub unwatch_payload : Domain → Option (List Octets) → Parsed
unwatch_payload d none = invalid
unwatch_payload d (some []) = invalid
unwatch_payload d (some (s ∷ [])) = invalid
unwatch_payload d (some (s ∷ t ∷ [])) = elim (place_of d (given s)) [ none ↦ invalid | some p ↦ request (unwatch p t) ]
unwatch_payload d (some (s ∷ t ∷ u ∷ us)) = invalid

unfoldable pub introducing_of : Option ℕ → Option ℕ → Option ℕ → Parsed
introducing_of none p c = invalid
introducing_of (some i) none c = invalid
introducing_of (some i) (some p) none = invalid
introducing_of (some i) (some p) (some c) = request (introduce i p c)

-- a domain id from 1 on, a page ("a signed decimal in 64 bits") and a channel ("0 to 4,294,967,295")
unfoldable pub introduce_payload : Option (List Octets) → Parsed
introduce_payload none = invalid
introduce_payload (some []) = invalid
introduce_payload (some (s ∷ [])) = invalid
introduce_payload (some (s ∷ t ∷ [])) = invalid
introduce_payload (some (s ∷ t ∷ u ∷ [])) = introducing_of (number_in 1 last_domain s) (signed t) (number_in 0 (2 ^ 32 - 1) u)
introduce_payload (some (s ∷ t ∷ u ∷ v ∷ vs)) = invalid

-- a domain id alone
unfoldable pub of_domain : ℕ → (Domain → Request) → Option (List Octets) → Parsed
of_domain low f none = invalid
of_domain low f (some []) = invalid
of_domain low f (some (s ∷ [])) = elim (number_in low last_domain s) [ none ↦ invalid | some i ↦ request (f i) ]
of_domain low f (some (s ∷ t ∷ ss)) = invalid

-- "START and RESET_WATCHES carry a single nul"
unfoldable pub bare : Request → Octets → Parsed
bare r s = cond (same s nul) (request r) invalid

-- "START with tx_id not 0: EINVAL"
unfoldable pub start_payload : ℕ → Octets → Parsed
start_payload tx s = cond (eqb tx 0) (bare start s) invalid

unfoldable pub end_payload : Octets → Parsed
end_payload s = cond (same s (text "T" ++ nul)) (request (end true)) (cond (same s (text "F" ++ nul)) (request (end false)) invalid)

-- What the box handles, by type. "Other types get ENOSYS."
unfoldable pub parse : Connection → ℕ → ℕ → Octets → Parsed
parse c type tx s =
    let d = domain_of c in
    let ss = strings s in
    cond (eqb type 1) (plain d directory ss)
    (cond (eqb type 2) (plain d read ss)
    (cond (eqb type 3) (plain d get_perms ss)
    (cond (eqb type 4) (watch_payload d ss)
    (cond (eqb type 5) (unwatch_payload d ss)
    (cond (eqb type 6) (start_payload tx s)
    (cond (eqb type 7) (end_payload s)
    (cond (eqb type 8) (introduce_payload ss)
    (cond (eqb type 9) (of_domain 1 release ss)
    (cond (eqb type 10) (of_domain 0 domain_path ss)
    (cond (eqb type 11) (writing d (first_string s))
    (cond (eqb type 12) (plain d mkdir ss)
    (cond (eqb type 13) (plain d rm ss)
    (cond (eqb type 14) (setting_all d ss)
    (cond (eqb type 17) (of_domain 0 is_introduced ss)
    (cond (eqb type 21) (bare reset s)
    unknown)))))))))))))))
