-- What the small answers of this crate mean.
use Rattle.std.specs.Prelude.{Bool, true, false, cond, Option, Some, None, List, [], ◌∷◌, ℕ, ◌+◌, eqb, ltb, replicate, set}
use Rattle.std.proofs.Math.Option as math
use Rattle.std.proofs.Math.Option.{none, some}
use Rattle.rules.specs.Size.{last_domain, most_entries}
use Rattle.rules.specs.Octets.{Octets, number_in}
use Rattle.rules.specs.Node as nodes
use Rattle.rules.specs.Payload as rules
use Rattle.paths.specs.declared.answer.Form.{Form}
use Rattle.paths.specs.declared.answer.Form.TheVariants.{Absolute, Relative, Special, Malformed}
use Rattle.payload.specs.Meaning.{entry_meant, blank, ask_meant}
use Rattle.payload.specs.declared.answer.Path.{Path}
use Rattle.payload.specs.declared.answer.Ask.{Ask}
use Rattle.payload.specs.declared.answer.Ask.TheVariants as ask
use Rattle.payload.specs.declared.answer.Entry.{Entry}
use Rattle.payload.specs.declared.answer.Entries.{Entries}
use Rattle.payload.specs.declared.answer.Request.{Request}
use Rattle.payload.specs.declared.answer.Request.TheVariants.{Ask as Asked}

-- ── paths ──

-- the path of a node request that ends at e, by its form
unfoldable pub named_of : ℕ → Form → Option Path
named_of e Absolute = Some (record { end = e; form = Absolute })
named_of e Relative = Some (record { end = e; form = Relative })
named_of e Special = None
named_of e Malformed = None

-- the place of a watch, by its form
unfoldable pub placed_of : ℕ → Form → Option Path
placed_of e Absolute = Some (record { end = e; form = Absolute })
placed_of e Relative = Some (record { end = e; form = Relative })
placed_of e Special = Some (record { end = e; form = Special })
placed_of e Malformed = None

-- `/` alone
unfoldable pub is_root : Path → Bool
is_root p = elim p.form [ Absolute ↦ eqb p.end 1 | Relative ↦ false | Special ↦ false | Malformed ↦ false ]

-- an event's name takes depth 1 alone
unfoldable pub depth_fits : Path → ℕ → Bool
depth_fits p k = elim p.form [ Absolute ↦ true | Relative ↦ true | Special ↦ eqb k 1 | Malformed ↦ true ]

-- what is asked of a path: on `/` only what may be asked of it
unfoldable pub asking_of : Octets → Ask → Path → Option Request
asking_of s a p = cond (cond (is_root p) (rules.on_root (ask_meant s a)) true) (Some (Asked a p)) None

-- what is asked of a watch's place, if it is one, with a token and perhaps a depth
unfoldable pub watch_of : math.Option rules.Place → Octets → math.Option ℕ → rules.Parsed
watch_of none t k = rules.invalid
watch_of (some p) t none = rules.request (rules.watch p t none)
watch_of (some p) t (some k) = rules.watching_to p t (some k)

-- the domain id from the least on that some strings are, if they are one
unfoldable pub domain_in : ℕ → math.Option (List Octets) → math.Option ℕ
domain_in least none = none
domain_in least (some []) = none
domain_in least (some (s ∷ [])) = number_in least last_domain s
domain_in least (some (s ∷ t ∷ ss)) = none

-- ── permission entries ──

abbrev pub permission_meant : Option Entry → math.Option nodes.Entry
permission_meant (Some e) = some (entry_meant e)
permission_meant None = none

abbrev pub entry_held : nodes.Entry → Entry
entry_held e = record { access = e.access; domain = e.domain }

abbrev pub no_entries : Entries
no_entries = record { count = 0; kept = replicate most_entries (entry_held blank) }

-- one entry more: it is kept if it is among the first four, and counted
unfoldable pub with_entry : Entries → Entry → Entries
with_entry es e = record { count = es.count + 1; kept = cond (ltb es.count most_entries) (set es.kept es.count e) es.kept }

unfoldable pub added : Entries → List nodes.Entry → Entries
added es [] = es
added es (e ∷ more) = added (with_entry es (entry_held e)) more

unfoldable pub added_to : Entries → math.Option (List nodes.Entry) → Option Entries
added_to es none = None
added_to es (some more) = Some (added es more)

-- the entries of some strings, if they are strings and each is an entry
unfoldable pub entries_in : math.Option (List Octets) → math.Option (List nodes.Entry)
entries_in none = none
entries_in (some ts) = rules.entries_of ts

-- SET_PERMS: one entry or more
unfoldable pub setting_of : Octets → Path → Entries → Option Request
setting_of s p es = cond (eqb es.count 0) None (asking_of s (ask.SetPerms es) p)
