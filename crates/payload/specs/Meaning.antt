-- What a request means: its places in the payload, read as the rule book's texts.
use Rattle.std.specs.Prelude.{true, false, List, [], ◌∷◌, ◌++◌, ◌≡◌, ℕ, ◌-◌, ◌^◌, ◌<◌, ◌≤◌, length, take, drop, replicate, get_or}
use Rattle.std.specs.Prelude.{Option, Some, None, unwrap_or}
use Rattle.rules.specs.Size.{last_domain, deepest_watch, most_entries}
use Rattle.rules.specs.Octets.{Octets}
use Rattle.rules.specs.Path.{Domain, Connection, domain_of, Names, Given, malformed, absolute, relative, special, given, base}
use Rattle.rules.specs.Node as nodes
use Rattle.rules.specs.Payload as rules
use Rattle.octets.specs.Options as options
use Rattle.paths.specs.Form.{form_of}
use Rattle.payload.specs.Strings.{part}
use Rattle.payload.specs.declared.answer.Path.{Path}
use Rattle.payload.specs.declared.answer.Entry.{Entry}
use Rattle.payload.specs.declared.answer.Entries.{Entries}
use Rattle.payload.specs.declared.answer.Ask.{Ask}
use Rattle.payload.specs.declared.answer.Ask.TheVariants as ask
use Rattle.payload.specs.declared.answer.Request.{Request}
use Rattle.payload.specs.declared.answer.Request.TheVariants.{Unknown, Invalid, Ask as Asked, Watch, Unwatch, Start, End, Introduce, Release}
use Rattle.payload.specs.declared.answer.Request.TheVariants.{DomainPath, IsIntroduced, Reset}

-- ── paths ──

-- the names of a path from domain d; what is no path of a node has none
unfoldable pub names_from : Domain → Given → Names
names_from d malformed = []
names_from d (absolute ns) = ns
names_from d (relative ns) = base d ++ ns
names_from d (special e) = []

-- where a watch stands; what is malformed is read as the root
unfoldable pub place_from : Domain → Given → rules.Place
place_from d malformed = rules.path false []
place_from d (absolute ns) = rules.path false ns
place_from d (relative ns) = rules.path true (base d ++ ns)
place_from d (special e) = rules.event e

abbrev pub given_at : Octets → Path → Given
given_at s p = given (take p.end s)

abbrev pub names_at : Domain → Octets → Path → Names
names_at d s p = names_from d (given_at s p)

abbrev pub place_at : Domain → Octets → Path → rules.Place
place_at d s p = place_from d (given_at s p)

-- ── permission entries ──

abbrev pub entry_meant : Entry → nodes.Entry
entry_meant e = record { access = e.access; domain = e.domain }

-- what stands for an entry that is not kept
abbrev pub blank : nodes.Entry
blank = record { access = 0; domain = 0 }

-- the entry kept at a place
abbrev pub kept_at : Entries → ℕ → Entry
kept_at es k = get_or es.kept k (record { access = 0; domain = 0 })

-- the entries after the owner's: those that are kept, and a blank for each further one
unfoldable pub others_meant : Entries → List nodes.Entry
others_meant es =
    take (es.count - 1) (entry_meant (kept_at es 1) ∷ entry_meant (kept_at es 2) ∷ entry_meant (kept_at es 3) ∷ [])
    ++ replicate (es.count - most_entries) blank

-- the entries after the owner's, with blanks from the fifth entry on
unfoldable pub first_others : List nodes.Entry → List nodes.Entry
first_others es = take (most_entries - 1) es ++ replicate (length es - (most_entries - 1)) blank

-- ── what is asked of a node ──

-- the rule book's request; a value stands in the payload s
abbrev pub ask_meant : Octets → Ask → rules.Ask
ask_meant s ask.Directory = rules.directory
ask_meant s ask.Read = rules.read
ask_meant s ask.GetPerms = rules.get_perms
ask_meant s (ask.Write from) = rules.write (drop from s)
ask_meant s ask.Mkdir = rules.mkdir
ask_meant s ask.Rm = rules.rm
ask_meant s (ask.SetPerms es) = rules.set_perms (entry_meant (kept_at es 0)) (others_meant es)

-- ── requests ──

-- what a request of domain d with payload s means
unfoldable pub meant : Domain → Octets → Request → rules.Parsed
meant d s Unknown = rules.unknown
meant d s Invalid = rules.invalid
meant d s (Asked a p) = rules.request (rules.ask (ask_meant s a) (names_at d s p))
meant d s (Watch p a e k) = rules.request (rules.watch (place_at d s p) (part a e s) (options.meant k))
meant d s (Unwatch p a e) = rules.request (rules.unwatch (place_at d s p) (part a e s))
meant d s Start = rules.request rules.start
meant d s (End b) = rules.request (rules.end b)
meant d s (Introduce i page channel) = rules.request (rules.introduce i page channel)
meant d s (Release i) = rules.request (rules.release i)
meant d s (DomainPath i) = rules.request (rules.domain_path i)
meant d s (IsIntroduced i) = rules.request (rules.is_introduced i)
meant d s Reset = rules.request rules.reset

unfoldable pub ask_kept : rules.Ask → rules.Ask
ask_kept rules.directory = rules.directory
ask_kept rules.read = rules.read
ask_kept rules.get_perms = rules.get_perms
ask_kept (rules.write v) = rules.write v
ask_kept rules.mkdir = rules.mkdir
ask_kept rules.rm = rules.rm
ask_kept (rules.set_perms o es) = rules.set_perms o (first_others es)

unfoldable pub request_kept : rules.Request → rules.Request
request_kept (rules.ask a ns) = rules.ask (ask_kept a) ns
request_kept (rules.watch p t k) = rules.watch p t k
request_kept (rules.unwatch p t) = rules.unwatch p t
request_kept rules.start = rules.start
request_kept (rules.end b) = rules.end b
request_kept (rules.introduce i p c) = rules.introduce i p c
request_kept (rules.release i) = rules.release i
request_kept (rules.domain_path i) = rules.domain_path i
request_kept (rules.is_introduced i) = rules.is_introduced i
request_kept rules.reset = rules.reset

-- A request as far as it is kept: of SET_PERMS the first four entries and how many there are. With four or fewer, that is all of it.
unfoldable pub kept : rules.Parsed → rules.Parsed
kept rules.unknown = rules.unknown
kept rules.invalid = rules.invalid
kept (rules.request r) = rules.request (request_kept r)

-- ── what a caller relies on ──

-- the path lies inside the payload, a nul behind it, and its form is kept
pub record PathSound (s : Octets) (p : Path) : Type 0 where
  pub inside : p.end < length s
  pub form : form_of (given_at s p) ≡ p.form

-- the bytes from a to e lie inside the payload, a nul behind them
pub record TextSound (s : Octets) (a e : ℕ) : Type 0 where
  pub low : a ≤ e
  pub high : e < length s

pub record EntrySound (e : Entry) : Type 0 where
  pub access : e.access < 4
  pub domain : e.domain ≤ last_domain

pub record EntriesSound (es : Entries) : Type 0 where
  pub some-entry : 1 ≤ es.count
  pub each : (k : ℕ) → EntrySound (kept_at es k)

-- the bounds of a value's place and of entries
abbrev pub AskSound : Octets → Ask → Type 0
AskSound s ask.Directory = Unit {0}
AskSound s ask.Read = Unit {0}
AskSound s ask.GetPerms = Unit {0}
AskSound s (ask.Write from) = from ≤ length s
AskSound s ask.Mkdir = Unit {0}
AskSound s ask.Rm = Unit {0}
AskSound s (ask.SetPerms es) = EntriesSound es

-- a request of a node: it may be asked of its path, whoever sends it
pub record AskedSound (s : Octets) (a : Ask) (p : Path) : Type 0 where
  pub path : PathSound s p
  pub ask : AskSound s a
  pub proper : (d : Domain) → rules.proper (ask_meant s a) (names_at d s p) ≡ true

abbrev pub DepthSound : Option ℕ → Type 0
DepthSound (Some k) = k ≤ deepest_watch
DepthSound None = Unit

pub record WatchSound (s : Octets) (p : Path) (a e : ℕ) (k : Option ℕ) : Type 0 where
  pub path : PathSound s p
  pub token : TextSound s a e
  pub depth : DepthSound k

pub record IntroduceSound (i port : ℕ) : Type 0 where
  pub low : 1 ≤ i
  pub high : i ≤ last_domain
  pub channel : port < 2 ^ 32

-- the bounds of a request's places and numbers
abbrev pub Sound : Octets → Request → Type 0
Sound s Unknown = Unit
Sound s Invalid = Unit
Sound s (Asked a p) = AskedSound s a p
Sound s (Watch p a e k) = WatchSound s p a e k
Sound s (Unwatch p a e) = WatchSound s p a e None
Sound s Start = Unit
Sound s (End b) = Unit
Sound s (Introduce i page channel) = IntroduceSound i channel
Sound s (Release i) = (1 ≤ i) × (i ≤ last_domain)
Sound s (DomainPath i) = i ≤ last_domain
Sound s (IsIntroduced i) = i ≤ last_domain
Sound s Reset = Unit

-- r is what the rule book makes of the payload, whoever sends it, and its places and numbers are within their bounds
pub record Means (s : Octets) (r : Request) (q : Connection → rules.Parsed) : Type 0 where
  pub meaning : (c : Connection) → meant (domain_of c) s r ≡ q c
  pub sound : Sound s r

-- the same of a request or none; none is what a malformed payload gives
abbrev pub Parses : Octets → Option Request → (Connection → rules.Parsed) → Type 0
Parses s o q = Means s (unwrap_or o Invalid) q
