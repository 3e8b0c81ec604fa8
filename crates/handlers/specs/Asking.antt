-- A node request: what it works on, who hears it, and what is entered.
use Rattle.std.specs.Prelude.{◌≡◌, true, false, ℕ, ◌*◌, ◌≤◌, length, take, drop}
use Rattle.std.proofs.Math.Option.{none, some}
use Rattle.rules.specs.Size.{last_domain, reply_size, table_size, copies_size, events_size}
use Rattle.rules.specs.Octets.{Octets}
use Rattle.rules.specs.Domain.{Domain}
use Rattle.rules.specs.Path.{is_full, names_in}
use Rattle.rules.specs.Node.{Table}
use Rattle.rules.specs.Payload as P
use Rattle.rules.specs.Answer as A
use Rattle.rules.specs.Answer.{Change, ENOSPC, refused}
use Rattle.rules.specs.Event.{Watches, hears, mask_of, heard_change}
use Rattle.rules.specs.Layout.{table_of, watches_of, transactions_bytes, transactions_of}
use Rattle.rules.specs.Sound.{sound_table}
use Rattle.rules.specs.World.{staled}
use Rattle.watches.specs.Watch.{KeptWatches}
use Rattle.transactions.specs.Transaction.{KeptTransactions, OpenTransaction}
use Rattle.events.specs.Records as Events
use Rattle.events.specs.Records.{Mask}
use Rattle.events.specs.Stores.{happened}
use Rattle.payload.specs.Meaning.{ask_meant, AskSound}
use Rattle.payload.specs.declared.answer.Ask.{Ask}
use Rattle.payload.specs.declared.answer.Ask.TheVariants.{Directory, Read, GetPerms, Write, Mkdir, Rm, SetPerms}

-- the bytes of copy k
abbrev pub copy_in : Octets → ℕ → Octets
copy_in copies k = take table_size (drop (k * table_size) copies)

-- what domain d asks for a full path: a request of the rule book, in its bounds, on the payload s
pub record Asking (d : Domain) (ask : Ask) (path s : Octets) : Type 0 where
  pub domain : d ≤ last_domain
  pub full : is_full path ≡ true
  pub sound : AskSound s ask
  pub proper : P.proper (ask_meant s ask) (names_in path) ≡ true

-- the store: a sound node table, watches and transactions whose bytes are those of what they mean
pub record OnStore (nodes watches transactions reply events : Octets) : Type 0 where
  pub sound : sound_table nodes ≡ true
  pub watching : KeptWatches watches
  pub kept : KeptTransactions transactions
  pub long : length reply ≡ reply_size
  pub room : length events ≡ events_size

-- the mask of those that hear in a store the change that a request would make
abbrev pub Hearing : Ask → Table → Watches → Octets → ℕ → Type 0
Hearing Directory t ws path m = Unit {0}
Hearing Read t ws path m = Unit {0}
Hearing GetPerms t ws path m = Unit {0}
Hearing (Write from) t ws path m = Mask (mask_of (hears t t (happened false path)) ws) m
Hearing Mkdir t ws path m = Mask (mask_of (hears t t (happened false path)) ws) m
Hearing Rm t ws path m = Mask (mask_of (hears t t (happened true path)) ws) m
Hearing (SetPerms es) t ws path m = Mask (mask_of (hears t t (happened false path)) ws) m

-- all open transactions are stale, and the change's events are recorded
pub record Changed (before : Table) (nodes watches transactions : Octets) (c : Change) (events transactions' events' : Octets) (n : ℕ) : Type 0 where
  pub stale : transactions' ≡ transactions_bytes (staled (transactions_of transactions))
  pub heard : Events.Recorded 0 (heard_change before (table_of nodes) (watches_of watches) c) events events' n

-- the open transaction in place k, whose copy is sound
pub record InCopy (copies transactions : Octets) (k : ℕ) (reply : Octets) : Type 0 where
  pub whole : length copies ≡ copies_size
  pub place : OpenTransaction transactions k
  pub sound : sound_table (copy_in copies k) ≡ true
  pub long : length reply ≡ reply_size

-- "a ninth is refused with ENOSPC": the reply of a request in a transaction that has eight
unfoldable pub ninth_reply : A.Answer → A.Reply
ninth_reply a = elim a.change [ none ↦ a.reply | some c ↦ refused ENOSPC ]
