-- What a release works on, and what it leaves.
use Rattle.std.specs.Prelude.{◌≡◌, Bool, true, not, ◌++◌, map, ℕ, eqb, length}
use Rattle.rules.specs.Size.{events_size}
use Rattle.rules.specs.Octets.{Octets}
use Rattle.rules.specs.Entries.{is_empty, without}
use Rattle.rules.specs.Domain.{Domain}
use Rattle.rules.specs.Path.{release_name}
use Rattle.rules.specs.Node.{owned_by, without_all}
use Rattle.rules.specs.Event.{heard, heard_of}
use Rattle.rules.specs.Layout.{table_bytes, table_of, watches_bytes, watches_of, transactions_bytes, transactions_of, domains_bytes, domains_of}
use Rattle.rules.specs.Sound.{sound_table}
use Rattle.rules.specs.World.{staled_if, without_watches, without_transactions}
use Rattle.domains.specs.Kept.{KeptDomains}
use Rattle.watches.specs.Watch.{KeptWatches}
use Rattle.transactions.specs.Transaction.{KeptTransactions}
use Rattle.events.specs.Records as Events
use Rattle.events.specs.Stores.{removal_of}

-- the tables without what a domain had in them
pub record Forgotten (watches transactions domains : Octets) (d : Domain) (removed : Bool) (watches' transactions' domains' : Octets) : Type 0 where
  pub unwatched : watches' ≡ watches_bytes (without_watches (eqb d) (watches_of watches))
  pub ended : transactions' ≡ transactions_bytes (staled_if removed (without_transactions (eqb d) (transactions_of transactions)))
  pub forgotten : domains' ≡ domains_bytes (without (eqb d) (domains_of domains))

-- a sound node table, and side tables whose bytes are those of what they mean
pub record Releasable (nodes watches transactions domains events : Octets) : Type 0 where
  pub sound : sound_table nodes ≡ true
  pub watching : KeptWatches watches
  pub kept : KeptTransactions transactions
  pub known : KeptDomains domains
  pub room : length events ≡ events_size

-- the store without the nodes that domain d owns, the other tables without d, and the records of both
pub record Released (nodes watches transactions domains : Octets) (d : Domain) (events nodes' watches' transactions' domains' events' : Octets)
    (n : ℕ) : Type 0 where
  pub removed : nodes' ≡ table_bytes (without_all (table_of nodes) (owned_by (table_of nodes) d))
  pub without : Forgotten watches transactions domains d (not (is_empty (owned_by (table_of nodes) d))) watches' transactions' domains'
  pub recorded :
      let after = without_all (table_of nodes) (owned_by (table_of nodes) d) in
      let ws = without_watches (eqb d) (watches_of watches) in
      let gone = map (removal_of (table_of nodes)) (owned_by (table_of nodes) d) in
      Events.Recorded 0 (heard (table_of nodes) after ws gone ++ heard_of release_name d ws) events events' n
