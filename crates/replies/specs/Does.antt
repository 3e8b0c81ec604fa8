-- What a handler does: the rule book's outcome, on the tables that it is lent.
use Rattle.std.specs.Prelude.{◌≡◌}
use mathlib.Core.List.{flat_map}
use Rattle.std.proofs.Math.Option.{Option, none, some}
use Rattle.rules.specs.Size.{most_transactions, table_size}
use Rattle.rules.specs.Octets.{Octets, chunks}
use Rattle.rules.specs.Layout.{table_bytes, table_of, watches_bytes, watches_of, transactions_bytes, transactions_of, domains_bytes, domains_of}
use Rattle.rules.specs.World as W
use Rattle.rules.specs.World.{World}
use Rattle.rules.specs.Call.{Tables}
use Rattle.replies.specs.Handled.{Outcome, Handled}

-- the bytes of five tables
abbrev pub tables : Octets → Octets → Octets → Octets → Octets → Tables
tables nodes copies watches transactions domains =
    record { nodes = nodes; copies = copies; watches = watches; transactions = transactions; domains = domains }

-- the bytes of each table of w
module _ (w : World) where
  abbrev pub its_nodes : Octets
  its_nodes = table_bytes w.nodes

  abbrev pub its_copies : Octets
  its_copies = flat_map (λ (copy : Octets). copy) w.copies

  abbrev pub its_watches : Octets
  its_watches = watches_bytes w.watches

  abbrev pub its_transactions : Octets
  its_transactions = transactions_bytes w.transactions

  abbrev pub its_domains : Octets
  its_domains = domains_bytes w.domains

-- what a handler is lent: none where a table, or the event records, are not
pub record Lent : Type 0 where
  pub nodes : Option Octets
  pub copies : Option Octets
  pub watches : Option Octets
  pub transactions : Option Octets
  pub domains : Option Octets
  pub reply : Octets
  pub events : Option Octets

abbrev pub lent : Option Octets → Option Octets → Option Octets → Option Octets → Option Octets → Octets → Option Octets → Lent
lent nodes copies watches transactions domains reply events =
    record {
      nodes = nodes;
      copies = copies;
      watches = watches;
      transactions = transactions;
      domains = domains;
      reply = reply;
      events = events;
    }

-- all five tables and the event records
abbrev pub all_lent : Octets → Octets → Octets → Octets → Octets → Octets → Octets → Lent
all_lent nodes copies watches transactions domains reply events =
    lent (some nodes) (some copies) (some watches) (some transactions) (some domains) reply (some events)

-- x is what lent bytes mean
abbrev pub Reads : {A : Type 0} → (Octets → A) → A → Option Octets → Type 0
Reads meaning x none = Unit {0}
Reads meaning x (some s) = x ≡ meaning s

-- the lent tables are those of w
pub record Shows (l : Lent) (w : World) : Type 0 where
  pub nodes : Reads table_of w.nodes l.nodes
  pub copies : Reads (chunks most_transactions table_size) w.copies l.copies
  pub watches : Reads watches_of w.watches l.watches
  pub transactions : Reads transactions_of w.transactions l.transactions
  pub domains : Reads domains_of w.domains l.domains

-- the lent bytes, or those that are not lent
abbrev pub or_else : Octets → Option Octets → Octets
or_else s none = s
or_else s (some t) = t

-- the five tables afterwards: the lent ones as they are left, the others as they were
abbrev pub leaves : World → Lent → Tables
leaves w l =
    tables
    (or_else (its_nodes w) l.nodes)
    (or_else (its_copies w) l.copies)
    (or_else (its_watches w) l.watches)
    (or_else (its_transactions w) l.transactions)
    (or_else (its_domains w) l.domains)

-- whatever the tables are that are not lent, it leaves the outcome on all five
abbrev pub Does : Lent → (World → W.Outcome) → Lent → Outcome → Type 0
Does before outcome after r =
    (w : World) → Shows before w → (unlent : Octets) →
    Handled (outcome w) (leaves w after) before.reply after.reply (or_else unlent before.events) (or_else unlent after.events) r
