-- The tables as bytes: what each entry's bytes are, and what bytes mean.
use Rattle.std.specs.Prelude.{Bool, true, false, cond, ℕ, zero, suc, ◌+◌, ◌*◌, ◌-◌, length, take, drop, replicate, eqb}
use mathlib.Core.List.{List, [], ◌∷◌, ◌++◌, map, flat_map}
use Rattle.std.proofs.Math.Option.{Option, none, some}
use Rattle.rules.specs.Size.{slots, slot_size, fields_size, entries_size, name_at, longest_name, value_at, longest_value, most_entries, most_domains}
use Rattle.rules.specs.Size.{domain_size, most_watches, watch_fields_size, token_at, watch_size, longest_path, longest_token, most_transactions}
use Rattle.rules.specs.Size.{changes_at, changes_size, transaction_size, most_changes, change_fields_size, change_size, record_path_at}
use Rattle.rules.specs.Octets.{Octets, padded, chunks, big_endian, field, Bits, ◌bits◌, pack, bits_at, bit}
use Rattle.rules.specs.Domain.{Domain, Connection}
use Rattle.rules.specs.Path.{malformed, absolute, relative, special, given, names_in, path_text}
use Rattle.rules.specs.Node.{Entry, Node, Table}
use Rattle.rules.specs.Payload.{Place, path, event}
use Rattle.rules.specs.Answer.{Change}
use Rattle.rules.specs.Event.{Watch, Watches, Record, place_text}

-- the text of a part whose field gives its length: at most k bytes from i on
unfoldable pub text_at : Octets → ℕ → ℕ → ℕ → Octets
text_at s i k n = take n (take k (drop i s))

-- ── node slots: used 1, parent 7, name length 6, value length 7, entry count 3; four entries; name; value ──

-- "access 2 and domain id 16", for k entries
unfoldable pub entry_bits : ℕ → List Entry → List Bits
entry_bits zero es = []
entry_bits (suc k) [] = 18 bits 0 ∷ entry_bits k []
entry_bits (suc k) (e ∷ es) = 2 bits e.access ∷ 16 bits e.domain ∷ entry_bits k es

unfoldable pub node_bits : Node → List Bits
node_bits n = 1 bits 1 ∷ 7 bits n.parent ∷ 6 bits length n.name ∷ 7 bits length n.value ∷ 3 bits suc (length n.others) ∷ []

unfoldable pub slot_bytes : Option Node → Octets
slot_bytes none = replicate slot_size 0
slot_bytes (some n) =
    big_endian fields_size (pack (node_bits n))
    ++ (big_endian entries_size (pack (entry_bits most_entries (n.owner ∷ n.others)))
    ++ (padded longest_name n.name ++ padded longest_value n.value))

-- the entry with k more after it
unfoldable pub entry_at : ℕ → ℕ → Entry
entry_at es k = record { access = bits_at es (18 * k + 16) 2; domain = bits_at es (18 * k) 16 }

unfoldable pub node_of : Octets → ℕ → ℕ → Node
node_of s head es =
    record {
      parent = bits_at head 16 7;
      name = text_at s name_at longest_name (bits_at head 10 6);
      value = text_at s value_at longest_value (bits_at head 3 7);
      owner = entry_at es 3;
      others = take (bits_at head 0 3 - 1) (entry_at es 2 ∷ entry_at es 1 ∷ entry_at es 0 ∷ []);
    }

unfoldable pub slot_of : Octets → Option Node
slot_of s =
    let head = field s 0 fields_size in
    let node = node_of s head (field s fields_size entries_size) in
    cond (eqb (bits_at head 23 1) 1) (some node) none

unfoldable pub table_bytes : Table → Octets
table_bytes t = flat_map slot_bytes t

unfoldable pub table_of : Octets → Table
table_of s = map slot_of (chunks slots slot_size s)

-- ── domains: used 1, zero 7, domain id 16 ──

abbrev pub Domains : Type 0
Domains = List (Option Domain)

unfoldable pub domain_bytes : Option Domain → Octets
domain_bytes none = replicate domain_size 0
domain_bytes (some d) = big_endian domain_size (pack (1 bits 1 ∷ 7 bits 0 ∷ 16 bits d ∷ []))

unfoldable pub domain_in : Octets → Option Domain
domain_in s =
    let head = field s 0 domain_size in
    cond (eqb (bits_at head 23 1) 1) (some (bits_at head 0 16)) none

unfoldable pub domains_bytes : Domains → Octets
domains_bytes ds = flat_map domain_bytes ds

unfoldable pub domains_of : Octets → Domains
domains_of s = map domain_in (chunks most_domains domain_size s)

-- ── watches: used 1, given relative 1, depth given 1, zero 5; depth 8; owner 16; path length 9, zero 1, token length 6; path; token ──

unfoldable pub is_relative : Place → Bool
is_relative (path r ns) = r
is_relative (event e) = false

-- the depth's bit, and the depth after five zero bits; "A depth that was not given is 0"
unfoldable pub depth_bits : Option ℕ → List Bits
depth_bits none = 1 bits 0 ∷ 5 bits 0 ∷ 8 bits 0 ∷ []
depth_bits (some k) = 1 bits 1 ∷ 5 bits 0 ∷ 8 bits k ∷ []

unfoldable pub watch_bits : Watch → List Bits
watch_bits w =
    1 bits 1 ∷ 1 bits bit (is_relative w.place) ∷ depth_bits w.depth
    ++ (16 bits w.owner ∷ 9 bits length (place_text w.place) ∷ 1 bits 0 ∷ 6 bits length w.token ∷ [])

unfoldable pub watch_bytes : Option Watch → Octets
watch_bytes none = replicate watch_size 0
watch_bytes (some w) = big_endian watch_fields_size (pack (watch_bits w)) ++ (padded longest_path (place_text w.place) ++ padded longest_token w.token)

-- what is neither a full path nor an event's name is read as an empty event name, which no sound watch has
unfoldable pub place_in : Bool → Octets → Place
place_in r s = elim (given s) [ malformed ↦ event [] | absolute ns ↦ path r ns | relative ns ↦ event [] | special e ↦ event e ]

unfoldable pub watch_at : Octets → ℕ → Watch
watch_at s head =
    record {
      owner = bits_at head 16 16;
      place = place_in (eqb (bits_at head 46 1) 1) (text_at s watch_fields_size longest_path (bits_at head 7 9));
      depth = cond (eqb (bits_at head 45 1) 1) (some (bits_at head 32 8)) none;
      token = text_at s token_at longest_token (bits_at head 0 6);
    }

unfoldable pub watch_in : Octets → Option Watch
watch_in s =
    let head = field s 0 watch_fields_size in
    let w = watch_at s head in
    cond (eqb (bits_at head 47 1) 1) (some w) none

unfoldable pub watches_bytes : Watches → Octets
watches_bytes ws = flat_map watch_bytes ws

unfoldable pub watches_of : Octets → Watches
watches_of s = map watch_in (chunks most_watches watch_size s)

-- ── transactions: open 1, stale 1, zero 2, changes 4; holder 16; eight changes of: removed 1, zero 3, new parents 3, path length 9; path ──

pub record Transaction : Type 0 where
  pub holder : Connection
  pub stale : Bool
  pub changes : List Change

abbrev pub Transactions : Type 0
Transactions = List (Option Transaction)

-- one that its holder has just started
abbrev pub opened : Connection → Transaction
opened c = record { holder = c; stale = false; changes = [] }

abbrev pub as_stale : Transaction → Transaction
as_stale x = record { holder = x.holder; stale = true; changes = x.changes }

abbrev pub with_change : Transaction → Change → Transaction
with_change x c = record { holder = x.holder; stale = x.stale; changes = x.changes ++ (c ∷ []) }

unfoldable pub change_bits : Change → List Bits
change_bits c = 1 bits bit c.removal ∷ 3 bits 0 ∷ 3 bits c.parents ∷ 9 bits length (path_text c.names) ∷ []

unfoldable pub change_bytes : Change → Octets
change_bytes c = big_endian change_fields_size (pack (change_bits c)) ++ padded longest_path (path_text c.names)

unfoldable pub transaction_bytes : Option Transaction → Octets
transaction_bytes none = replicate transaction_size 0
transaction_bytes (some x) =
    big_endian changes_at (pack (1 bits 1 ∷ 1 bits bit x.stale ∷ 2 bits 0 ∷ 4 bits length x.changes ∷ 16 bits x.holder ∷ []))
    ++ padded changes_size (flat_map change_bytes x.changes)

unfoldable pub change_in : Octets → Change
change_in s =
    let head = field s 0 change_fields_size in
    record {
      removal = eqb (bits_at head 15 1) 1;
      parents = bits_at head 9 3;
      names = names_in (text_at s change_fields_size longest_path (bits_at head 0 9));
    }

unfoldable pub transaction_at : Octets → ℕ → Transaction
transaction_at s head =
    record {
      holder = bits_at head 0 16;
      stale = eqb (bits_at head 22 1) 1;
      changes = map change_in (take (bits_at head 16 4) (chunks most_changes change_size (drop changes_at s)));
    }

unfoldable pub transaction_in : Octets → Option Transaction
transaction_in s =
    let head = field s 0 changes_at in
    let x = transaction_at s head in
    cond (eqb (bits_at head 23 1) 1) (some x) none

unfoldable pub transactions_bytes : Transactions → Octets
transactions_bytes xs = flat_map transaction_bytes xs

unfoldable pub transactions_of : Octets → Transactions
transactions_of s = map transaction_in (chunks most_transactions transaction_size s)

-- ── event records: mask 16, watch 0 first; path length 9, zero 7; path ──

unfoldable pub mask_bits : List Bool → List Bits
mask_bits [] = []
mask_bits (b ∷ bs) = 1 bits bit b ∷ mask_bits bs

unfoldable pub record_bytes : Record → Octets
record_bytes r =
    big_endian record_path_at (pack (mask_bits r.mask ++ (9 bits length r.path ∷ 7 bits 0 ∷ [])))
    ++ padded longest_path r.path
