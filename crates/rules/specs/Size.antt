-- The sizes of document 01, each named in one place.
use Rattle.std.specs.Prelude.{ℕ, ◌+◌, ◌*◌}

-- ── how much there can be ──

-- node slots, with the root
abbrev pub slots : ℕ
slots = 128

abbrev pub most_watches : ℕ
most_watches = 16

abbrev pub most_transactions : ℕ
most_transactions = 3

-- introduced domains, besides domain 0
abbrev pub most_domains : ℕ
most_domains = 8

abbrev pub longest_name : ℕ
longest_name = 32

abbrev pub longest_value : ℕ
longest_value = 64

abbrev pub longest_token : ℕ
longest_token = 32

-- the root has depth 0
abbrev pub deepest : ℕ
deepest = 8

abbrev pub most_entries : ℕ
most_entries = 4

-- changes in a transaction
abbrev pub most_changes : ℕ
most_changes = 8

abbrev pub most_records : ℕ
most_records = 128

-- ── what a payload may hold ──

abbrev pub longest_payload : ℕ
longest_payload = 4096

abbrev pub longest_absolute : ℕ
longest_absolute = 3072

abbrev pub longest_relative : ℕ
longest_relative = 2048

abbrev pub last_domain : ℕ
last_domain = 32751

abbrev pub deepest_watch : ℕ
deepest_watch = 255

-- ── bytes ──

-- a message's header: type, req_id, tx_id, len
abbrev pub header_size : ℕ
header_size = 16

abbrev pub req_at : ℕ
req_at = 4

abbrev pub tx_at : ℕ
tx_at = 8

abbrev pub len_at : ℕ
len_at = 12

-- a stored path: a slash and a name a level
abbrev pub longest_path : ℕ
longest_path = deepest * (1 + longest_name)

-- a slot: its fields, its permission entries, the name, the value
abbrev pub fields_size : ℕ
fields_size = 3

abbrev pub entries_size : ℕ
entries_size = 9

abbrev pub name_at : ℕ
name_at = fields_size + entries_size

abbrev pub value_at : ℕ
value_at = name_at + longest_name

abbrev pub slot_size : ℕ
slot_size = value_at + longest_value

abbrev pub table_size : ℕ
table_size = slots * slot_size

abbrev pub copies_size : ℕ
copies_size = most_transactions * table_size

abbrev pub domain_size : ℕ
domain_size = 3

abbrev pub domains_size : ℕ
domains_size = most_domains * domain_size

-- a watch: its fields, the path, the token
abbrev pub watch_fields_size : ℕ
watch_fields_size = 6

abbrev pub token_at : ℕ
token_at = watch_fields_size + longest_path

abbrev pub watch_size : ℕ
watch_size = token_at + longest_token

abbrev pub watches_size : ℕ
watches_size = most_watches * watch_size

-- a change: its fields, the path
abbrev pub change_fields_size : ℕ
change_fields_size = 2

abbrev pub change_size : ℕ
change_size = change_fields_size + longest_path

-- a transaction: its fields, the changes
abbrev pub changes_at : ℕ
changes_at = 3

abbrev pub changes_size : ℕ
changes_size = most_changes * change_size

abbrev pub transaction_size : ℕ
transaction_size = changes_at + changes_size

abbrev pub transactions_size : ℕ
transactions_size = most_transactions * transaction_size

-- an event record: its mask, the path's length, the path
abbrev pub mask_size : ℕ
mask_size = 2

abbrev pub record_path_at : ℕ
record_path_at = 4

abbrev pub record_size : ℕ
record_size = record_path_at + longest_path

abbrev pub events_size : ℕ
events_size = most_records * record_size

abbrev pub reply_size : ℕ
reply_size = header_size + longest_payload

-- an event message: the header, the path and a nul, the token and a nul
abbrev pub message_size : ℕ
message_size = header_size + longest_path + 1 + longest_token + 1
