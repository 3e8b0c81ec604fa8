-- Which tables are sound: bytes that re-encode to themselves, so that lengths and zero padding are as stated, and whose content is well formed.
use Rattle.std.specs.Prelude.{Bool, true, false, not, ◌&&◌, ◌||◌, List, [], ◌∷◌, ℕ, zero, suc, ◌-◌, length, get_or, eqb, ltb, leb}
use Rattle.std.proofs.Math.Option.{Option, none, some}
use Rattle.rules.specs.Size.{table_size, deepest, last_domain, domains_size, watches_size, transactions_size}
use Rattle.rules.specs.Octets.{Octets, same}
use Rattle.rules.specs.Entries.{has}
use Rattle.rules.specs.Domain.{Domain, Connection, domain_of, is_control}
use Rattle.rules.specs.Path.{Name, Names, is_name, fits, base, beyond}
use Rattle.rules.specs.Node.{Entry, Node, Table, node_at}
use Rattle.rules.specs.Payload.{Place, path, event}
use Rattle.rules.specs.Answer.{Change}
use Rattle.rules.specs.Event.{Watch, Watches, place_text}
use Rattle.rules.specs.Layout.{table_bytes, table_of, Domains, domains_bytes, domains_of, watches_bytes, watches_of, Transactions, transactions_bytes}
use Rattle.rules.specs.Layout.{transactions_of}

-- ── the node table ──

unfoldable pub good_entries : List Entry → Bool
good_entries [] = true
good_entries (e ∷ es) = leb e.domain last_domain && good_entries es

-- "every parent chain reaches slot 0 in at most 8 steps, by used slots": slot i in at most k
unfoldable pub reaches_root : ℕ → Table → ℕ → Bool
reaches_root zero t i = eqb i 0
reaches_root (suc k) t i = eqb i 0 || elim (get_or t i none) [ none ↦ false | some n ↦ reaches_root k t n.parent ]

-- the root alone has no name
unfoldable pub good_name : ℕ → Name → Bool
good_name zero n = same n []
good_name (suc i) n = is_name n

unfoldable pub good_node : Table → ℕ → Option Node → Bool
good_node t i none = not (eqb i 0)
good_node t i (some n) = good_name i n.name && (good_entries (n.owner ∷ n.others) && reaches_root deepest t i)

unfoldable pub good_nodes : Table → ℕ → Table → Bool
good_nodes t i [] = true
good_nodes t i (s ∷ ss) = good_node t i s && good_nodes t (suc i) ss

-- "slot 0 is the nameless root, its own parent, owned by 0"
unfoldable pub good_root : Node → Bool
good_root n = eqb n.parent 0 && is_control n.owner.domain

-- siblings with one name
unfoldable pub clash : Node → Node → Bool
clash n m = eqb n.parent m.parent && same n.name m.name

unfoldable pub distinct : Table → Bool
distinct [] = true
distinct (none ∷ ss) = distinct ss
distinct (some n ∷ ss) = not (has (clash n) ss) && distinct ss

unfoldable pub good_table : Table → Bool
good_table t = good_nodes t 0 t && (good_root (node_at t 0) && distinct t)

unfoldable pub sound_table : Octets → Bool
sound_table s =
    let t = table_of s in
    eqb (length s) table_size && (same (table_bytes t) s && good_table t)

-- ── domains ──

unfoldable pub introduced : Domain → Domains → Bool
introduced d ds = has (eqb d) ds

-- domain 0, or an introduced one
unfoldable pub known : Domain → Domains → Bool
known d ds = is_control d || introduced d ds

-- "introduced ids differ"; none is 0
unfoldable pub good_domains : Domains → Bool
good_domains [] = true
good_domains (none ∷ ds) = good_domains ds
good_domains (some d ∷ ds) = leb 1 d && (leb d last_domain && (not (introduced d ds) && good_domains ds))

unfoldable pub sound_domains : Octets → Bool
sound_domains s =
    let ds = domains_of s in
    eqb (length s) domains_size && (same (domains_bytes ds) s && good_domains ds)

-- ── watches ──

unfoldable pub no_nul : Octets → Bool
no_nul [] = true
no_nul (c ∷ cs) = not (eqb c 0) && no_nul cs

-- a path that lies below its base, not at it
unfoldable pub strictly_below : Option Names → Bool
strictly_below none = false
strictly_below (some []) = false
strictly_below (some (n ∷ ns)) = true

unfoldable pub event_depth : Option ℕ → Bool
event_depth none = true
event_depth (some k) = eqb k 1

-- a full path within the sizes, below the owner's base if it is relative; or an event's name with owner 0 and depth 1 or none
unfoldable pub good_place : Connection → Option ℕ → Place → Bool
good_place c depth (path r ns) = fits ns && (not r || strictly_below (beyond (base (domain_of c)) ns))
good_place c depth (event e) = leb 1 (length e) && (is_control (domain_of c) && event_depth depth)

-- the same owner, path and token
unfoldable pub twin : Connection → Octets → Octets → Watch → Bool
twin c p t w = eqb c w.owner && (same p (place_text w.place) && same t w.token)

unfoldable pub watched : Connection → Octets → Octets → Watches → Bool
watched c p t ws = has (twin c p t) ws

unfoldable pub good_watch : Domains → Watch → Bool
good_watch ds w = known (domain_of w.owner) ds && (no_nul w.token && good_place w.owner w.depth w.place)

-- "no two watches agree in owner, path and token"
unfoldable pub good_watches : Domains → Watches → Bool
good_watches ds [] = true
good_watches ds (none ∷ ws) = good_watches ds ws
good_watches ds (some w ∷ ws) = good_watch ds w && (not (watched w.owner (place_text w.place) w.token ws) && good_watches ds ws)

unfoldable pub sound_watches : Domains → Octets → Bool
sound_watches ds s =
    let ws = watches_of s in
    eqb (length s) watches_size && (same (watches_bytes ws) s && good_watches ds ws)

-- ── transactions ──

-- a removed path has no new parents and is not `/`
unfoldable pub good_removal : Change → Bool
good_removal c = not c.removal || (eqb c.parents 0 && ltb 0 (length c.names))

-- a full path within the sizes, with no more new parents than it has nodes above it besides the root
unfoldable pub good_change : Change → Bool
good_change c = fits c.names && (leb c.parents (length c.names - 1) && good_removal c)

unfoldable pub good_changes : List Change → Bool
good_changes [] = true
good_changes (c ∷ cs) = good_change c && good_changes cs

-- each open transaction's holder is known and its copy sound; "a closed transaction's copy may hold anything"
unfoldable pub good_transactions : Domains → Transactions → List Octets → Bool
good_transactions ds [] copies = true
good_transactions ds (none ∷ xs) [] = good_transactions ds xs []
good_transactions ds (none ∷ xs) (copy ∷ copies) = good_transactions ds xs copies
good_transactions ds (some x ∷ xs) [] = false
good_transactions ds (some x ∷ xs) (copy ∷ copies) =
    known (domain_of x.holder) ds && (good_changes x.changes && (sound_table copy && good_transactions ds xs copies))

unfoldable pub sound_transactions : Domains → List Octets → Octets → Bool
sound_transactions ds copies s =
    let xs = transactions_of s in
    eqb (length s) transactions_size && (same (transactions_bytes xs) s && good_transactions ds xs copies)
