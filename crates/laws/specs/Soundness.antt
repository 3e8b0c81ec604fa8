-- Soundness: the tables that the calls leave can always be lent again.
use Rattle.std.specs.Prelude.{◌≡◌, Bool, false, cond, ◌&&◌, List, [], ◌∷◌, length, eqb}
use Rattle.std.proofs.Math.Option.{Option, none, some}
use Rattle.rules.specs.Size.{reply_size, events_size}
use Rattle.rules.specs.Octets.{Octets}
use Rattle.rules.specs.Path.{Connection, domain_of}
use Rattle.rules.specs.Sound.{known}
use Rattle.rules.specs.World.{World, Outcome, fresh_world}
use Rattle.rules.specs.Call.{Verdict, wrong_size, stranger, call_number, Tables, sized_tables, Lendable, world_of, tables_of, Result, frame_verdict}
use Rattle.rules.specs.Call.{turned_away, delivered, request_call}
use Rattle.laws.specs.History.{Call, History, served, after, run}

-- The fresh store is sound.
abbrev pub FreshIsSound : Type 0
FreshIsSound = Lendable (tables_of fresh_world)

-- From sound tables every call, whatever its message, leaves sound tables.
abbrev pub CallsKeepSound : Type 0
CallsKeepSound = (t : Tables) (reply events : Octets) (c : Connection) (m : Octets) → Lendable t → Lendable (request_call t reply events c m).tables

-- Sound bytes encode what they decode to.
abbrev pub SoundBytesStay : Type 0
SoundBytesStay = (t : Tables) → Lendable t → tables_of (world_of t) ≡ t

-- A call on sound bytes does to them what it does to the tables that they mean: histories of decoded tables are histories of the bytes.
abbrev pub CallsOnBytes : Type 0
CallsOnBytes =
    (t : Tables) (reply events : Octets) (c : Connection) (m : Octets) → Lendable t → length reply ≡ reply_size → length events ≡ events_size
    → world_of (request_call t reply events c m).tables ≡ after (world_of t) (record { sender = c; message = m })

-- After any history the tables' bytes are sound, and decoding them gives the tables back.
abbrev pub HistoriesAreSound : Type 0
HistoriesAreSound = (cs : History) → Lendable (tables_of (run fresh_world cs)) × (world_of (tables_of (run fresh_world cs)) ≡ run fresh_world cs)

-- ── histories on bytes ──

-- tables of which one has a wrong size
pub record Misfit : Type 0 where
  pub tables : Tables
  pub wrong : sized_tables tables ≡ false

-- a call, and what is lent with it: tables of a wrong size or else the store's own, and buffers for its reply and its events
pub record Lent : Type 0 where
  pub call : Call
  pub misfit : Option Misfit
  pub reply : Octets
  pub events : Octets

unfoldable pub lent_tables : Tables → Option Misfit → Tables
lent_tables t none = t
lent_tables t (some m) = m.tables

-- the whole result of a call that is lent the tables t
unfoldable pub result_on : Tables → Lent → Result
result_on t l = request_call (lent_tables t l.misfit) l.reply l.events l.call.sender l.call.message

-- the store's tables after the call, which it can alter only if they were lent
unfoldable pub left_by : Tables → Lent → Tables
left_by t l = elim l.misfit [ none ↦ (result_on t l).tables | some m ↦ t ]

unfoldable pub run_bytes : Tables → List Lent → Tables
run_bytes t [] = t
run_bytes t (l ∷ ls) = run_bytes (left_by t l) ls

-- the tables and the buffers have their sizes
unfoldable pub fitting : Lent → Bool
fitting l = elim l.misfit [ none ↦ eqb (length l.reply) reply_size && eqb (length l.events) events_size | some m ↦ false ]

-- the calls of which that holds; the others are turned away with number 1
unfoldable pub heeded : List Lent → History
heeded [] = []
heeded (l ∷ ls) = cond (fitting l) (l.call ∷ heeded ls) (heeded ls)

-- why a call is turned away: its sender isn't known, or its frame is broken or overlong
unfoldable pub verdict_on : World → Call → Verdict
verdict_on w c = cond (known (domain_of c.sender) w.domains) (frame_verdict c.message) stranger

-- the whole result by an outcome on decoded tables; with none the call is turned away
unfoldable pub result_of : Tables → Lent → Verdict → Option Outcome → Result
result_of t l v none = turned_away t l.reply l.events (call_number v)
result_of t l v (some o) = delivered t l.reply l.events l.call.message o

-- the whole result of the call in a history: number, results, reply, records and tables
unfoldable pub result_by : World → Lent → Result
result_by w l =
    let t = lent_tables (tables_of w) l.misfit in
    let answered = result_of t l (verdict_on w l.call) (served w l.call) in
    cond (fitting l) answered (result_of t l wrong_size none)

-- Calls made one after the other on the fresh store's bytes leave the bytes of what the history leaves,
-- and the whole result of each is that of the same call in the history: what is proved of histories, answers included, holds of the bytes.
abbrev pub HistoriesOnBytes : Type 0
HistoriesOnBytes =
    (ls : List Lent) (l : Lent) → let t = run_bytes (tables_of fresh_world) ls in let w = run fresh_world (heeded ls) in (t ≡ tables_of w)
    × (result_on t l ≡ result_by w l)
