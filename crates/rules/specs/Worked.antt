-- Worked lines: calls from the fresh store, and what must be seen of each.
use Rattle.std.specs.Prelude.{Bool, true, ◌&&◌, List, [], ◌∷◌, ◌++◌, ℕ, length, get_or, eqb}
use Prim.Native.String as S
use Rattle.std.proofs.Math.Option.{none}
use Rattle.rules.specs.Octets.{Octets, text, nul, same, begins, four_bytes}
use Rattle.rules.specs.Domain.{Connection, domain_of}
use Rattle.rules.specs.Answer.{EINVAL, EACCES, ENOENT, ENOSPC, EAGAIN, Reply, done, refused, OK}
use Rattle.rules.specs.Layout.{slot_bytes}
use Rattle.rules.specs.Sound.{known}
use Rattle.rules.specs.World.{World, Outcome, fresh_world}
use Rattle.rules.specs.Call.{Tables, tables_of, is_handled, frame_verdict, outcome, reply_to}

-- ── a line ──

-- what is seen of a call: its whole reply, its event count, how a slot begins after it, or that every byte of the tables is as it was
pub data Seen : Type 0 where
  replies : Reply → Seen
  records : ℕ → Seen
  slot : ℕ → Octets → Seen
  unaltered : Seen

pub record Step : Type 0 where
  pub sender : Connection
  pub message : Octets
  pub seen : List Seen

-- the line as document 01 has it, and its calls from the fresh store
pub record Line : Type 0 where
  pub says : S.String
  pub steps : List Step

unfoldable pub same_tables : Tables → Tables → Bool
same_tables t u =
    same t.nodes u.nodes
    && (same t.copies u.copies && (same t.watches u.watches && (same t.transactions u.transactions && same t.domains u.domains)))

-- of a message on the tables w
unfoldable pub is_seen : World → Octets → Outcome → Seen → Bool
is_seen w m o (replies r) = same (reply_to m o.reply) (reply_to m r)
is_seen w m o (records n) = eqb (length o.records) n
is_seen w m o (slot i bytes) = begins bytes (slot_bytes (get_or o.world.nodes i none))
is_seen w m o unaltered = same_tables (tables_of w) (tables_of o.world)

unfoldable pub all_seen : World → Octets → Outcome → List Seen → Bool
all_seen w m o [] = true
all_seen w m o (s ∷ ss) = is_seen w m o s && all_seen w m o ss

-- each call is handled on the tables that the one before it left, and what must be seen is seen
unfoldable pub steps_hold : World → List Step → Bool
steps_hold w [] = true
steps_hold w (s ∷ ss) =
    let o = outcome w s.sender s.message in
    known (domain_of s.sender) w.domains && (is_handled (frame_verdict s.message) && (all_seen w s.message o s.seen && steps_hold o.world ss))

unfoldable pub line_holds : Line → Bool
line_holds l = steps_hold fresh_world l.steps

unfoldable pub all_hold : List Line → Bool
all_hold [] = true
all_hold (l ∷ ls) = line_holds l && all_hold ls

-- ── writing calls down ──

-- the message of a type, a tx_id and a payload; its req_id is 9
unfoldable pub message : ℕ → ℕ → Octets → Octets
message type tx payload = four_bytes type ++ (four_bytes 9 ++ (four_bytes tx ++ (four_bytes (length payload) ++ payload)))

unfoldable pub string : S.String → Octets
string s = text s ++ nul

-- a call and its reply
abbrev pub call : Connection → Octets → Reply → Step
call d m r = record { sender = d; message = m; seen = replies r ∷ [] }

abbrev pub READ : S.String → Octets
READ p = message 2 0 (string p)

abbrev pub WATCH : S.String → Octets
WATCH p = message 4 0 (string p ++ string "t")

-- with a depth, which is its token too
abbrev pub WATCHTO : S.String → S.String → Octets
WATCHTO p k = message 4 0 (string p ++ (string k ++ string k))

abbrev pub START : Octets
START = message 6 0 nul

-- END with T of transaction tx
abbrev pub COMMIT : ℕ → Octets
COMMIT tx = message 7 tx (string "T")

abbrev pub INTRODUCE : S.String → Octets
INTRODUCE d = message 8 0 (string d ++ (string "1" ++ string "1"))

-- in transaction tx, 0 outside
abbrev pub WRITEIN : ℕ → S.String → S.String → Octets
WRITEIN tx p v = message 11 tx (string p ++ text v)

abbrev pub WRITE : S.String → S.String → Octets
WRITE p v = WRITEIN 0 p v

abbrev pub MKDIR : S.String → Octets
MKDIR p = message 12 0 (string p)

abbrev pub RMIN : ℕ → S.String → Octets
RMIN tx p = message 13 tx (string p)

abbrev pub RM : S.String → Octets
RM p = RMIN 0 p

abbrev pub SETPERMS : S.String → Octets → Octets
SETPERMS p es = message 14 0 (string p ++ es)

-- ── the starred lines of document 01 ──

abbrev pub name32 : S.String
name32 = "/abcdefghijklmnopqrstuvwxyzABCDEF"

abbrev pub name33 : S.String
name33 = "/abcdefghijklmnopqrstuvwxyzABCDEFG"

abbrev pub depth8 : S.String
depth8 = "/1/2/3/4/5/6/7/8"

abbrev pub depth9 : S.String
depth9 = "/1/2/3/4/5/6/7/8/9"

abbrev pub value64 : S.String
value64 = "0123456789012345678901234567890123456789012345678901234567890123"

abbrev pub value65 : S.String
value65 = "01234567890123456789012345678901234567890123456789012345678901234"

unfoldable pub starred : List Line
starred =
    record { says = "0 READ `/`: empty payload."; steps = call 0 (READ "/") (done []) ∷ [] }
    ∷ record { says = "0 READ `/a`: ENOENT."; steps = call 0 (READ "/a") (refused ENOENT) ∷ [] }
    ∷ record { says = "3, introduced, READ `/a`: EACCES."; steps = call 0 (INTRODUCE "3") OK ∷ call 3 (READ "/a") (refused EACCES) ∷ [] }
    ∷ record {
      says = "0 WRITE `/a/b` `7`: OK; slot 1 begins 80 04 01, slot 2 begins 81 04 09, slot 0 80 00 01.";
      steps = record {
        sender = 0;
        message = WRITE "/a/b" "7";
        seen = replies OK ∷ slot 1 (0x80 ∷ 0x04 ∷ 0x01 ∷ []) ∷ slot 2 (0x81 ∷ 0x04 ∷ 0x09 ∷ []) ∷ slot 0 (0x80 ∷ 0x00 ∷ 0x01 ∷ []) ∷ [];
      } ∷ [];
    }
    ∷ record {
      says = "RM `/x`: OK, no change.";
      steps = record { sender = 0; message = RM "/x"; seen = replies OK ∷ records 0 ∷ unaltered ∷ [] } ∷ call 0 START (done (string "1")) ∷ call 0 (RM "/x") OK
          ∷ call 0 (COMMIT 1) OK ∷ [];
    }
    ∷ record { says = "RM `/x/y`: ENOENT."; steps = call 0 (RM "/x/y") (refused ENOENT) ∷ [] }
    ∷ record { says = "READ `/a/`: EINVAL."; steps = call 0 (READ "/a/") (refused EINVAL) ∷ [] }
    ∷ record {
      says = "Name of 32 bytes made, 33 ENOSPC; READ of the 33 is ENOENT.";
      steps = call 0 (MKDIR name32) OK ∷ call 0 (READ name32) (done []) ∷ call 0 (MKDIR name33) (refused ENOSPC) ∷ call 0 (READ name33) (refused ENOENT) ∷ [];
    }
    ∷ record {
      says = "Depth 8 made, 9 ENOSPC. Value 64 kept, 65 ENOSPC.";
      steps = call 0 (MKDIR depth8) OK ∷ call 0 (READ depth8) (done []) ∷ call 0 (MKDIR depth9) (refused ENOSPC) ∷ call 0 (WRITE "/v" value64) OK
          ∷ call 0 (READ "/v") (done (text value64)) ∷ call 0 (WRITE "/v" value65) (refused ENOSPC) ∷ call 0 (READ "/v") (done (text value64)) ∷ [];
    }
    ∷ record {
      says = "START `1`, plain WRITE `/a`, END T: EAGAIN; START is `1` again.";
      steps = call 0 START (done (string "1")) ∷ call 0 (WRITE "/a" "1") OK ∷ call 0 (COMMIT 1) (refused EAGAIN) ∷ call 0 START (done (string "1")) ∷ [];
    }
    ∷ record {
      says = "START, plain MKDIR `/`, END T: OK.";
      steps = call 0 START (done (string "1")) ∷ call 0 (MKDIR "/") OK ∷ call 0 (COMMIT 1) OK ∷ [];
    }
    ∷ record {
      says = "Entries `n3`, `r5`: 3 reads and writes, 5 reads, 6 neither.";
      steps = call 0 (INTRODUCE "3") OK ∷ call 0 (INTRODUCE "5") OK ∷ call 0 (INTRODUCE "6") OK ∷ call 0 (WRITE "/a" "1") OK
          ∷ call 0 (SETPERMS "/a" (string "n3" ++ string "r5")) OK ∷ call 3 (READ "/a") (done (text "1")) ∷ call 3 (WRITE "/a" "2") OK
          ∷ call 5 (READ "/a") (done (text "2")) ∷ call 5 (WRITE "/a" "3") (refused EACCES) ∷ call 6 (READ "/a") (refused EACCES)
          ∷ call 6 (WRITE "/a" "3") (refused EACCES) ∷ [];
    }
    ∷ []

-- ── lines that shut out the shortcuts "already taken once", and the unstarred line on a watch's depth ──

-- a call, its reply and its event count
abbrev pub heard_by : Connection → Octets → Reply → ℕ → Step
heard_by d m r n = record { sender = d; message = m; seen = replies r ∷ records n ∷ [] }

unfoldable pub added : List Line
added =
    record {
      says = "A change and its reverse are two changes: START, plain WRITE `/a`, plain RM `/a`, END T: EAGAIN.";
      steps = call 0 START (done (string "1")) ∷ call 0 (WRITE "/a" "1") OK ∷ call 0 (RM "/a") OK ∷ call 0 (COMMIT 1) (refused EAGAIN) ∷ [];
    }
    ∷ record {
      says = "A WRITE of the same value is a change: WRITE `/a` `1`, START, WRITE `/a` `1`, END T: EAGAIN.";
      steps = call 0 (WRITE "/a" "1") OK ∷ call 0 START (done (string "1")) ∷ call 0 (WRITE "/a" "1") OK ∷ call 0 (COMMIT 1) (refused EAGAIN) ∷ [];
    }
    ∷ record {
      says = "`/ab` is not below `/a`: a watch on `/a` is silent for WRITE `/ab`, and hears `/a` and `/a/b` at WRITE `/a/b`.";
      steps = heard_by 0 (WATCH "/a") OK 1 ∷ heard_by 0 (WRITE "/ab" "1") OK 0 ∷ heard_by 0 (WRITE "/a/b" "1") OK 2 ∷ [];
    }
    ∷ record {
      says = "A removal's watchers are judged by the store before it too: a watch on `/a/b` hears RM `/a`.";
      steps = call 0 (WRITE "/a/b" "1") OK ∷ heard_by 0 (WATCH "/a/b") OK 1 ∷ heard_by 0 (RM "/a") OK 1 ∷ [];
    }
    ∷ record {
      says = "The first entry is every other domain's access too: with `r3` alone 5 reads and does not write.";
      steps = call 0 (INTRODUCE "5") OK ∷ call 0 (WRITE "/a" "1") OK ∷ call 0 (SETPERMS "/a" (string "r3")) OK ∷ call 5 (READ "/a") (done (text "1"))
          ∷ call 5 (WRITE "/a" "2") (refused EACCES) ∷ [];
    }
    ∷ record {
      says = "The first later entry counts: with `n3`, `r5`, `w5` 5 reads and does not write.";
      steps =
          call 0 (INTRODUCE "5") OK ∷ call 0 (WRITE "/a" "1") OK ∷ call 0 (SETPERMS "/a" (string "n3" ++ (string "r5" ++ string "w5"))) OK ∷ call 5 (READ "/a")
          (done (text "1"))
          ∷ call 5 (WRITE "/a" "2") (refused EACCES) ∷ [];
    }
    ∷ record {
      says = "With `/a` present, watch `/a` depth 0 is silent for WRITE `/a/b`; depth 1 hears it.";
      steps = call 0 (MKDIR "/a") OK ∷ heard_by 0 (WATCHTO "/a" "0") OK 1 ∷ heard_by 0 (WRITE "/a/b" "1") OK 0 ∷ heard_by 0 (WATCHTO "/a" "1") OK 1
          ∷ heard_by 0 (WRITE "/a/b" "1") OK 1 ∷ heard_by 0 (WRITE "/a/b/c" "1") OK 0 ∷ [];
    }
    ∷ record {
      says = "On the fresh store watch `/a` depth 0 hears `/a` at WRITE `/a/b`, and nothing at the next.";
      steps = heard_by 0 (WATCHTO "/a" "0") OK 1 ∷ heard_by 0 (WRITE "/a/b" "1") OK 1 ∷ heard_by 0 (WRITE "/a/b" "1") OK 0 ∷ [];
    }
    ∷ record {
      says = "Each created node is heard: a watch on `/local` with depth 2 hears three of the four that WRITE `/local/domain/5/x` creates.";
      steps = heard_by 0 (WATCHTO "/local" "2") OK 1 ∷ heard_by 0 (WRITE "/local/domain/5/x" "1") OK 3 ∷ [];
    }
    ∷ record {
      says = "In a transaction a change creates what its copy lacks: WRITE `/a/b`, WRITE `/a/c`, END T are heard as `/a`, `/a/b`, `/a/c`.";
      steps = heard_by 0 (WATCH "/") OK 1 ∷ call 0 START (done (string "1")) ∷ heard_by 0 (WRITEIN 1 "/a/b" "1") OK 0
          ∷ heard_by 0 (WRITEIN 1 "/a/c" "1") OK 0 ∷ heard_by 0 (COMMIT 1) OK 3 ∷ [];
    }
    ∷ record {
      says = "A path that was created and removed again in one transaction is heard by nobody: WRITE `/a/b`, RM `/a/b`, END T are heard as `/a`.";
      steps = heard_by 0 (WATCH "/") OK 1 ∷ call 0 START (done (string "1")) ∷ call 0 (WRITEIN 1 "/a/b" "7") OK ∷ call 0 (RMIN 1 "/a/b") OK
          ∷ heard_by 0 (COMMIT 1) OK 1 ∷ [];
    }
    ∷ []
