-- What a node request's answer means in the rule book's terms.
use Rattle.std.specs.Prelude.{Result, Ok, Err, ◌≡◌, true, false, ◌<◌, length}
use Rattle.std.proofs.Math.Option.{Option, none, some}
use Rattle.rules.specs.Size.{reply_size}
use Rattle.rules.specs.Octets.{Octets}
use Rattle.rules.specs.Path.{Domain, Names, is_full, names_in}
use Rattle.rules.specs.Payload as P
use Rattle.rules.specs.Answer as A
use Rattle.rules.specs.Layout.{table_of, table_bytes}
use Rattle.rules.specs.Sound.{sound_table}
use Rattle.replies.specs.Meant.{Reply}
use Rattle.replies.specs.Framed.{Told}
use Rattle.replies.specs.declared.kinds.Errno.{Errno}
use Rattle.nodes.specs.declared.kinds.Effect.{Effect}
use Rattle.nodes.specs.declared.kinds.Effect.TheVariants.{Nothing, Wrote, Removed}
use Rattle.nodes.specs.declared.kinds.Given.{Given}

-- ── what is asked ──

-- a sound table and a full path's text
pub record Standing (t p : Octets) : Type 0 where
  pub sound : sound_table t ≡ true
  pub full : is_full p ≡ true

-- with a whole reply, and a domain that an entry can name
pub record Ready (t p reply : Octets) (d : Domain) : Type 0 where
  pub standing : Standing t p
  pub long : length reply ≡ reply_size
  pub domain : d < 65536

-- ── what is answered ──

-- a change names the path that was asked for
abbrev pub effect_meant : Effect → Names → Option A.Change
effect_meant Nothing ns = none
effect_meant (Wrote parents) ns = some (record { removal = false; parents = parents; names = ns })
effect_meant Removed ns = some (record { removal = true; parents = 0; names = ns })

-- what a request is answered
abbrev pub Answer : Type 0
Answer = Result Given Errno

-- its reply
abbrev pub told : Answer → Reply
told (Ok g) = Ok g.length
told (Err e) = Err e

-- its change of the path ns, none where it is an error
abbrev pub change_of : Answer → Names → Option A.Change
change_of (Ok g) ns = effect_meant g.effect ns
change_of (Err e) ns = none

-- the rule book's answer to a request for the path ns, given by r, the table t and the reply
pub record Answers (ns : Names) (a : A.Answer) (t before after : Octets) (r : Answer) : Type 0 where
  pub table : t ≡ table_bytes a.table
  pub change : change_of r ns ≡ a.change
  pub reply : Told a.reply (told r) before after

-- the rule book's answer to a request on the table t, which leaves t'
abbrev pub Answered : Domain → P.Ask → Octets → Octets → Octets → Octets → Octets → Answer → Type 0
Answered d ask p t t' before after r = Answers (names_in p) (A.answer d ask (names_in p) (table_of t)) t' before after r
