-- The payload is behind the header already, or the error's name is put there, and the header goes before it.
use Prim.Native.Nat.{ℕ}
use Rattle.rules.specs.Call.{type_of}
use Rattle.replies.specs.Framed.{header}
use Rattle.rules.specs.Octets.{paste}
use mathlib.Core.Path.{◌∙◌, ap}
use Rattle.replies.proofs.FrameLaws.{done_framed, error_framed, held_done, written-fits}
use Rattle.replies.proofs.FrameLaws.{done_framed, error_framed}
use borrow.Author.Rules.{rules}
use Rattle.replies.proofs.frame.framed.Goals as goal

pub put_header-requires : goal.put_header-requires
put_header-requires c =
    (c.requires.0, c.requires.1, held_done _ _ c.in-Ok.is c.requires.2)

pub put_header-requires-in-Err : goal.put_header-requires-in-Err
put_header-requires-in-Err c =
    (c.requires.0, search rules, written-fits _ _ _ _ c.put_errno-n.ensures c.requires.1 (search rules))

pub returns-in-Ok : goal.returns-in-Ok
unfolding type_of
returns-in-Ok c =
    done_framed _ _ _ _ _ _ c.requires.0 c.in-Ok.is (c.put_header.ensures.1
    ∙ ap (λ (k : ℕ). paste 0 (header k c.args.message.now c.in-Ok.n) c.args.reply.now)
    c.number32.ensures) c.put_header.ensures.0

pub returns-in-Err : goal.returns-in-Err
returns-in-Err c =
    error_framed _ _ _ _ _ _ _ _ c.requires.0 c.in-Err.is c.put_errno-n.ensures c.put_header-in-Err.ensures.1
    c.put_header-in-Err.ensures.0
