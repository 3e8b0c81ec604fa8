-- What a reply of the code means in the rule book's terms.
use Rattle.std.specs.Prelude.{ℕ, Result, Ok, Err}
use Rattle.std.proofs.Math.Option.{Option, none, some}
use Rattle.rules.specs.Answer as A
use Rattle.replies.specs.declared.kinds.Errno.{Errno}
use Rattle.replies.specs.declared.kinds.Errno.TheVariants.{Invalid, Access, Exists, NoEntry, NoSpace, TooBig, Again, NoSystem}

abbrev pub errno_meant : Errno → A.Errno
errno_meant Invalid = A.EINVAL
errno_meant Access = A.EACCES
errno_meant Exists = A.EEXIST
errno_meant NoEntry = A.ENOENT
errno_meant NoSpace = A.ENOSPC
errno_meant TooBig = A.E2BIG
errno_meant Again = A.EAGAIN
errno_meant NoSystem = A.ENOSYS

-- the length of a payload, or an error
abbrev pub Reply : Type 0
Reply = Result ℕ Errno

abbrev pub refusal_meant : Reply → Option A.Errno
refusal_meant (Ok n) = none
refusal_meant (Err e) = some (errno_meant e)
