-- Refusals: the proofs.
use mathlib.Core.Path.{◌≡◌, refl, subst}
use Prim.Native.Nat.{ℕ}
use Rattle.rules.specs.Answer.{Errno, EINVAL, EACCES, EEXIST, ENOENT, ENOSPC, E2BIG, EAGAIN, ENOSYS, refused}
use Rattle.rules.specs.World.{World, Outcome, left}
use Rattle.rules.specs.Call.{tx_of}
use Rattle.laws.specs.Refusals.{RefusalChangesNothing, EagainClosesAlone}
use Rattle.laws.proofs.Step.{Sent}
use Rattle.laws.proofs.Calls.{call_step}

leaves : (w : World) (tx : ℕ) (o : Outcome) (e : Errno) → Sent w tx o (refused e) → (e ≡ EAGAIN → ⊥) → o ≡ left w (refused e)
leaves w tx o EINVAL s n = s
leaves w tx o EACCES s n = s
leaves w tx o EEXIST s n = s
leaves w tx o ENOENT s n = s
leaves w tx o ENOSPC s n = s
leaves w tx o E2BIG s n = s
leaves w tx o EAGAIN s n = absurd (n refl)
leaves w tx o ENOSYS s n = s

pub refusal_changes_nothing : RefusalChangesNothing
refusal_changes_nothing w c o e s r n = leaves w (tx_of c.message) o e (subst (Sent w (tx_of c.message) o) r (call_step w c o s).sent) n

pub eagain_closes_alone : EagainClosesAlone
eagain_closes_alone w c o s r = subst (Sent w (tx_of c.message) o) r (call_step w c o s).sent
