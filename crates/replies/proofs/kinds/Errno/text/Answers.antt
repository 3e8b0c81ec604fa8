-- Each error's name, spelled out.
use mathlib.Core.Path.{refl}
use Rattle.rules.specs.Octets.{text}
use Rattle.rules.specs.Answer.{errno_text}
use Rattle.replies.proofs.kinds.Errno.text.Goals as goal

pub returns-in-Invalid : goal.returns-in-Invalid
unfolding errno_text text
returns-in-Invalid c = rw c.in-Invalid.is refl

pub returns-in-Access : goal.returns-in-Access
unfolding errno_text text
returns-in-Access c = rw c.in-Access.is refl

pub returns-in-Exists : goal.returns-in-Exists
unfolding errno_text text
returns-in-Exists c = rw c.in-Exists.is refl

pub returns-in-NoEntry : goal.returns-in-NoEntry
unfolding errno_text text
returns-in-NoEntry c = rw c.in-NoEntry.is refl

pub returns-in-NoSpace : goal.returns-in-NoSpace
unfolding errno_text text
returns-in-NoSpace c = rw c.in-NoSpace.is refl

pub returns-in-TooBig : goal.returns-in-TooBig
unfolding errno_text text
returns-in-TooBig c = rw c.in-TooBig.is refl

pub returns-in-Again : goal.returns-in-Again
unfolding errno_text text
returns-in-Again c = rw c.in-Again.is refl

pub returns-in-NoSystem : goal.returns-in-NoSystem
unfolding errno_text text
returns-in-NoSystem c = rw c.in-NoSystem.is refl
