-- A connection speaks for the domain of its own number.
use mathlib.Core.Path.{sym}
use Rattle.rules.proofs.Senders.{own-number}
use Rattle.senders.proofs.domain_of.Goals as goal

pub returns : goal.returns
returns c = sym (own-number _)
