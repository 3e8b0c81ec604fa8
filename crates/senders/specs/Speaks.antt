-- A sender is a connection with the domain that it speaks for.
use Rattle.std.specs.Prelude.{◌≡◌}
use Rattle.rules.specs.Domain.{domain_of}
use Rattle.senders.specs.declared.Sender.{Sender}

abbrev pub Speaks : Sender → Type 0
Speaks s = s.domain ≡ domain_of s.connection
