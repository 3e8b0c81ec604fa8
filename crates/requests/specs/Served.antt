-- What a request is handled on.
use Rattle.std.specs.Prelude.{◌≡◌, true, ◌≤◌, length}
use Rattle.rules.specs.Size.{reply_size, events_size, longest_payload}
use Rattle.rules.specs.Octets.{Octets}
use Rattle.rules.specs.Layout.{domains_of}
use Rattle.rules.specs.Sound.{known}
use Rattle.rules.specs.Call.{Tables, sized_tables, sound}
use Rattle.senders.specs.Speaks.{Speaks}
use Rattle.senders.specs.declared.Sender.{Sender}

-- sound tables, a known sender, whole buffers, and a payload that is not too long
pub record Served (t : Tables) (sender : Sender) (replied recorded s : Octets) : Type 0 where
  pub sized : sized_tables t ≡ true
  pub sound : sound t ≡ true
  pub speaks : Speaks sender
  pub known : known sender.domain (domains_of t.domains) ≡ true
  pub reply : length replied ≡ reply_size
  pub events : length recorded ≡ events_size
  pub payload : length s ≤ longest_payload
